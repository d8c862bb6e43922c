use Rattle.std.proofs.Common.{◌≡◌, ◌++◌, chars, length}
use Rattle.std.specs.Str.{IsUtf8}
use Rattle.std.specs.Str.Iter.{chars_rest}
use Rattle.icu_dimension_data.specs.Comparing.{affix_characters}
use Rattle.icu_dimension_data.proofs.comparing.AffixCharacters.next_character.Given as goal

-- all characters are still left
abbrev pub invariant-loop-character : goal.invariant-loop-character
invariant-loop-character l = record {
  utf8 : IsUtf8 (chars_rest l.self-inside.text);
  left : chars (chars_rest l.self-inside.text) ++ affix_characters l.self-inside.texts.now l.self-inside.tokens.now ≡ l.fn.self;
}

abbrev pub decreases-loop-character : goal.decreases-loop-character
decreases-loop-character l = length l.self-inside.tokens.now
