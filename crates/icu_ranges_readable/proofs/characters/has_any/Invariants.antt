use Rattle.std.proofs.Common.{◌≡◌, chars, drop}
use Rattle.icu_ranges_readable.specs.Characters.{has_any}
use Rattle.icu_ranges_readable.proofs.characters.has_any.Given as goal

-- what is left has the answer
abbrev pub invariant-loop-character : goal.invariant-loop-character
invariant-loop-character l = has_any (drop l.character-index l.characters) (chars l.text) ≡ has_any l.characters (chars l.text)
