-- What stands around numbers of one sign, as a pattern with one placeholder: all of it is the literal, without parts.
use Rattle.std.specs.Prelude.{ℕ, List, ◌++◌, Some, length}
use Rattle.writeable.specs.Events.{text_of}
use Rattle.icu_pattern.specs.Patterns.{PatternText}
use Rattle.icu_dimension_data.specs.declared.affix_token.AffixToken.{AffixToken}
use Rattle.icu_dimension_data.specs.Resolved.{Texts}
use Rattle.icu_dimension_data.specs.Surrounding.{SignedText, affix_events}

-- the text of tokens
abbrev pub affix_text : Texts → List AffixToken → List ℕ
affix_text texts ts = text_of (affix_events texts ts)

-- what stands before the number, the placeholder, and what stands after it
abbrev pub flat : SignedText → PatternText
flat p = record {
  placeholder = Some (length (affix_text p.texts p.affixes.before));
  literal = affix_text p.texts p.affixes.before ++ affix_text p.texts p.affixes.after;
}
