-- The pattern that a text spells, or its first fault.
use Rattle.std.specs.Prelude.{ℕ, ◌+◌, List, [], ◌∷◌, ◌++◌, Option, Some, None, Result, Ok, Err, chars, length}
use Rattle.std.specs.Char.{encode_utf8}
use Rattle.icu_dimension_data.specs.declared.affix_token.AffixToken.{AffixToken}
use Rattle.icu_dimension_data.specs.declared.error.PatternFault.{PatternFault}
use Rattle.icu_dimension_data.specs.declared.stepping.Section.{Section}
use Rattle.icu_dimension_data.specs.declared.stepping.Section.TheVariants.{Before, Number, After}
use Rattle.icu_dimension_data.specs.declared.stepping.State.{State}
use Rattle.icu_dimension_data.specs.declared.stepping.Added.{Added}
use Rattle.icu_dimension_data.specs.declared.stepping.Added.TheVariants.{Nothing, Token, Subpattern}
use Rattle.icu_dimension_data.specs.declared.stepping.Step.{Step}
use Rattle.icu_dimension_data.specs.Patterns.{Affixes, PatternText, no_affixes}
use Rattle.icu_dimension_data.specs.Stepping.{start, step, end_fault}

-- what was read so far: the first subpattern, if the second has begun, and the current one
pub record Drafted : Type 0 where
  pub whole : Option Affixes
  pub current : Affixes

-- nothing is read
abbrev pub empty_draft : Drafted
empty_draft = record { whole = None; current = no_affixes }

-- a token more, before the number or after it
abbrev pub token_in : Section → AffixToken → Affixes → Affixes
token_in Before t a = record { before = a.before ++ t ∷ []; after = a.after }
token_in Number t a = record { before = a.before; after = a.after ++ t ∷ [] }
token_in After t a = record { before = a.before; after = a.after ++ t ∷ [] }

-- what a character adds
abbrev pub with_added : Section → Added → Drafted → Drafted
with_added section Nothing d = d
with_added section (Token t) d = record { whole = d.whole; current = token_in section t d.current }
with_added section Subpattern d = record { whole = Some d.current; current = no_affixes }

-- what a step leaves of what is read so far
abbrev pub with_step : Step → Drafted → Drafted
with_step t d = with_added t.state.section t.added d

-- the pattern of what was read
abbrev pub pattern_by : Option Affixes → Affixes → PatternText
pattern_by None current = record { first = current; second = None }
pattern_by (Some whole) current = record { first = whole; second = Some current }

-- the pattern of a draft
abbrev pub completed : Drafted → PatternText
completed d = pattern_by d.whole d.current

-- the pattern, or the fault of its end
abbrev pub ended : Option PatternFault → Drafted → Result PatternText PatternFault
ended None d = Ok (completed d)
ended (Some fault) d = Err fault

-- the pattern of what was read and of the characters that are left, the first of them at a byte; or their first fault
unfoldable pub reading_from : State → Drafted → ℕ → List ℕ → Result PatternText PatternFault
reading_from s d at [] = ended (end_fault s at) d
reading_from s d at (c ∷ cs) = elim (step s at c) [
  | Err fault ↦ Err fault
  | Ok t ↦ reading_from t.state (with_step t d) (at + length (encode_utf8 c)) cs
]

-- the pattern of a text, or its first fault
unfoldable pub pattern_of : List ℕ → Result PatternText PatternFault
pattern_of text = reading_from start empty_draft 0 (chars text)
