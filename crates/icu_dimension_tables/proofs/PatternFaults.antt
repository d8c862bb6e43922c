-- What a pattern of CLDR in a table is read as, by the clauses of the call that reads it.
use Rattle.std.proofs.Common.{◌≡◌, ℕ, List, Result, Ok, Err, ap}
use Rattle.std.specs.Result.{IsOkUnless}
use Rattle.std.specs.Prelude.{MatchResult}
use Rattle.icu_dimension_data.specs.Patterns.{PatternText}
use Rattle.icu_dimension_data.specs.Reading.{pattern_of}
use Rattle.icu_dimension_data.specs.declared.error.PatternFault.{PatternFault}
use Rattle.icu_dimension_data.specs.declared.error.PatternFault.TheVariants.{NoNumber, TwoNumbers, UnclosedQuote, ThirdSubpattern, Reserved}
use Rattle.icu_dimension_data.specs.declared.error.PatternFault.TheVariants.{OutOfMemory}
use Rattle.icu_dimension_tables.specs.NumberPatterns.{number_pattern_of, pattern_or_refused, pattern_refusal}
use Rattle.icu_table_entries.specs.Reading.{Fails}
use Rattle.icu_table_entries.specs.declared.error.Position.{Position}

-- a pattern is read
pub pattern_read : (position : Position) (text : List ℕ) (p : PatternText) → pattern_of text ≡ Ok p → number_pattern_of position text ≡ Ok p
unfolding number_pattern_of
pattern_read position text p h = ap (pattern_or_refused position) h

-- the answer of a fault
abbrev pub fault_answer : PatternFault → Result PatternText PatternFault
fault_answer fault = Err fault

-- what the call says of what it was to read, where it answers this fault
abbrev pub Answers : PatternFault → Result PatternText PatternFault → Type 0
Answers fault r = MatchResult r (λ _. IsOkUnless (fault_answer fault) OutOfMemory) (λ f. fault_answer fault ≡ Err f)

told : (fault : PatternFault) (r : Result PatternText PatternFault) → Answers fault r → (fault ≡ OutOfMemory → ⊥) → r ≡ Err fault
told fault (Ok p) h other = let same : fault ≡ OutOfMemory = cc in absurd (other same)
told fault (Err f) h other = let same : f ≡ fault = cc in ap Err same

refused : (position : Position) (text : List ℕ) (fault : PatternFault) → Answers fault (pattern_of text) → (fault ≡ OutOfMemory → ⊥)
    → number_pattern_of position text ≡ Err (pattern_refusal position fault)
unfolding number_pattern_of
refused position text fault h other = ap (pattern_or_refused position) (told fault (pattern_of text) h other)

-- a fault is that of the pattern, but because memory ran out
pub pattern_failed : (position : Position) (text : List ℕ) (fault : PatternFault) → Answers fault (pattern_of text)
    → Fails {Y = PatternText} (pattern_refusal position fault) (number_pattern_of position text)
pattern_failed position text (NoNumber byte) h = refused position text (NoNumber byte) h (λ same. absurd cc)
pattern_failed position text (TwoNumbers byte) h = refused position text (TwoNumbers byte) h (λ same. absurd cc)
pattern_failed position text (UnclosedQuote byte) h = refused position text (UnclosedQuote byte) h (λ same. absurd cc)
pattern_failed position text (ThirdSubpattern byte) h = refused position text (ThirdSubpattern byte) h (λ same. absurd cc)
pattern_failed position text (Reserved byte) h = refused position text (Reserved byte) h (λ same. absurd cc)
pattern_failed position text OutOfMemory h = tt
