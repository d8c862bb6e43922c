-- Patterns of CLDR in tables.
use Rattle.std.specs.Prelude.{ℕ, List, Result, Ok, Err}
use Rattle.icu_dimension_data.specs.Patterns.{PatternText}
use Rattle.icu_dimension_data.specs.Reading.{pattern_of}
use Rattle.icu_dimension_data.specs.declared.error.PatternFault.{PatternFault}
use Rattle.icu_dimension_data.specs.declared.error.PatternFault.TheVariants as pattern
use Rattle.icu_table_entries.specs.declared.error.EntryFault.TheVariants.{NoNumber, TwoNumbers, UnclosedQuote, ThirdSubpattern, ReservedCharacter}
use Rattle.icu_table_entries.specs.declared.error.Position.{Position}
use Rattle.icu_table_entries.specs.declared.error.TableError.{TableError}
use Rattle.icu_table_entries.specs.declared.error.TableError.TheVariants.{Entry, OutOfMemory}

-- how an entry is rejected for the first fault of a pattern
abbrev pub pattern_refusal : Position → PatternFault → TableError
pattern_refusal position (pattern.NoNumber byte) = Entry position.key position.index (NoNumber byte)
pattern_refusal position (pattern.TwoNumbers byte) = Entry position.key position.index (TwoNumbers byte)
pattern_refusal position (pattern.UnclosedQuote byte) = Entry position.key position.index (UnclosedQuote byte)
pattern_refusal position (pattern.ThirdSubpattern byte) = Entry position.key position.index (ThirdSubpattern byte)
pattern_refusal position (pattern.Reserved byte) = Entry position.key position.index (ReservedCharacter byte)
pattern_refusal position pattern.OutOfMemory = OutOfMemory

-- the pattern that was read, or the error of the entry
abbrev pub pattern_or_refused : Position → Result PatternText PatternFault → Result PatternText TableError
pattern_or_refused position (Ok pattern) = Ok pattern
pattern_or_refused position (Err fault) = Err (pattern_refusal position fault)

-- the pattern of a text
unfoldable pub number_pattern_of : Position → List ℕ → Result PatternText TableError
number_pattern_of position text = pattern_or_refused position (pattern_of text)
