-- Patterns of money and of percents: patterns of CLDR that have a place for the symbol, or for the percent sign, in each subpattern.
use Rattle.std.specs.Prelude.{ℕ, List, [], ◌∷◌, Bool, true, false, not, ◌==◌, Option, Some, None, Result, Ok, chars, if◌then◌else◌}
use Rattle.icu_dimension_data.specs.Patterns.{PatternText}
use Rattle.icu_dimension_tables.specs.NumberPatterns.{number_pattern_of}
use Rattle.icu_table_entries.specs.Named.{refused}
use Rattle.icu_table_entries.specs.Reading.{◌>>=◌}
use Rattle.icu_table_entries.specs.declared.error.EntryFault.TheVariants.{NoPercentPlace, NoSymbolPlace}
use Rattle.icu_table_entries.specs.declared.error.Position.{Position}
use Rattle.icu_table_entries.specs.declared.error.TableError.{TableError}

-- What a character of a pattern changes of whether it stands in a quote and whether a mark stood in the subpattern so far; nothing,
-- where a subpattern ends without it.
abbrev pub mark_step : ℕ → Bool → Bool → ℕ → Option (Bool × Bool)
mark_step mark quoted seen c =
    if c == 39 then Some (not quoted, seen)
    else if quoted then Some (true, seen)
    else if c == mark then Some (false, true)
    else if c == 59 then (if seen then Some (false, false) else None)
    else Some (false, seen)

-- whether a mark stands in each subpattern of the characters, outside quotes
unfoldable pub mark_in_each : ℕ → Bool → Bool → List ℕ → Bool
mark_in_each mark quoted seen [] = seen
mark_in_each mark quoted seen (c ∷ cs) = elim (mark_step mark quoted seen c) [
  | None ↦ false
  | Some state ↦ mark_in_each mark state.0 state.1 cs
]

-- `¤`, the place of a currency's symbol
abbrev pub symbol_mark : ℕ
symbol_mark = 164

-- `%`, the place of the percent sign
abbrev pub percent_mark : ℕ
percent_mark = 37

-- the pattern of a text that has the symbol's place in each subpattern
unfoldable pub money_pattern_of : Position → List ℕ → Result PatternText TableError
money_pattern_of position text = do
  pattern ← number_pattern_of position text
  if mark_in_each symbol_mark false false (chars text) then Ok pattern else refused position NoSymbolPlace

-- the pattern of a text that has the percent sign's place in each subpattern
unfoldable pub percent_pattern_of : Position → List ℕ → Result PatternText TableError
percent_pattern_of position text = do
  pattern ← number_pattern_of position text
  if mark_in_each percent_mark false false (chars text) then Ok pattern else refused position NoPercentPlace
