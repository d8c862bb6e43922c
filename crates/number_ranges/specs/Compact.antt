-- What is written for a range of compact numbers with a unit or with the name of a currency, by a rounding that is asked for.
use Rattle.std.specs.Prelude.{List, Result, Ok}
use Rattle.fixed_decimal.specs.declared.signs.Sign.{Sign}
use Rattle.fixed_decimal.specs.SignDisplay.{is_negative}
use Rattle.fixed_decimal.specs.Unsigned.{Unsigned}
use Rattle.writeable.specs.Events.{Event}
use Rattle.icu_pattern.specs.Patterns.{PatternText}
use Rattle.icu_decimal.specs.CompactFormat.{CompactFormat}
use Rattle.icu_dimension.specs.CompactMoney.{number_given}
use Rattle.icu_dimension.specs.Names.{NameText}
use Rattle.icu_dimension.specs.PluralFormat.{PluralFormat}
use Rattle.icu_unit_ranges.specs.NameRanges.{names_range_framed}
use Rattle.icu_unit_ranges.specs.PluralStyle.{PluralStyle}
use Rattle.icu_unit_ranges.specs.UnitRanges.{units_range_framed}
use Rattle.number_rounding.specs.declared.rounding.Rounding.{Rounding}
use Rattle.number_forms.specs.Shortened.{Shortened, shortened}
use Rattle.number_forms.specs.ShortenedWith.{operands_shown}
use Rattle.number_ranges.specs.declared.error.RangeTextError.{RangeTextError}
use Rattle.number_ranges.specs.Reported.{◌>>=◌, end_error, reported, start_error}

-- what is shown of the start, and of the end
abbrev pub start_shown : Rounding → CompactFormat → Sign × Unsigned → Result Shortened RangeTextError
start_shown by format d = reported start_error (shortened by format.table (is_negative d.0) d.1)

abbrev pub end_shown : Rounding → CompactFormat → Sign × Unsigned → Result Shortened RangeTextError
end_shown by format d = reported end_error (shortened by format.table (is_negative d.0) d.1)

-- two numbers that are shown with a unit, in the pattern of their range
abbrev pub units_shown : PluralFormat CompactFormat PatternText → PluralStyle → Sign → Sign → Shortened → Shortened → List Event
units_shown format style start_sign end_sign start end =
    units_range_framed style format.formatter.decimal.symbols format.rules format.elements start_sign end_sign
    (operands_shown start) (number_given format.formatter start.significand start.exponent)
    (operands_shown end) (number_given format.formatter end.significand end.exponent)

-- two amounts that are shown with the name of their range
abbrev pub names_shown : PluralFormat CompactFormat NameText → PluralStyle → Sign → Sign → Shortened → Shortened → List Event
names_shown format style start_sign end_sign start end =
    names_range_framed style format.formatter.decimal.symbols format.rules format.elements start_sign end_sign
    (operands_shown start) (number_given format.formatter start.significand start.exponent)
    (operands_shown end) (number_given format.formatter end.significand end.exponent)

-- two numbers with a unit, each shown by the rounding
abbrev pub units_shortened : Rounding → PluralFormat CompactFormat PatternText → PluralStyle → Sign × Unsigned → Sign × Unsigned →
    Result (List Event) RangeTextError
units_shortened by format style start end = do
  first ← start_shown by format.formatter start
  last ← end_shown by format.formatter end
  Ok (units_shown format style start.0 end.0 first last)

-- two amounts with the name of their currency, each shown by the rounding
abbrev pub names_shortened : Rounding → PluralFormat CompactFormat NameText → PluralStyle → Sign × Unsigned → Sign × Unsigned →
    Result (List Event) RangeTextError
names_shortened by format style start end = do
  first ← start_shown by format.formatter start
  last ← end_shown by format.formatter end
  Ok (names_shown format style start.0 end.0 first last)
