-- What a form writes for the range of two texts: its events, or why there are none.
use Rattle.std.specs.Prelude.{ℕ, List, Result, Ok}
use Rattle.fixed_decimal.specs.declared.signs.Sign.{Sign}
use Rattle.fixed_decimal.specs.Unsigned.{Unsigned}
use Rattle.writeable.specs.Events.{Event}
use Rattle.icu_pattern.specs.Patterns.{PatternText}
use Rattle.icu_decimal.specs.Decimal.{DecimalFormat}
use Rattle.icu_decimal_interface.specs.Shown.{operands_shown, plain_shown}
use Rattle.icu_dimension.specs.Names.{NameText}
use Rattle.icu_dimension.specs.PluralFormat.{PluralFormat}
use Rattle.icu_unit_ranges.specs.NameRanges.{names_range_framed}
use Rattle.icu_unit_ranges.specs.PluralStyle.{PluralStyle}
use Rattle.icu_unit_ranges.specs.UnitRanges.{units_range_framed}
use Rattle.number_formatters.specs.declared.formatter.Formatter.{Formatter}
use Rattle.number_formatters.specs.declared.formatter.Formatter.TheVariants.{MoneyNamed, ShortNamed, Units, ShortUnits}
use Rattle.number_forms.specs.Decimals.{scaled_decimal, shown_decimal}
use Rattle.number_forms.specs.Forms.{FormData}
use Rattle.number_ranges.specs.declared.error.RangeTextError.{RangeTextError}
use Rattle.number_ranges.specs.Compact.{names_shortened, units_shortened}
use Rattle.number_ranges.specs.Ranges.{ascending, written_range}
use Rattle.number_ranges.specs.Reported.{◌>>=◌, end_error, reported, start_error}

-- two numbers with a unit, in the pattern of their range
abbrev pub units_written : PluralFormat DecimalFormat PatternText → PluralStyle → Sign × Unsigned → Sign × Unsigned → List Event
units_written format style start end = units_range_framed style format.formatter.symbols format.rules format.elements start.0 end.0
    (operands_shown (plain_shown format.formatter start.1)) (plain_shown format.formatter start.1).events
    (operands_shown (plain_shown format.formatter end.1)) (plain_shown format.formatter end.1).events

-- two amounts with the name of their range
abbrev pub names_written : PluralFormat DecimalFormat NameText → PluralStyle → Sign × Unsigned → Sign × Unsigned → List Event
names_written format style start end = names_range_framed style format.formatter.symbols format.rules format.elements start.0 end.0
    (operands_shown (plain_shown format.formatter start.1)) (plain_shown format.formatter start.1).events
    (operands_shown (plain_shown format.formatter end.1)) (plain_shown format.formatter end.1).events

-- what is written for two decimals: those with a unit or a name in the pattern of their range's category
abbrev pub written_by_category : Formatter → PluralStyle → Sign × Unsigned → Sign × Unsigned → Result (List Event) RangeTextError
written_by_category (Units format) style start end = Ok (units_written format style start end)
written_by_category (MoneyNamed format) style start end = Ok (names_written format style start end)
written_by_category (ShortUnits format by) style start end = units_shortened by format style start end
written_by_category (ShortNamed format by) style start end = names_shortened by format style start end
written_by_category formatter style start end = written_range formatter style.style start end

-- what a form writes for the range of two texts: each is read, scaled and rounded; then the range is written
unfoldable pub range_events : FormData → PluralStyle → List ℕ → List ℕ → Result (List Event) RangeTextError
range_events form style start end = do
  first ← reported start_error (shown_decimal form start)
  last ← reported end_error (shown_decimal form end)
  lower ← reported start_error (scaled_decimal form start)
  upper ← reported end_error (scaled_decimal form end)
  y ← ascending lower upper
  written_by_category form.formatter style first last
