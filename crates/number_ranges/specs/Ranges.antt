-- Two decimals as a range, where ranges have no plural categories: its events, or why there are none.
use Rattle.std.specs.Prelude.{int_lt, List, Result, Ok, Err, if◌then◌else◌}
use Rattle.fixed_decimal.specs.declared.signed.Decimal.{Decimal}
use Rattle.fixed_decimal.specs.declared.signs.Sign.{Sign}
use Rattle.fixed_decimal.specs.Unsigned.{Unsigned}
use Rattle.writeable.specs.Events.{Event, without_parts}
use Rattle.icu_decimal_interface.specs.Shown.{plain_shown}
use Rattle.icu_ranges.specs.Around.{amounts_of}
use Rattle.icu_ranges.specs.Order.{signed_size}
use Rattle.icu_ranges.specs.Ranges.{RangeStyle, range_of}
use Rattle.number_formatters.specs.declared.formatter.Formatter.{Formatter}
use Rattle.number_formatters.specs.declared.formatter.Formatter.TheVariants.{Money, Percent}
use Rattle.number_forms.specs.Forms.{formatter_events}
use Rattle.number_ranges.specs.declared.error.RangeTextError.{RangeTextError}
use Rattle.number_ranges.specs.declared.error.RangeTextError.TheVariants.{Descending}
use Rattle.number_ranges.specs.Reported.{◌>>=◌, end_error, reported, start_error}

-- a number and its sign as a decimal
abbrev pub as_decimal : Sign × Unsigned → Decimal
as_decimal d = record { sign = d.0; absolute = d.1 }

-- the first number isn't above the second; -0 is 0, and 1.0 is 1
abbrev pub ascending : Sign × Unsigned → Sign × Unsigned → Result (Unit {0}) RangeTextError
ascending start end = if int_lt (signed_size (as_decimal end)) (signed_size (as_decimal start)) then Err Descending else Ok tt

-- two decimals, each written whole, without the parts of its text
abbrev pub whole_range : Formatter → RangeStyle → Sign × Unsigned → Sign × Unsigned → Result (List Event) RangeTextError
whole_range formatter style start end = do
  first ← reported start_error (formatter_events formatter start.0 start.1)
  last ← reported end_error (formatter_events formatter end.0 end.1)
  Ok (range_of style (without_parts first) (without_parts last))

-- what is written for two decimals: those of money and percents in the patterns of their signs
abbrev pub written_range : Formatter → RangeStyle → Sign × Unsigned → Sign × Unsigned → Result (List Event) RangeTextError
written_range (Money format) style start end = Ok (amounts_of style format.patterns start.0 end.0
    (plain_shown format.formatter start.1).events (plain_shown format.formatter end.1).events)
written_range (Percent format) style start end = Ok (amounts_of style format.patterns start.0 end.0
    (plain_shown format.formatter start.1).events (plain_shown format.formatter end.1).events)
written_range formatter style start end = whole_range formatter style start end
