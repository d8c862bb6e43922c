-- Formatted numbers, and what they show.
use Rattle.std.specs.Prelude.{List}
use Rattle.fixed_decimal.specs.Unsigned.{Unsigned}
use Rattle.writeable.specs.Events.{Event}
use Rattle.icu_decimal.specs.Decimal.{DecimalFormat, unsigned_events}
use Rattle.icu_decimal.specs.Signed.{Signed, affixed_events}

-- a number without its sign, and all that it is written with
pub record FormattedNumber : Type 0 where
  pub format : DecimalFormat
  pub number : Unsigned

-- the events of a formatted number without sign
abbrev pub number_events : FormattedNumber → List Event
number_events f = unsigned_events f.format f.number

-- the events of a formatted decimal
abbrev pub signed_number_events : Signed FormattedNumber → List Event
signed_number_events f = affixed_events f.affixes (number_events f.value)
