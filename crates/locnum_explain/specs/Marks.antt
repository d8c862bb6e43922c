-- The parts that are marked in an explanation. In compact numbers all parts of the number are marked, where the text itself has but
-- that of the sign.
use Rattle.std.specs.Prelude.{List, Result, Ok, Err, if◌then◌else◌}
use Rattle.fixed_decimal.specs.Size.{size}
use Rattle.fixed_decimal.specs.Unsigned.{Unsigned}
use Rattle.fixed_decimal.specs.declared.signs.Sign.{Sign}
use Rattle.fixed_decimal.specs.declared.signs.Sign.TheVariants.{None as NoSign}
use Rattle.writeable.specs.Events.{Event}
use Rattle.icu_decimal.specs.CompactFormat.{CompactFormat, FormattedCompact, events_with_exponent, significand_of}
use Rattle.icu_dimension.specs.CompactMoney.{CompactMoney, formatter_of}
use Rattle.icu_dimension.specs.Money.{sign_framed}
use Rattle.decimal_lines.specs.Computed.{nearest_number}
use Rattle.decimal_lines.specs.declared.single_text.TextError.{TextError}
use Rattle.decimal_lines.specs.declared.mode.Mode.TheVariants.{Plain, Compact}
use Rattle.number_formatters.specs.declared.formatter.Formatter.{Formatter}
use Rattle.number_formatters.specs.declared.formatter.Formatter.TheVariants.{Numbers, ShortNumbers, Money, MoneyNamed, MoneyShort, Percent, Units}
use Rattle.number_formatters.specs.declared.formatter.Formatter.TheVariants.{ShortMoney, ShortNamed, ShortUnits}
use Rattle.number_forms.specs.CompactMoney.{compacted}
use Rattle.locnum_explain.specs.Compact.{has_entry}

-- a compact number as `format_with_exponent` writes its significand and its exponent, with the number's parts
abbrev pub marks_with_exponent : CompactFormat → Sign → FormattedCompact → List Event
marks_with_exponent format sign number = events_with_exponent format sign (significand_of number) number.exponent

-- that of the compact number nearest to d
abbrev pub number_marks : CompactFormat → Sign → Unsigned → List Event
number_marks format sign d = marks_with_exponent format sign (compacted format d (nearest_number format.table (size d)))

-- that of an amount, whose sign stands in the patterns: in the pattern of money where no entry displays it
abbrev pub amount_marks : CompactMoney → Sign → Unsigned → List Event
amount_marks f sign d =
    if has_entry (formatter_of f sign) d then number_marks (formatter_of f sign) NoSign d
    else sign_framed f.patterns sign (number_marks (formatter_of f sign) NoSign d)

-- The events whose parts are marked of a decimal that is written, by those that the form writes: these events themselves but for
-- compact numbers.
abbrev pub marks_by : Formatter → List Event → Sign → Unsigned → List Event
marks_by (Numbers (Plain format)) events sign d = events
marks_by (Numbers (Compact format)) events sign d = number_marks format sign d
marks_by (ShortNumbers format by) events sign d = events
marks_by (ShortMoney format by) events sign d = events
marks_by (ShortNamed format by) events sign d = events
marks_by (ShortUnits format by) events sign d = events
marks_by (Money format) events sign d = events
marks_by (MoneyNamed format) events sign d = events
marks_by (MoneyShort format) events sign d = amount_marks format sign d
marks_by (Percent format) events sign d = events
marks_by (Units format) events sign d = events

abbrev pub marks_of : Formatter → List Event → Result (Sign × Unsigned) TextError → List Event
marks_of formatter events (Ok (sign, d)) = marks_by formatter events sign d
marks_of formatter events (Err error) = events
