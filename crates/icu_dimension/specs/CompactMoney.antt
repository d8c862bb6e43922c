-- Compact amounts of money: for each sign a compact formatter, whose patterns have the sign and the symbol in them; and the
-- patterns of money, for numbers that no compact pattern shortens.
use Rattle.std.specs.Prelude.{ℕ, List, Option, is_some, if◌then◌else◌}
use Rattle.fixed_decimal.specs.declared.signs.Sign.{Sign}
use Rattle.fixed_decimal.specs.declared.signs.Sign.TheVariants.{None as NoSign, Negative, Positive}
use Rattle.fixed_decimal.specs.Size.{place}
use Rattle.fixed_decimal.specs.Unsigned.{Unsigned}
use Rattle.writeable.specs.Events.{Event}
use Rattle.icu_plurals.specs.Rules.{Rule}
use Rattle.icu_decimal_data.specs.CompactTable.{TableEntry, entry_for}
use Rattle.icu_decimal.specs.CompactFormat.{CompactFormat, FormattedCompact, compact_number_events, filled_events, magnitude_with, significand_of}
use Rattle.icu_decimal.specs.Decimal.{DecimalFormat}
use Rattle.icu_dimension_data.specs.Resolved.{Signed}
use Rattle.icu_dimension.specs.Money.{SignedFormat, sign_framed}
use Rattle.icu_dimension_data.specs.declared.compact_currency_patterns.CompactCurrencyPatterns.{CompactCurrencyPatterns}

-- a compact formatter for each sign, and the patterns of money
pub record CompactMoney : Type 0 where
  pub none : CompactFormat
  pub minus : CompactFormat
  pub plus : CompactFormat
  pub patterns : Signed

-- the compact formatter of a sign
abbrev pub formatter_of : CompactMoney → Sign → CompactFormat
formatter_of f NoSign = f.none
formatter_of f Negative = f.minus
formatter_of f Positive = f.plus

-- the entry of the magnitude of a significand with an exponent; none below the first type of the table
abbrev pub entry_with : List TableEntry → Unsigned → ℕ → Option TableEntry
entry_with table significand exponent = entry_for table (place (magnitude_with significand exponent))

-- the entry by which a compact number is displayed
abbrev pub entry_shown : List TableEntry → FormattedCompact → Option TableEntry
entry_shown table number = entry_with table (significand_of number) number.exponent

-- what is written for a compact number: its characters, if it is displayed by an entry, whose pattern has the symbol and the
-- sign in it; else its characters in the pattern of the sign
abbrev pub compact_events : List TableEntry → Signed → Sign → FormattedCompact → List Event
compact_events table patterns sign number =
    if is_some (entry_shown table number) then compact_number_events number else sign_framed patterns sign (compact_number_events number)

-- a significand with an exponent, as they are given, in the pattern of their entry, with the parts of the number
abbrev pub number_given : CompactFormat → Unsigned → ℕ → List Event
number_given format significand exponent = filled_events format (entry_with format.table significand exponent) significand

-- what is written for such a number: the same, if an entry displays it; else in the pattern of the sign
abbrev pub amount_given : CompactFormat → Signed → Sign → Unsigned → ℕ → List Event
amount_given format patterns sign significand exponent =
    if is_some (entry_with format.table significand exponent) then number_given format significand exponent
    else sign_framed patterns sign (number_given format significand exponent)

-- a compact formatter with a table
abbrev pub with_table : DecimalFormat → List Rule → List TableEntry → CompactFormat
with_table decimal rules table = record { decimal = decimal; rules = rules; table = table }

-- a money formatter, with the compact tables of its currency
abbrev pub compact_money : SignedFormat DecimalFormat → List Rule → CompactCurrencyPatterns → CompactMoney
compact_money money rules tables = record {
  none = with_table money.formatter rules tables.none;
  minus = with_table money.formatter rules tables.minus;
  plus = with_table money.formatter rules tables.plus;
  patterns = money.patterns;
}
