-- What a compact formatter writes for a decimal (ICU4X `CompactDecimalFormatter`; UTS 35 Part 3, Compact Number Formats).
use Rattle.std.specs.Prelude.{◌≡◌, ℕ, List, Option, ℤ, pos, ◌+ℤ◌}
use Rattle.fixed_decimal.specs.declared.signs.Sign.{Sign}
use Rattle.fixed_decimal.specs.Size.{place, size, magnitude}
use Rattle.fixed_decimal.specs.Unsigned.{Unsigned}
use Rattle.writeable.specs.Events.{Event, without_parts}
use Rattle.icu_plurals.specs.Operands.{operands_of}
use Rattle.icu_pattern.specs.Patterns.{PatternText, interpolated}
use Rattle.icu_plurals.specs.Rules.{Rule, category_of}
use Rattle.icu_decimal_data.specs.CompactTable.{TableEntry, entry_for, exponent_for, exponent_of}
use Rattle.icu_decimal_data.specs.Faithful.{pattern_for}
use Rattle.icu_decimal.specs.Decimal.{DecimalFormat, signed_events, unsigned_events}
use Rattle.icu_decimal.specs.Decomposed.{IsDecomposed}
use Rattle.icu_decimal.specs.Formatted.{FormattedNumber, number_events}
use Rattle.icu_decimal.specs.Signed.{Signed, affixed_events, affixes_for}

-- what determines the output of a compact formatter: the format of plain numbers, plural rules, and a compact table
pub record CompactFormat : Type 0 where
  pub decimal : DecimalFormat
  pub rules : List Rule
  pub table : List TableEntry

-- the pattern of an entry for a significand, by the plural operands of the significand without exponent; without an entry
-- that of the number alone
abbrev pub pattern_of : CompactFormat → Option TableEntry → Unsigned → PatternText
pattern_of format entry significand =
    pattern_for (operands_of significand 0) (category_of format.rules (operands_of significand 0)) entry

-- the significand in its pattern, with the parts of the number
abbrev pub filled_events : CompactFormat → Option TableEntry → Unsigned → List Event
filled_events format entry significand = interpolated (pattern_of format entry significand) (unsigned_events format.decimal significand)

-- The decimal d is written by `format` as these events, with a significand and an exponent: there are a size, which is
-- the compact number nearest to d, and an entry, which is the displayed one, such that the significand times ten to the
-- entry's exponent is the size; and the events are the sign around the characters of the significand in its pattern.
pub record IsCompactFormat (format : CompactFormat) (sign : Sign) (d significand : Unsigned) (exponent : ℕ) (events : List Event) : Type 0 where
  pub shown : ℕ
  pub entry : Option TableEntry
  pub decomposed : IsDecomposed format.table d shown entry significand
  pub exponent_is : exponent ≡ exponent_of entry
  pub events_are : events ≡ signed_events format.decimal.symbols sign (without_parts (filled_events format entry significand))

-- the magnitude of a significand with an exponent
abbrev pub magnitude_with : Unsigned → ℕ → ℤ
magnitude_with significand exponent = magnitude (size significand) +ℤ pos exponent

-- the exponent that a significand with an exponent needs: that of its magnitude
abbrev pub exponent_needed : CompactFormat → Unsigned → ℕ → ℕ
exponent_needed format significand exponent = exponent_for format.table (place (magnitude_with significand exponent))

-- what `format_with_exponent` writes: the sign around the digits as they are given, in their pattern, with their parts
abbrev pub events_with_exponent : CompactFormat → Sign → Unsigned → ℕ → List Event
events_with_exponent format sign significand exponent =
    signed_events format.decimal.symbols sign (filled_events format (entry_for format.table (place (magnitude_with significand exponent))) significand)

-- a number in a pattern
pub record FilledNumber : Type 0 where
  pub pattern : PatternText
  pub number : FormattedNumber

-- a significand in the pattern of an entry
abbrev pub filled_by : CompactFormat → Option TableEntry → Unsigned → FilledNumber
filled_by format entry significand = record {
  pattern = pattern_of format entry significand;
  number = record { format = format.decimal; number = significand };
}

-- what `format_with_exponent` answers: the digits as they are given, in their pattern, and the affixes of the sign
abbrev pub value_with_exponent : CompactFormat → Sign → Unsigned → ℕ → Signed FilledNumber
value_with_exponent format sign significand exponent = record {
  affixes = affixes_for format.decimal.symbols sign;
  value = filled_by format (entry_for format.table (place (magnitude_with significand exponent))) significand;
}

-- its events
abbrev pub filled_number_events : FilledNumber → List Event
filled_number_events f = interpolated f.pattern (number_events f.number)

-- the events of such a number with a sign
abbrev pub signed_filled_events : Signed FilledNumber → List Event
signed_filled_events f = affixed_events f.affixes (filled_number_events f.value)

-- a compact number: a significand in its pattern, and its exponent
pub record FormattedCompact : Type 0 where
  pub filled : FilledNumber
  pub exponent : ℕ

-- its significand
abbrev pub significand_of : FormattedCompact → Unsigned
significand_of f = f.filled.number.number

-- its events: characters alone
abbrev pub compact_number_events : FormattedCompact → List Event
compact_number_events f = without_parts (filled_number_events f.filled)

-- the events of a compact number with a sign
abbrev pub signed_compact_events : Signed FormattedCompact → List Event
signed_compact_events f = affixed_events f.affixes (compact_number_events f.value)

-- What `format` makes of the decimal d without its sign: the displayed significand in the pattern of the displayed entry,
-- and that entry's exponent.
pub record IsCompacted (format : CompactFormat) (d : Unsigned) (number : FormattedCompact) : Type 0 where
  pub shown : ℕ
  pub entry : Option TableEntry
  pub decomposed : IsDecomposed format.table d shown entry (significand_of number)
  pub exponent_is : number.exponent ≡ exponent_of entry
  pub filled_is : number.filled ≡ filled_by format entry (significand_of number)
