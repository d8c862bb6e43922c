-- Compact amounts of money, computed: what is written for the compact number that is nearest to an amount.
use Rattle.std.specs.Prelude.{ℕ, List, nat_le, Result, Ok, Err, if◌then◌else◌, pos}
use Rattle.fixed_decimal.specs.declared.signs.Sign.{Sign}
use Rattle.fixed_decimal.specs.Size.{size, ten_to}
use Rattle.fixed_decimal.specs.Unsigned.{Unsigned}
use Rattle.writeable.specs.Events.{Event}
use Rattle.icu_decimal_data.specs.CompactTable.{exponent_of}
use Rattle.icu_decimal.specs.CompactFormat.{CompactFormat, FormattedCompact, filled_by}
use Rattle.icu_decimal.specs.Decomposed.{decomposed_entry}
use Rattle.icu_dimension_data.specs.Resolved.{Signed}
use Rattle.icu_dimension.specs.CompactMoney.{CompactMoney, compact_events, formatter_of}
use Rattle.decimal_lines.specs.Computed.{nearest_number, significand_shown}
use Rattle.decimal_lines.specs.declared.single_text.TextError.{TextError}
use Rattle.decimal_lines.specs.declared.single_text.TextError.TheVariants.{Overflow}

-- the compact number by which d is displayed as the size y
abbrev pub compacted : CompactFormat → Unsigned → ℕ → FormattedCompact
compacted format d y = record {
  filled = filled_by format (decomposed_entry format.table y) (significand_shown format.table d y);
  exponent = exponent_of (decomposed_entry format.table y);
}

-- what a compact formatter writes for the compact number nearest to d, in the pattern of money of the sign where no entry displays it;
-- `Overflow` if that number is ten to the power 32768 or more
abbrev pub nearest_events : CompactFormat → Signed → Sign → Unsigned → Result (List Event) TextError
nearest_events format patterns sign d =
    if nat_le (ten_to (pos 32768)) (nearest_number format.table (size d)) then Err Overflow
    else Ok (compact_events format.table patterns sign (compacted format d (nearest_number format.table (size d))))

-- what is written for an amount: by the compact formatter of its sign
unfoldable pub compact_money_events : CompactMoney → Sign → Unsigned → Result (List Event) TextError
compact_money_events f sign d = nearest_events (formatter_of f sign) f.patterns sign d
