-- The text of a decimal in compact form.
use Rattle.std.specs.Prelude.{◌≡◌, ℕ, ◌⊎◌, List, Option, nat_le, if◌then◌else◌, codes, pos}
use Rattle.writeable.specs.Events.{Event, text_of, without_parts}
use Rattle.fixed_decimal.specs.declared.signs.Sign.{Sign}
use Rattle.fixed_decimal.specs.Size.{size, ten_to}
use Rattle.fixed_decimal.specs.Unsigned.{Unsigned}
use Rattle.icu_decimal_data.specs.CompactTable.{TableEntry}
use Rattle.icu_decimal.specs.CompactFormat.{CompactFormat, IsCompactFormat, filled_events}
use Rattle.icu_decimal.specs.CompactNumber.{ShowsPastLimits}
use Rattle.icu_decimal.specs.Decimal.{signed_events}
use Rattle.icu_decimal.specs.Decomposed.{decomposed_entry}
use Rattle.decimal_lines.specs.Computed.{nearest_number, significand_shown}

-- the text is that of the nearest compact number, which is within the limits
pub record IsCompactText (format : CompactFormat) (sign : Sign) (d : Unsigned) (text : List ℕ) : Type 0 where
  pub significand : Unsigned
  pub exponent : ℕ
  pub events : List Event
  pub written : IsCompactFormat format sign d significand exponent events
  pub within : ¬ (ShowsPastLimits format.table (size d))
  pub spelled : text ≡ text_of events

-- the answer is that text, or the number is past the limits and the answer says so
abbrev pub IsCompactResult : CompactFormat → Sign → Unsigned → List ℕ → Type 0
IsCompactResult format sign d result = IsCompactText format sign d result ⊎ (ShowsPastLimits format.table (size d) × (result ≡ codes "error: overflow"))

-- the events of a significand in the pattern of an entry, with the affixes of the sign
abbrev pub events_by : CompactFormat → Sign → Option TableEntry → Unsigned → List Event
events_by format sign entry significand = signed_events format.decimal.symbols sign (without_parts (filled_events format entry significand))

-- those by which d is displayed as the size y
abbrev pub events_of_nearest : CompactFormat → Sign → Unsigned → ℕ → List Event
events_of_nearest format sign d y = events_by format sign (decomposed_entry format.table y) (significand_shown format.table d y)

-- the characters that a compact formatter writes for a decimal whose nearest compact number is within the limits
unfoldable pub compact_text : CompactFormat → Sign → Unsigned → List ℕ
compact_text format sign d = text_of (events_of_nearest format sign d (nearest_number format.table (size d)))

-- the answer to a decimal: that text, or `error: overflow` from ten to the power 32768 on
unfoldable pub compact_result : CompactFormat → Sign → Unsigned → List ℕ
compact_result format sign d =
    if nat_le (ten_to (pos 32768)) (nearest_number format.table (size d)) then codes "error: overflow" else compact_text format sign d
