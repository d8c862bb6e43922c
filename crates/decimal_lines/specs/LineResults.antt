-- The answer to the text of a line.
use Rattle.std.specs.Prelude.{◌≡◌, ℕ, ◌+◌, ◌⊎◌, Bool, ◌&&◌, nat_le, List, length, Option, Some, None, codes, if◌then◌else◌}
use Rattle.fixed_decimal.specs.declared.signs.Sign.{Sign}
use Rattle.fixed_decimal.specs.Unsigned.{Unsigned}
use Rattle.fixed_decimal.specs.Text.{Reads, ReadsNothing, ReadsPastLimits}
use Rattle.fixed_decimal.specs.Unsigned.{IsWithinLimits}
use Rattle.icu_decimal_data.specs.CompactTable.{IsCompactTable}
use Rattle.decimal_lines.specs.declared.mode.Mode.{Mode}
use Rattle.decimal_lines.specs.declared.mode.Mode.TheVariants.{Plain, Compact}
use Rattle.decimal_lines.specs.Compact.{IsCompactResult, compact_result}
use Rattle.decimal_lines.specs.Plain.{plain_text}
use Rattle.fixed_decimal.specs.Reading.{reading}

-- the entries of a compact mode are a compact table
abbrev pub HasTable : Mode → Type 0
HasTable (Plain format) = Unit {0}
HasTable (Compact format) = IsCompactTable format.table

-- the answer to a decimal in a mode: its plain text; or its compact text, or an error if that is past the limits
abbrev pub IsTextBy : Mode → Sign → Unsigned → List ℕ → Type 0
IsTextBy (Plain format) sign d result = result ≡ plain_text format sign d
IsTextBy (Compact format) sign d result = IsCompactResult format sign d result

-- the text reads as a decimal, and the answer is what the mode shows of it
pub record ShowsDecimal (mode : Mode) (text result : List ℕ) : Type 0 where
  pub sign : Sign
  pub absolute : Unsigned
  pub reads : Reads text sign absolute
  pub within : IsWithinLimits absolute
  pub shown : IsTextBy mode sign absolute result

-- the answer to a text: what the mode shows, or an error if the text reads as no decimal or as one with a power past the limits
abbrev pub IsTextResult : Mode → List ℕ → List ℕ → Type 0
IsTextResult mode text result =
    ShowsDecimal mode text result
    ⊎ ((ReadsNothing text × (result ≡ codes "error: not a decimal")) ⊎ (ReadsPastLimits text × (result ≡ codes "error: too many digits")))

-- whether the powers of a number are within -32768 to 32767
abbrev pub is_within_limits : Unsigned → Bool
is_within_limits d = nat_le (length d.digits) (d.scale + 32768) && nat_le d.scale 32768

-- what a mode shows for a decimal
abbrev pub text_by : Mode → Sign → Unsigned → List ℕ
text_by (Plain format) sign d = plain_text format sign d
text_by (Compact format) sign d = compact_result format sign d

-- the answer to what was read
abbrev pub reading_result : Mode → Option (Sign × Unsigned) → List ℕ
reading_result mode None = codes "error: not a decimal"
reading_result mode (Some (sign, d)) = if is_within_limits d then text_by mode sign d else codes "error: too many digits"

-- the one answer to a text
unfoldable pub text_result : Mode → List ℕ → List ℕ
text_result mode text = reading_result mode (reading text)
