-- How wide a number is where it stands.
use Rattle.std.specs.Prelude.{ℕ, ◌+◌, ◌||◌, nat_lt, List, length, Option, Some, None, if◌then◌else◌}
use Rattle.locnum_lines.specs.declared.padding.Alignment.TheVariants.{Right}
use Rattle.locnum_lines.specs.declared.padding.Padding.{Padding}
use Rattle.locnum_lines.specs.declared.padding.Width.{Width}
use Rattle.locnum_lines.specs.declared.settings.Delimiter.{Delimiter}
use Rattle.locnum_lines.specs.declared.settings.Delimiter.TheVariants.{Blanks, Byte, Csv}

-- that of all numbers
abbrev pub padding_width : Padding → Width
padding_width padding = record { columns = padding.columns; alignment = padding.alignment }

-- that of the field of this number itself, which blanks end: its number with the blanks in front of it, if there are any or the
-- field isn't the first one
abbrev pub own_width : ℕ → List ℕ → List ℕ → Option Width
own_width index before number =
    if nat_lt 1 index || nat_lt 0 (length before) then Some (record { columns = length before + length number; alignment = Right }) else None

-- that of all numbers, or else that of the field, unless a byte ends fields
abbrev pub width_by : Delimiter → Option Padding → ℕ → List ℕ → List ℕ → Option Width
width_by delimiter (Some padding) index before number = Some (padding_width padding)
width_by Blanks None index before number = own_width index before number
width_by (Byte delimiter) None index before number = None
width_by (Csv delimiter) None index before number = None
