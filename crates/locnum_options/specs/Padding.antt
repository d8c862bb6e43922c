-- How wide numbers are asked for: `N`, or `-N` for numbers in front of their spaces.
use Rattle.std.specs.Prelude.{ℕ, ◌==◌, nat_le, List, [], ◌∷◌, Option, Some, None, if◌then◌else◌}
use Rattle.locnum_lines.specs.declared.padding.Alignment.{Alignment}
use Rattle.locnum_lines.specs.declared.padding.Alignment.TheVariants.{Left, Right}
use Rattle.locnum_lines.specs.declared.padding.Padding.{Padding}
use Rattle.locnum_options.specs.Fields.{positive_number_named}
use Rattle.locnum_options.specs.Texts.{◌>>=◌}

-- columns of this count, from 1 to 65535
unfoldable pub columns_named : Alignment → List ℕ → Option Padding
columns_named alignment text = do
  columns ← positive_number_named text
  if nat_le columns 65535 then Some (record { columns = columns; alignment = alignment }) else None

-- the columns of a text
unfoldable pub padding_named : List ℕ → Option Padding
padding_named [] = None
padding_named (byte ∷ bytes) = if byte == 45 then columns_named Left bytes else columns_named Right (byte ∷ bytes)
