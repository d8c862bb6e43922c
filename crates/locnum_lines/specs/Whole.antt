-- Fields in which a number is a whole field.
use Rattle.std.specs.Prelude.{◌≡◌, ℕ, Bool, false, ◌||◌, ◌==◌}
use Rattle.std.specs.Char.{is_ascii_digit}
use Rattle.locnum_lines.specs.declared.settings.Delimiter.{Delimiter}
use Rattle.locnum_lines.specs.declared.settings.Delimiter.TheVariants.{Blanks, Byte, Csv}

-- the bytes of which numbers are made: digits, the point and the signs
abbrev pub is_of_numbers : ℕ → Bool
is_of_numbers b = is_ascii_digit b || b == 46 || b == 45 || b == 43

-- no byte of a number ends a field, and a number stands in its field as it is
abbrev pub LeavesNumbers : Delimiter → Type 0
LeavesNumbers Blanks = Unit {0}
LeavesNumbers (Byte delimiter) = is_of_numbers delimiter ≡ false
LeavesNumbers (Csv delimiter) = ⊥
