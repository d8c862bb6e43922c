-- A compact exponent that isn't the one of a number's magnitude.
use Rattle.std.specs.Prelude.{ℕ, ℤ, List, ◌++◌, codes, decimal}
use Rattle.std.specs.Fmt.{signed_decimal}

-- The compact exponent of a number is how far the table moves the point of numbers of its magnitude (UTS 35 Part 3,
-- Compact Number Formats); here `actual` was given for a number of a magnitude, where `expected` is the table's.
pub record ExponentMismatch : Type 0 where
  pub actual : ℕ
  pub expected : ℕ
  pub magnitude : ℤ

-- the text that reports it (ICU4X `CompactExponentError`)
abbrev pub mismatch_text : ExponentMismatch → List ℕ
mismatch_text m =
    codes "Expected compact exponent " ++ decimal m.expected ++ codes " for 10^" ++ signed_decimal m.magnitude
    ++ codes ", got " ++ decimal m.actual
