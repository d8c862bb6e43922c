-- The operands of a number as it is written.
use Rattle.std.specs.Prelude.{ℕ, ◌-◌, ◌%◌, ◌^◌, Bool, nat_le, ◌==◌, List, ◌++◌, length, take, drop, replicate}
use Rattle.std.specs.List.{suffix_len}
use Rattle.std.specs.Int.Digits.{number_from_digits}
use Rattle.fixed_decimal.specs.Unsigned.{Unsigned, integer, fraction}
use Rattle.icu_plurals.specs.declared.operands.RawPluralOperands.{RawPluralOperands}

-- By UTS 35's letters (Part 3, Plural Operand Meanings): the number n is given by i, v and f. The integer digits are
-- seen as their eighteen lowest ones, i, and whether a digit above these isn't zero; of the fraction the first eighteen
-- digits are seen: v and w count them with and without trailing zeros, f and t are their numbers with and without
-- trailing zeros. c is the exponent of the compact form, also called e.
pub record Operands : Type 0 where
  pub i : ℕ
  pub is_large : Bool
  pub v : ℕ
  pub w : ℕ
  pub f : ℕ
  pub t : ℕ
  pub c : ℕ

-- the digits before the point, once it is moved some places to the right: those that stood before it, those that it
-- passes, and a zero for each place past the last written digit
abbrev pub integer_after_moving : ℕ → Unsigned → List ℕ
integer_after_moving places d = integer d ++ take places (fraction d) ++ replicate (places - length (fraction d)) 0

-- the digits behind the point, once it is moved some places to the right
abbrev pub fraction_after_moving : ℕ → Unsigned → List ℕ
fraction_after_moving places d = drop places (fraction d)

-- the digits without the zeros at their end
abbrev pub without_trailing_zeros : List ℕ → List ℕ
without_trailing_zeros ds = take (length ds - suffix_len (λ d. d == 0) ds) ds

-- the number that digits write
abbrev pub number_of : List ℕ → ℕ
number_of ds = number_from_digits 10 ds

-- the operands of a number that is written with the digits `before` the point and, as the first eighteen behind it,
-- `seen`; a digit above the eighteen lowest isn't zero where the number is ten to the eighteenth at least
abbrev pub operands_of_digits : List ℕ → List ℕ → ℕ → Operands
operands_of_digits before seen exponent = record {
  i = number_of before % 10 ^ 18;
  is_large = nat_le (10 ^ 18) (number_of before);
  v = length seen;
  w = length (without_trailing_zeros seen);
  f = number_of seen;
  t = number_of (without_trailing_zeros seen);
  c = exponent;
}

-- the operands of the number significand * 10 ^ exponent, with the digits that then stand behind the point
abbrev pub operands_of : Unsigned → ℕ → Operands
operands_of significand exponent =
    operands_of_digits (integer_after_moving exponent significand) (take 18 (fraction_after_moving exponent significand)) exponent

-- the operands that are kept by their letters
abbrev pub operands_in : RawPluralOperands → Operands
operands_in o = record { i = o.i; is_large = o.is_large; v = o.v; w = o.w; f = o.f; t = o.t; c = o.c }
