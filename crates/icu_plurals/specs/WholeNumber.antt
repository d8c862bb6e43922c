-- Whole numbers of any size, seen by their eighteen lowest digits.
use Rattle.std.specs.Prelude.{ℕ, ◌%◌, ◌^◌, nat_le}
use Rattle.icu_plurals.specs.declared.whole_number.WholeNumber.{WholeNumber}

-- the number's eighteen lowest digits as a number, and whether a digit above these isn't zero
abbrev pub whole_number : ℕ → WholeNumber
whole_number n = record { lowest = n % 10 ^ 18; is_large = nat_le (10 ^ 18) n }
