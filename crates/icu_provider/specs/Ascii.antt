-- The bytes that names are made of.
use Rattle.std.specs.Prelude.{ℕ, Bool, ◌&&◌, ◌||◌, nat_le, nat_eq}

-- a lower-case letter or a digit of ASCII
abbrev pub is_lower_alphanumeric : ℕ → Bool
is_lower_alphanumeric b = (nat_le 97 b && nat_le b 122) || (nat_le 48 b && nat_le b 57)

-- a letter, a digit or a hyphen of ASCII
abbrev pub is_alphanumeric_or_hyphen : ℕ → Bool
is_alphanumeric_or_hyphen b = is_lower_alphanumeric b || ((nat_le 65 b && nat_le b 90) || nat_eq b 45)
