-- Unsigned decimals: the written digits and the powers of ten at which they stand (ICU4X `UnsignedDecimal`).
use Rattle.std.specs.Prelude.{ℕ, ◌+◌, ◌-◌, ◌<◌, ◌≤◌, List, [], ◌∷◌, length, take, drop, reverse, slice_index, ℤ, pos, negsuc}
use Rattle.std.specs.Prelude.{◌-ℤ◌, All}

-- digits, each 0 to 9
abbrev pub AreDigits : List ℕ → Type 0
AreDigits ds = All (λ d. d < 10) ds

-- the written digits, from the greatest power down; the last `scale` of them stand below power 0
pub record Unsigned : Type 0 where
  pub digits : List ℕ
  pub scale : ℕ

-- how many digits stand at power 0 and above
abbrev pub integer_count : Unsigned → ℕ
integer_count d = length d.digits - d.scale

-- the digits at power 0 and above, from the greatest power down
abbrev pub integer : Unsigned → List ℕ
integer d = take (integer_count d) d.digits

-- the digits below power 0, from power -1 down
abbrev pub fraction : Unsigned → List ℕ
fraction d = drop (integer_count d) d.digits

-- the greatest written power
abbrev pub high : Unsigned → ℤ
high d = pos (integer_count d) -ℤ pos 1

-- the least written power
abbrev pub low : Unsigned → ℤ
low d = pos 0 -ℤ pos d.scale

-- the digit at a power, 0 outside the written range
abbrev pub digit_at : Unsigned → ℤ → ℕ
digit_at d (pos n) = slice_index (reverse (integer d)) n
digit_at d (negsuc n) = slice_index (fraction d) n

-- no power outside -32768 to 32767 is written
pub record IsWithinLimits (d : Unsigned) : Type 0 where
  pub high_limit : length d.digits ≤ d.scale + 32768
  pub low_limit : d.scale ≤ 32768

-- what holds of every decimal: each digit is 0 to 9, power 0 is written, and no power outside -32768 to 32767 is
pub record IsUnsigned (d : Unsigned) : Type 0 where
  pub below_ten : AreDigits d.digits
  pub integer_some : d.scale < length d.digits
  pub high_limit : length d.digits ≤ d.scale + 32768
  pub low_limit : d.scale ≤ 32768

-- the number one, written `1`
abbrev pub one : Unsigned
one = record { digits = 1 ∷ []; scale = 0 }
