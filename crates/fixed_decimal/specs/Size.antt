-- Sizes: the number that a decimal writes, counted in units so small that it is a whole number, and the magnitude of a
-- size. Sizes stand in contracts alone: no call computes one, and no proof writes out their powers of ten.
use Rattle.std.specs.Prelude.{ℕ, zero, suc, ◌+◌, ◌-◌, ◌*◌, ◌^◌, List, [], ◌∷◌, length, ℤ, pos, negsuc, ◌-ℤ◌, nat_le}
use Rattle.std.specs.Prelude.{if◌then◌else◌}
use Rattle.fixed_decimal.specs.Unsigned.{Unsigned}

-- the unit of sizes is ten to the power -33024, which lies below every power that a decimal writes
unfoldable pub finest : ℕ
finest = 33024

-- the place of a power: how far it lies above the power of the unit, a natural number for each power of a decimal
abbrev pub place : ℤ → ℕ
place (pos n) = finest + n
place (negsuc n) = finest - (n + 1)

-- the power of a place
abbrev pub power_at : ℕ → ℤ
power_at p = pos p -ℤ pos finest

-- ten to a power, in units
abbrev pub ten_to : ℤ → ℕ
ten_to p = 10 ^ place p

-- the sum of each digit times ten to its place, where the last digit stands at place e
abbrev pub weighed : ℕ → List ℕ → ℕ
weighed e [] = 0
weighed e (x ∷ xs) = x * 10 ^ (e + length xs) + weighed e xs

-- the size of a decimal: the sum of each digit times ten to its power
abbrev pub size : Unsigned → ℕ
size d = weighed (finest - d.scale) d.digits

-- the greatest place up to a given one whose power of ten is at most x, or 0
unfoldable pub place_up_to : ℕ → ℕ → ℕ
place_up_to x zero = 0
place_up_to x (suc p) = if nat_le (10 ^ suc p) x then suc p else place_up_to x p

-- the place of a size's magnitude: the greatest place whose power of ten is at most the size; for the size 0 the place of power 0
unfoldable pub magnitude_place : ℕ → ℕ
magnitude_place zero = finest
magnitude_place (suc n) = place_up_to (suc n) (suc n)

-- the magnitude of a size, a power: that of the first digit that isn't 0; for the size 0 it is 0
abbrev pub magnitude : ℕ → ℤ
magnitude x = power_at (magnitude_place x)
