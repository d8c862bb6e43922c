-- The place of a power, as a sum over signed numbers.
use Rattle.std.proofs.Common.{◌≡◌, ℕ, ◌+◌, ◌-◌, ◌*◌, ◌^◌, ◌<◌, ap, arith, ℤ, pos, negsuc, ◌+ℤ◌, ◌-ℤ◌, ◌≤ℤ◌}
use Rattle.std.proofs.Common.{◌<ℤ◌, FitsSigned, w16, lt-ltb, le-ltb}
use Rattle.std.proofs.lemmas.Int.{ints}
use Rattle.std.proofs.lemmas.Nat.{pow-add}
use Rattle.fixed_decimal.specs.Scaling.{IsTimesTenTo}
use Rattle.fixed_decimal.specs.Size.{finest, place, size, ten_to}
use Rattle.fixed_decimal.specs.Unsigned.{one}
use Rattle.icu_decimal.specs.CompactNumber.{rounding_place}

-- the places reach below each power of an i16, and one more
pub finest_larger : 32768 < finest
unfolding finest
finest_larger = omega arith

-- what is the signed sum is the place
pub place_is : (m : ℤ) (p : ℕ) → pos p ≡ m +ℤ pos finest → place m ≡ p
place_is (pos n) p e = omega (arith, ints)
place_is (negsuc n) p e = omega (arith, ints)

-- the place is the signed sum, where that is not below 0
pub pos-place : (m : ℤ) → pos 0 ≤ℤ (m +ℤ pos finest) → pos (place m) ≡ m +ℤ pos finest
pos-place (pos n) h = omega (arith, ints)
pos-place (negsuc n) h = omega (arith, ints)

-- so it is for every power of an i16
pub place-i16 : (m : ℤ) → FitsSigned w16 m → pos (place m) ≡ m +ℤ pos finest
place-i16 m h = pos-place m (omega (arith, ints, finest_larger))

-- and the power below it has the place below
pub place-below : (m : ℤ) → FitsSigned w16 m → place (m -ℤ pos 1) ≡ place m - 1
place-below m h = place_is (m -ℤ pos 1) (place m - 1) (omega (arith, ints, place-i16 m h, finest_larger))

-- a magnitude above the exponent is rounded at the power of the exponent
pub rounding_place_at_exponent : (e : ℕ) (m r : ℤ) → FitsSigned w16 m → r ≡ pos e → pos e <ℤ m → place r ≡ rounding_place e (place m)
unfolding rounding_place
rounding_place_at_exponent e m r fits is above =
    rw (lt-ltb (e + finest) (place m) (omega (arith, ints, place-i16 m fits))) (place_is r (e + finest) (omega (arith, ints)))

-- any other at the power below its own
pub rounding_place_below_magnitude : (e : ℕ) (m r : ℤ) → FitsSigned w16 m → r ≡ m -ℤ pos 1 → m ≤ℤ pos e →
    place r ≡ rounding_place e (place m)
unfolding rounding_place
rounding_place_below_magnitude e m r fits is below =
    rw (le-ltb (e + finest) (place m) (omega (arith, ints, place-i16 m fits)), is) (place-below m fits)

-- the number one times ten to a power from 0 on is ten to the power
pub ten_to-from_one : (k : ℤ) (x z : ℕ) → pos 0 ≤ℤ k → z ≡ size one → IsTimesTenTo k z x → x ≡ ten_to k
ten_to-from_one (negsuc n) x z h is times = absurd (omega (arith, ints))
ten_to-from_one (pos n) x z h is times =
    let same : finest - 0 + 0 ≡ finest = omega arith in
    let unit : 10 ^ (finest - 0 + 0) ≡ 10 ^ finest = ap (λ p. 10 ^ p) same in
    let one_is : z ≡ 10 ^ finest = omega arith in
    let whole : x * 10 ^ 0 ≡ 10 ^ finest * 10 ^ n = rw one_is at times in
    omega (arith, pow-add 10 finest n)
