-- Places of powers, as code counts them.
use Rattle.std.proofs.Common.{◌≡◌, ℕ, ◌+◌, refl, arith, ap, ◌∙◌, ℤ, pos, ◌+ℤ◌, ◌-ℤ◌, FitsSigned, w16}
use Rattle.std.proofs.lemmas.Int.{ints}
use Rattle.fixed_decimal.specs.Size.{finest, place}
use Rattle.icu_decimal.proofs.PowerPlaces.{place_is, place-i16}

-- the place of power 0
pub finest_is : finest ≡ 33024
unfolding finest
finest_is = refl

-- the place of an i16's power
pub place_counted : (m : ℤ) → FitsSigned w16 m → pos (place m) ≡ m +ℤ pos 33024
place_counted m fits = place-i16 m fits ∙ ap (λ n. m +ℤ pos n) finest_is

-- the place of a power that is given by its place
pub place_given : (m : ℤ) (p : ℕ) → m ≡ pos p -ℤ pos 33024 → place m ≡ p
place_given m p e = place_is m p (omega (arith, ints, finest_is))
