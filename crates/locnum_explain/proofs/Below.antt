-- How many digits stand below a power.
use Rattle.std.proofs.Common.{◌≡◌, ℕ, ◌≤◌, ℤ, pos, negsuc, ◌+ℤ◌, ◌<ℤ◌, arith}
use Rattle.std.proofs.lemmas.Int.{ints}
use Rattle.fixed_decimal.specs.Size.{place}
use Rattle.fixed_decimal.proofs.Rounds.{finest_large}
use Rattle.locnum_explain.specs.Around.{digits_below}

-- none below a power that is so low
pub below_none : (m : ℤ) (s : ℕ) → s ≤ 18 → (m +ℤ pos s) <ℤ pos 0 → 0 ≡ digits_below (place m) s
below_none (pos n) s few h = absurd (omega (arith, ints))
below_none (negsuc n) s few h = omega (arith, ints, finest_large)

-- as many as the power and the fraction digits are together
pub below_some : (m : ℤ) (s k : ℕ) → s ≤ 18 → pos k ≡ m +ℤ pos s → k ≡ digits_below (place m) s
below_some (pos n) s k few h = omega (arith, ints)
below_some (negsuc n) s k few h = omega (arith, ints, finest_large)
