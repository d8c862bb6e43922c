-- The nearest of the allowed sizes, the even one of two equally near (IEEE 754, roundTiesToEven; ICU4X `HalfEven`).
use Rattle.std.specs.Prelude.{◌≡◌, ◌≢◌, ℕ, ◌+◌, ◌-◌, ◌*◌, ◌≤◌}

-- how far two sizes are apart
abbrev pub distance : ℕ → ℕ → ℕ
distance x y = (x - y) + (y - x)

-- a whole number of times a unit
abbrev pub IsMultiple : ℕ → ℕ → Type 0
IsMultiple unit z = (k : ℕ) × (z ≡ k * unit)

-- an even number of times a unit
abbrev pub IsEvenMultiple : ℕ → ℕ → Type 0
IsEvenMultiple unit z = (k : ℕ) × (z ≡ 2 * k * unit)

-- y is allowed, no allowed size is nearer to x, and where another one is as near, y is an even number of units
pub record IsNearest (Allowed : ℕ → Type 0) (unit x y : ℕ) : Type 0 where
  pub allowed : Allowed y
  pub nearest : (z : ℕ) → Allowed z → distance x y ≤ distance x z
  pub even : (z : ℕ) → Allowed z → z ≢ y → distance x z ≡ distance x y → IsEvenMultiple unit y
