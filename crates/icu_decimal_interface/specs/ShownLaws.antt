-- What holds of the numbers that a formatter shows: the laws of `AbstractFormatter`, over sizes.
use Rattle.std.specs.Prelude.{◌≡◌, ◌↔◌, ℕ, ◌+◌, ◌^◌, ◌<◌, ◌≤◌, pos}
use Rattle.fixed_decimal.specs.Size.{magnitude_place, ten_to}

-- A size may be shown as another: 0 as 0, and no other size as 0; any other size as one from the power of ten of its
-- magnitude up to the next power of ten, both included.
pub record IsShownNear (size shown : ℕ) : Type 0 where
  pub zero : (size ≡ 0) ↔ (shown ≡ 0)
  pub within : 0 < size → (10 ^ magnitude_place size ≤ shown) × (shown ≤ 10 ^ (magnitude_place size + 1))

-- the first power of ten above a size is ten to the power 32768 or more
abbrev pub IsAtTheLimit : ℕ → Type 0
IsAtTheLimit size = ten_to (pos 32768) ≤ 10 ^ (magnitude_place size + 1)
