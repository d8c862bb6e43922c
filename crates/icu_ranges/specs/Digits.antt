-- Digits that are compared from the front. It is what private functions do; public contracts compare sizes.
use Rattle.std.specs.Prelude.{◌≡◌, ◌≢◌, ◌↔◌, ℕ, ◌+◌, ◌<◌, List, ◌++◌, length, replicate, slice_index, Bool, IsTrue}
use Rattle.fixed_decimal.specs.Size.{weighed}

-- Whether the first digits weigh more than the second ones, where the first digits of both stand at one power.
abbrev pub TellsHeavier : Bool → List ℕ → List ℕ → Type 0
TellsHeavier answer xs ys = (e f : ℕ) → e + length xs ≡ f + length ys → IsTrue answer ↔ (weighed f ys < weighed e xs)

-- the second digits are the first ones without the zeros in front
pub record IsTrimmed (digits trimmed : List ℕ) : Type 0 where
  pub zeros : ℕ
  pub all : digits ≡ replicate zeros 0 ++ trimmed
  pub begins : 0 < length trimmed → slice_index trimmed 0 ≢ 0
