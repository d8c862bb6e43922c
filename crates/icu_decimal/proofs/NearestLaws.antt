-- Each size has one nearest compact number: the nearest multiple of the unit at its own magnitude.
use Rattle.std.proofs.Common.{◌≡◌, ℕ, ◌^◌, sym, subst}
use Rattle.fixed_decimal.specs.Size.{magnitude_place}
use Rattle.fixed_decimal.proofs.Weights.{ten_pos}
use Rattle.fixed_decimal.proofs.Nearness.{nearest_some}
use Rattle.icu_decimal.specs.CompactNumber.{rounding_place_for}
use Rattle.icu_decimal.specs.CompactLaws.{OneCompactNumberIsNearest, NearestIsRounded}
use Rattle.icu_decimal.specs.NearestLemmas.{nearest_compact_from_rounded, nearest_compact_same}
use Rattle.icu_decimal.specs.RoundedAt.{IsRoundedAt}

-- each size has a nearest compact number, its rounded one, and no other
pub one_compact_is_nearest : OneCompactNumberIsNearest
one_compact_is_nearest table x =
    let place : ℕ = rounding_place_for table (magnitude_place x) in
    let rounded = nearest_some (10 ^ place) x (ten_pos place) in
    let near = nearest_compact_from_rounded table x rounded.0 rounded.1 in
    (rounded.0, near, λ z n. nearest_compact_same table x rounded.0 z near n)

-- the nearest compact number of a size is the size rounded at the rounding place of its own magnitude, and no other is
pub nearest_is_rounded : NearestIsRounded
nearest_is_rounded table x y = (
  λ near.
      let place : ℕ = rounding_place_for table (magnitude_place x) in
      let rounded = nearest_some (10 ^ place) x (ten_pos place) in
      let same : y ≡ rounded.0 = nearest_compact_same table x rounded.0 y (nearest_compact_from_rounded table x rounded.0 rounded.1) near in
      subst (λ (z : ℕ). IsRoundedAt place x z) (sym same) rounded.1,
  nearest_compact_from_rounded table x y,
)
