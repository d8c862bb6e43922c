-- The nearest compact numbers keep the order of sizes, and lose no size but zero.
use Rattle.std.proofs.Common.{◌^◌}
use Rattle.fixed_decimal.specs.Size.{magnitude_place}
use Rattle.icu_decimal.specs.CompactNumber.{rounding_place_for, IsCompactNumber}
use Rattle.icu_decimal.specs.CompactLaws.{NearestKeepsOrder, MagnitudeIsShown, CompactNumberIsItsNearest}
use Rattle.icu_decimal.specs.NearestLemmas.{in_order, nearest_to_itself, itself_nearest, nearest_within}

-- the same of compact numbers
pub nearest_keeps_order : NearestKeepsOrder
nearest_keeps_order table x x' y y' h n n' = in_order (IsCompactNumber table) (10 ^ rounding_place_for table (magnitude_place x))
    (10 ^ rounding_place_for table (magnitude_place x')) x x' y y' h n n'

-- the power of ten of the magnitude is a compact number that is not above the size
pub magnitude_is_shown : MagnitudeIsShown
magnitude_is_shown table x y positive n = (nearest_within table x positive y n).0

-- a compact number is at no distance from itself
pub compact_number_is_its_nearest : CompactNumberIsItsNearest
compact_number_is_its_nearest table x y p = (
  λ n. itself_nearest (IsCompactNumber table) (10 ^ rounding_place_for table (magnitude_place x)) x y p n,
  λ same. rw same (nearest_to_itself (IsCompactNumber table) (10 ^ rounding_place_for table (magnitude_place x)) x p),
)
