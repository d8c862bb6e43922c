-- The laws of `AbstractFormatter`, proved of both formatters. They stand here and not in proofs/ because its impls cite them.
-- A plain formatter shows the number itself; of a compact one the shown size is the nearest compact number.
use Rattle.std.proofs.Common.{◌≡◌, ℕ, ◌*◌, ◌^◌, ◌≤◌, arith, inl, inr, pos, sym, ap, subst, ◌∙◌}
use Rattle.std.proofs.lemmas.Bool.{cases_eq, cases_lt}
use Rattle.fixed_decimal.specs.Size.{magnitude_place, place, size}
use Rattle.fixed_decimal.specs.Unsigned.{IsUnsigned, Unsigned}
use Rattle.fixed_decimal.proofs.MagnitudePlaces.{magnitude_place_low, magnitude_place_high}
use Rattle.fixed_decimal.proofs.Weights.{ten_pos}
use Rattle.icu_decimal.specs.CompactFormat.{CompactFormat}
use Rattle.icu_decimal.specs.CompactNumber.{IsCompactNumber, IsNearestCompact, ShowsPastLimits, rounding_place_for}
use Rattle.icu_decimal.specs.Decimal.{DecimalFormat}
use Rattle.icu_decimal.specs.NearestLemmas.{in_order, itself_nearest, nearest_compact_same, nearest_within, zero_is_compact}
use Rattle.icu_decimal_interface.specs.Shown.{Shown, ShowsCompact, plain_shown, size_shown}
use Rattle.icu_decimal_interface.specs.ShownLaws.{IsAtTheLimit, IsShownNear}

-- ---- a plain formatter: what it shows of a number is as large
size_is : (f : DecimalFormat) (u : Unsigned) (n : Shown) → n ≡ plain_shown f u → size_shown n ≡ size u
size_is f u n h = ap size_shown h ∙ once (size u)
  where
    once : (x : ℕ) → x * 10 ^ 0 ≡ x
    once x = omega arith

-- a size lies between the powers of ten around it
between : (x : ℕ) → IsShownNear x x
between x = record {
  zero = (λ e. e, λ e. e);
  within = λ some. (magnitude_place_low x some, omega (arith, magnitude_place_high x some));
}

-- the significand of a plain number is the number itself, so it is a decimal
pub plain_is_decimal : (f : DecimalFormat) (u : Unsigned) (n : Shown) → IsUnsigned u → n ≡ plain_shown f u → IsUnsigned n.significand
plain_is_decimal f u n is h = rw h is

-- a plain number is shown near its size: as that size
pub plain_near : (f : DecimalFormat) (u : Unsigned) (n : Shown) → n ≡ plain_shown f u → IsShownNear (size u) (size_shown n)
plain_near f u n h = rw (size_is f u n h) (between (size u))

-- of two plain numbers the one that isn't larger isn't shown larger
pub plain_in_order : (f : DecimalFormat) (u v : Unsigned) (n m : Shown) → n ≡ plain_shown f u → m ≡ plain_shown f v → size u ≤ size v →
    size_shown n ≤ size_shown m
plain_in_order f u v n m h k less = omega (arith, size_is f u n h, size_is f v m k)

-- a plain number that is as large as a shown size shows that size
pub plain_again : (f : DecimalFormat) (u v : Unsigned) (n m : Shown) → n ≡ plain_shown f u → m ≡ plain_shown f v → size v ≡ size_shown n →
    size_shown m ≡ size_shown n
plain_again f u v n m h k same = size_is f v m k ∙ same

-- ---- a compact formatter

-- the size of what is shown is the nearest compact number
shown_nearest : (format : CompactFormat) (u : Unsigned) (n : Shown) → ShowsCompact format u n → IsNearestCompact format.table (size u) (size_shown n)
shown_nearest format u n h =
    let same : h.is_shown.shown ≡ size_shown n = sym h.is_shown.decomposed.scaled ∙ ap (λ e. size n.significand * 10 ^ e) (sym h.is_shown.exponent_is) in
    subst (λ (y : ℕ). IsNearestCompact format.table (size u) y) same h.is_shown.decomposed.nearest

-- the significand of a compact number is a decimal
pub compact_is_decimal : (format : CompactFormat) (u : Unsigned) (n : Shown) → IsUnsigned u → ShowsCompact format u n → IsUnsigned n.significand
compact_is_decimal format u n is h = h.is_shown.decomposed.is_decimal

-- the nearest to 0 is 0
nearest_to_zero : (format : CompactFormat) (x y : ℕ) → IsNearestCompact format.table x y → x ≡ 0 → y ≡ 0
nearest_to_zero format x y n none =
    let zero_allowed : IsCompactNumber format.table x = rw none (zero_is_compact format.table) in
    itself_nearest (IsCompactNumber format.table) (10 ^ rounding_place_for format.table (magnitude_place x)) x y zero_allowed n ∙ none

-- a nearest compact number is 0 only for 0, and else lies between the powers of ten around the size
nearest_near : (format : CompactFormat) (x y : ℕ) → IsNearestCompact format.table x y → IsShownNear x y
nearest_near format x y n = record {
  zero = (
    nearest_to_zero format x y n,
    λ none. elim (cases_eq x 0) [
      | inl e ↦ e
      | inr some ↦ absurd (omega (arith, (nearest_within format.table x (omega arith) y n).0, ten_pos (magnitude_place x)))
    ],
  );
  within = λ some. nearest_within format.table x some y n;
}

-- so a compact number is shown near its size
pub compact_near : (format : CompactFormat) (u : Unsigned) (n : Shown) → ShowsCompact format u n → IsShownNear (size u) (size_shown n)
compact_near format u n h = nearest_near format (size u) (size_shown n) (shown_nearest format u n h)

-- equal sizes have one nearest compact number, and of two others the smaller has the smaller one
nearest_in_order : (format : CompactFormat) (x x' y y' : ℕ) → IsNearestCompact format.table x y → IsNearestCompact format.table x' y' → x ≤ x' →
    y ≤ y'
nearest_in_order format x x' y y' n n' less = elim (cases_lt x x') [
  | inl h ↦
      let table = format.table in
      in_order (IsCompactNumber table) (10 ^ rounding_place_for table (magnitude_place x)) (10 ^ rounding_place_for table (magnitude_place x')) x x' y y' h n n'
  | inr h ↦
      let same : x ≡ x' = omega arith in
      let other : IsNearestCompact format.table x' y = rw (sym same) n in
      omega (arith, nearest_compact_same format.table x' y y' other n')
]

-- of two compact numbers the one that isn't larger isn't shown larger
pub compact_in_order : (format : CompactFormat) (u v : Unsigned) (n m : Shown) → ShowsCompact format u n → ShowsCompact format v m → size u ≤ size v →
    size_shown n ≤ size_shown m
compact_in_order format u v n m h k less =
    nearest_in_order format (size u) (size v) (size_shown n) (size_shown m) (shown_nearest format u n h) (shown_nearest format v m k) less

-- a nearest compact number is its own, and no other is
nearest_of_nearest : (format : CompactFormat) (x y z w : ℕ) → IsNearestCompact format.table x y → z ≡ y → IsNearestCompact format.table z w →
    w ≡ y
nearest_of_nearest format x y z w n same k =
    let allowed : IsCompactNumber format.table z = rw same n.allowed in
    itself_nearest (IsCompactNumber format.table) (10 ^ rounding_place_for format.table (magnitude_place z)) z w allowed k ∙ same

-- a compact number that is as large as a shown size shows that size
pub compact_again : (format : CompactFormat) (u v : Unsigned) (n m : Shown) → ShowsCompact format u n → ShowsCompact format v m →
    size v ≡ size_shown n → size_shown m ≡ size_shown n
compact_again format u v n m h k same =
    nearest_of_nearest format (size u) (size_shown n) (size v) (size_shown m) (shown_nearest format u n h) same (shown_nearest format v m k)

-- and it is past the limits only where the number is of which that size is shown
pub compact_again_within : (format : CompactFormat) (u v : Unsigned) (n : Shown) → ShowsCompact format u n → size v ≡ size_shown n →
    ShowsPastLimits format.table (size v) → ShowsPastLimits format.table (size u)
compact_again_within format u v n h same (z, near, large) =
    let z_is : z ≡ size_shown n = nearest_of_nearest format (size u) (size_shown n) (size v) z (shown_nearest format u n h) same near in
    (size_shown n, shown_nearest format u n h, omega (arith, z_is))

-- the nearest compact number is at most the next power of ten
pub compact_at_the_limit : (format : CompactFormat) (u : Unsigned) → ShowsPastLimits format.table (size u) → IsAtTheLimit (size u)
compact_at_the_limit format u (y, near, large) = elim (cases_eq (size u) 0) [
  | inl none ↦ absurd (omega (arith, nearest_to_zero format (size u) y near none, ten_pos (place (pos 32768))))
  | inr some ↦ omega (arith, (nearest_within format.table (size u) (omega arith) y near).1)
]
