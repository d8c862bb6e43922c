-- Lemmas on nearest compact numbers: each size has one alone, it lies between the powers of ten around the size, and it
-- keeps the order of sizes. They stand here and not in proofs/ because the laws of `AbstractFormatter` are proved by them.
-- Rounding at the place of x's own magnitude looks at the multiples of one unit, and compact numbers have another unit at each magnitude.
-- But the powers of ten around x are both (`ten_is_multiple`, `ten_is_compact`), and between them the two sets are the same. So nothing
-- outside is nearer than one of these powers, and the nearest of either set is the nearest of both. It is the only one, since two that
-- are equally near and even would have an odd multiple between them that is nearer (`even_apart`). 0 has no magnitude of its own and is a
-- case of its own.
use Rattle.std.proofs.Common.{◌≡◌, ◌≢◌, ℕ, suc, ◌+◌, ◌*◌, ◌^◌, ◌<◌, ◌≤◌, ◌⊎◌, ⊎_elim, inl, inr, refl, sym, ap}
use Rattle.std.proofs.Common.{◌∙◌, arith, List, nat_lt, ltb-true}
use Rattle.std.proofs.Math.Nat.{mul-le-mul_left}
use Rattle.std.proofs.lemmas.Bool.{cases_Bool, cases_lt, cases_eq, cases_order}
use Rattle.fixed_decimal.specs.Size.{finest, magnitude_place}
use Rattle.fixed_decimal.specs.Nearest.{IsMultiple, IsEvenMultiple, IsNearest}
use Rattle.fixed_decimal.proofs.Weights.{ten_pos}
use Rattle.fixed_decimal.proofs.MagnitudePlaces.{magnitude_place_low, magnitude_place_high, magnitude_place_is, magnitude_place-ten, ten_multiple}
use Rattle.icu_decimal_data.specs.CompactTable.{TableEntry, exponent_for}
use Rattle.icu_decimal.specs.CompactNumber.{rounding_place, rounding_place_for, IsCompactNumber, IsNearestCompact}
use Rattle.icu_decimal.specs.RoundedAt.{IsRoundedAt}

-- the nearest to a number between two allowed sizes lies between them
between_allowed : (Allowed : ℕ → Type 0) (u x y bottom top : ℕ) → Allowed bottom → Allowed top → bottom ≤ x → x ≤ top →
    IsNearest Allowed u x y → (bottom ≤ y) × (y ≤ top)
between_allowed Allowed u x y bottom top pb pt lx xh n = (omega (arith, n.nearest bottom pb), omega (arith, n.nearest top pt))

-- an allowed size is nearest to itself
pub nearest_to_itself : (Allowed : ℕ → Type 0) (u x : ℕ) → Allowed x → IsNearest Allowed u x x
nearest_to_itself Allowed u x p = record {
  allowed = p;
  nearest = λ z q. omega arith;
  even = λ z q other same. absurd (omega arith);
}

-- and no other one is
pub itself_nearest : (Allowed : ℕ → Type 0) (u x y : ℕ) → Allowed x → IsNearest Allowed u x y → y ≡ x
itself_nearest Allowed u x y p n = omega (arith, n.nearest x p)

-- Two that are nearest and even are one, where the odd multiple between them is allowed.
even_apart : (Allowed : ℕ → Type 0) (u x y z a b : ℕ) → ((w : ℕ) → y ≤ w → w ≤ z → IsMultiple u w → Allowed w) → 0 < u →
    IsNearest Allowed u x y → IsNearest Allowed u x z → y ≡ 2 * a * u → z ≡ 2 * b * u → a < b → ⊥
even_apart Allowed u x y z a b between some ny nz ey ez h =
    let next : suc a ≤ b = h in
    let up = mul-le-mul_left (2 * u) next in
    let w : ℕ = (2 * a + 1) * u in
    let middle : Allowed w = between w (omega arith) (omega arith) (2 * a + 1, refl) in
    omega (arith, ny.nearest w middle, nz.nearest w middle)

-- the nearest is one, where the multiples of the unit between any two that are nearest are allowed
nearest_once : (Allowed : ℕ → Type 0) (u x y z : ℕ) → 0 < u →
    ((w : ℕ) → (y ≤ w) ⊎ (z ≤ w) → (w ≤ y) ⊎ (w ≤ z) → IsMultiple u w → Allowed w) → IsNearest Allowed u x y →
    IsNearest Allowed u x z → z ≡ y
nearest_once Allowed u x y z some between ny nz = elim (cases_eq z y) [
  | inl e ↦ e
  | inr other ↦
      let one = ny.nearest z nz.allowed in
      let two = nz.nearest y ny.allowed in
      absurd (apart (ny.even z nz.allowed other (omega arith)) (nz.even y ny.allowed (λ e. other (sym e)) (omega arith)) other)
]
  where
    apart : IsEvenMultiple u y → IsEvenMultiple u z → z ≢ y → ⊥
    apart (i, e) (j, f) other = elim (cases_order i j) [
      | inl same ↦ other (f ∙ ap (λ n. 2 * n * u) (sym same) ∙ sym e)
      | inr order ↦ elim order [
        | inl h ↦ even_apart Allowed u x y z i j (λ w l g. between w (inl l) (inr g)) some ny nz e f h
        | inr h ↦ even_apart Allowed u x z y j i (λ w l g. between w (inr l) (inl g)) some nz ny f e h
      ]
    ]

-- no number is rounded above its own magnitude, whatever the exponent
rounding_place_le : (exponent m : ℕ) → rounding_place exponent m ≤ m
unfolding rounding_place
rounding_place_le exponent m =
    let k : ℕ = exponent + finest in
    ⊎_elim (λ below. rw below (omega (arith, ltb-true k m below))) (λ above. rw above (omega arith)) (cases_Bool (nat_lt k m))

-- so the power of ten of a magnitude is a multiple of the unit at which the magnitude is rounded
ten_is_multiple : (exponent m : ℕ) → IsMultiple (10 ^ rounding_place exponent m) (10 ^ m)
ten_is_multiple exponent m = ten_multiple (rounding_place exponent m) m (rounding_place_le exponent m)

-- and so is the next one
next_ten_is_multiple : (exponent m : ℕ) → IsMultiple (10 ^ rounding_place exponent m) (10 ^ (m + 1))
next_ten_is_multiple exponent m = ten_multiple (rounding_place exponent m) (m + 1) (omega (arith, rounding_place_le exponent m))

-- 0 is rounded to 0, at any place
pub rounded_zero : (place y : ℕ) → IsRoundedAt place 0 y → y ≡ 0
rounded_zero place y r = itself_nearest (IsMultiple (10 ^ place)) (10 ^ place) 0 y (0, omega arith) r

-- what is rounded at the rounding place of its magnitude stays between the powers of ten around it
pub rounded_within : (exponent x y : ℕ) → 0 < x → IsRoundedAt (rounding_place exponent (magnitude_place x)) x y →
    (10 ^ magnitude_place x ≤ y) × (y ≤ 10 ^ (magnitude_place x + 1))
rounded_within exponent x y positive r =
    let place : ℕ = rounding_place exponent (magnitude_place x) in
    between_allowed (IsMultiple (10 ^ place)) (10 ^ place) x y (10 ^ magnitude_place x) (10 ^ (magnitude_place x + 1))
    (ten_is_multiple exponent (magnitude_place x)) (next_ten_is_multiple exponent (magnitude_place x))
    (magnitude_place_low x positive) (omega (arith, magnitude_place_high x positive)) r

-- powers of ten are compact numbers, in any table
pub ten_is_compact : (table : List TableEntry) (p : ℕ) → IsCompactNumber table (10 ^ p)
ten_is_compact table p = rw magnitude_place-ten (ten_is_multiple (exponent_for table p) p)

-- and 0 is one
pub zero_is_compact : (table : List TableEntry) → IsCompactNumber table 0
zero_is_compact table = (0, omega arith)

module _ (table : List TableEntry) (x : ℕ) (positive : 0 < x) where
  -- between the powers of ten around x the multiples of the unit at its magnitude are compact numbers
  compact_from_multiple : (z : ℕ) → 10 ^ magnitude_place x ≤ z → z ≤ 10 ^ (magnitude_place x + 1) →
      IsMultiple (10 ^ rounding_place_for table (magnitude_place x)) z → IsCompactNumber table z
  compact_from_multiple z l g p =
      ⊎_elim (λ (below : z < 10 ^ (magnitude_place x + 1)). rw (magnitude_place_is z (magnitude_place x) l below) p)
      (λ (top : 10 ^ (magnitude_place x + 1) ≤ z).
      let same : z ≡ 10 ^ (magnitude_place x + 1) = omega arith in
      rw same (ten_is_compact table (magnitude_place x + 1)))
      (cases_lt z (10 ^ (magnitude_place x + 1)))

  -- and the compact numbers are such multiples
  multiple_from_compact : (z : ℕ) → 10 ^ magnitude_place x ≤ z → z ≤ 10 ^ (magnitude_place x + 1) → IsCompactNumber table z →
      IsMultiple (10 ^ rounding_place_for table (magnitude_place x)) z
  multiple_from_compact z l g p =
      ⊎_elim (λ (below : z < 10 ^ (magnitude_place x + 1)). rw (magnitude_place_is z (magnitude_place x) l below) at p)
      (λ (top : 10 ^ (magnitude_place x + 1) ≤ z).
      let same : z ≡ 10 ^ (magnitude_place x + 1) = omega arith in
      rw same (next_ten_is_multiple (exponent_for table (magnitude_place x)) (magnitude_place x)))
      (cases_lt z (10 ^ (magnitude_place x + 1)))

  -- so the nearest of these multiples is the nearest compact number of all magnitudes
  compact_from_rounded : (y : ℕ) → IsRoundedAt (rounding_place_for table (magnitude_place x)) x y → IsNearestCompact table x y
  compact_from_rounded y r =
      let below = magnitude_place_low x positive in
      let above = magnitude_place_high x positive in
      let within = rounded_within (exponent_for table (magnitude_place x)) x y positive r in
      let to_bottom = r.nearest (10 ^ magnitude_place x) (ten_is_multiple (exponent_for table (magnitude_place x)) (magnitude_place x)) in
      let to_top = r.nearest (10 ^ (magnitude_place x + 1)) (next_ten_is_multiple (exponent_for table (magnitude_place x)) (magnitude_place x)) in
      record {
        allowed = compact_from_multiple y within.0 within.1 r.allowed;
        nearest = λ z p.
            ⊎_elim (λ (under : z < 10 ^ magnitude_place x). omega arith)
            (λ (l : 10 ^ magnitude_place x ≤ z).
            ⊎_elim (λ (over : 10 ^ (magnitude_place x + 1) < z). omega arith)
            (λ (g : z ≤ 10 ^ (magnitude_place x + 1)). r.nearest z (multiple_from_compact z l g p))
            (cases_lt (10 ^ (magnitude_place x + 1)) z))
            (cases_lt z (10 ^ magnitude_place x));
        even = λ z p other same.
            ⊎_elim (λ (under : z < 10 ^ magnitude_place x). absurd (omega arith))
            (λ (l : 10 ^ magnitude_place x ≤ z).
            ⊎_elim (λ (over : 10 ^ (magnitude_place x + 1) < z). absurd (omega arith))
            (λ (g : z ≤ 10 ^ (magnitude_place x + 1)). r.even z (multiple_from_compact z l g p) other same)
            (cases_lt (10 ^ (magnitude_place x + 1)) z))
            (cases_lt z (10 ^ magnitude_place x));
      }

  -- the nearest compact number lies between the powers of ten around x
  pub nearest_within : (y : ℕ) → IsNearestCompact table x y → (10 ^ magnitude_place x ≤ y) × (y ≤ 10 ^ (magnitude_place x + 1))
  nearest_within y n =
      let below = magnitude_place_low x positive in
      let above = magnitude_place_high x positive in
      between_allowed (IsCompactNumber table) (10 ^ rounding_place_for table (magnitude_place x)) x y (10 ^ magnitude_place x) (10 ^ (magnitude_place x + 1))
      (ten_is_compact table (magnitude_place x)) (ten_is_compact table (magnitude_place x + 1)) below (omega arith) n

  -- and there is one alone
  nearest_compact_once : (y z : ℕ) → IsNearestCompact table x y → IsNearestCompact table x z → z ≡ y
  nearest_compact_once y z ny nz =
      let wy = nearest_within y ny in
      let wz = nearest_within z nz in
      nearest_once (IsCompactNumber table) (10 ^ rounding_place_for table (magnitude_place x)) x y z (ten_pos (rounding_place_for table (magnitude_place x)))
      (λ w l g p. compact_from_multiple w (⊎_elim (λ h. omega arith) (λ h. omega arith) l) (⊎_elim (λ h. omega arith) (λ h. omega arith) g) p) ny nz

-- a size, 0 too, rounded at the rounding place of its own magnitude is the nearest compact number
pub nearest_compact_from_rounded : (table : List TableEntry) (x y : ℕ) → IsRoundedAt (rounding_place_for table (magnitude_place x)) x y →
    IsNearestCompact table x y
nearest_compact_from_rounded table x y r = elim (cases_eq x 0) [
  | inl none ↦
      let rounded : IsRoundedAt (rounding_place_for table (magnitude_place 0)) 0 y = rw none at r in
      let same = rounded_zero (rounding_place_for table (magnitude_place 0)) y rounded in
      rw (none, same) (nearest_to_itself (IsCompactNumber table) (10 ^ rounding_place_for table (magnitude_place 0)) 0 (zero_is_compact table))
  | inr other ↦ compact_from_rounded table x (omega arith) y r
]

-- two nearest compact numbers of one size are the same
pub nearest_compact_same : (table : List TableEntry) (x y z : ℕ) → IsNearestCompact table x y → IsNearestCompact table x z → z ≡ y
nearest_compact_same table x y z ny nz = elim (cases_eq x 0) [
  | inl none ↦
      let zero_allowed : IsCompactNumber table x = rw none (zero_is_compact table) in
      let unit : ℕ = 10 ^ rounding_place_for table (magnitude_place x) in
      itself_nearest (IsCompactNumber table) unit x z zero_allowed nz ∙ sym (itself_nearest (IsCompactNumber table) unit x y zero_allowed ny)
  | inr other ↦ nearest_compact_once table x (omega arith) y z ny nz
]

-- were the nearest of the smaller larger, the two nearest would be nearer the other way round
pub in_order : (Allowed : ℕ → Type 0) (u v x x' y y' : ℕ) → x < x' → IsNearest Allowed u x y → IsNearest Allowed v x' y' → y ≤ y'
in_order Allowed u v x x' y y' h n n' = omega (arith, n.nearest y' n'.allowed, n'.nearest y n.allowed)
