-- Half to even shows the nearest showable size; by the default of compact notation it is the nearest compact number.
use Rattle.std.proofs.Common.{◌≡◌, ℕ, ◌+◌, ◌-◌, ◌^◌, ◌<◌, ◌≤◌, ◌⊎◌, inl, inr, sym, ◌∙◌, ap, subst, arith, min}
use Rattle.std.proofs.Common.{List, lt-ltb, le-ltb}
use Rattle.std.proofs.lemmas.Bool.{cases_lt}
use Rattle.std.proofs.lemmas.Nat.{pow-add}
use Rattle.fixed_decimal.specs.declared.modes.UnsignedRoundingMode.TheVariants.{HalfEven}
use Rattle.fixed_decimal.specs.Size.{finest, magnitude_place}
use Rattle.fixed_decimal.specs.Nearest.{IsMultiple, IsNearest, distance}
use Rattle.fixed_decimal.specs.Modes.{IsGreatestUpTo, IsLeastFrom, IsTaken, taken_at}
use Rattle.fixed_decimal.proofs.TakenMultiples.{half_even-nearest, nearest-half_even, taken_by_division}
use Rattle.fixed_decimal.proofs.Rounds.{finest_large}
use Rattle.icu_decimal_data.specs.CompactTable.{TableEntry, IsCompactTable, exponent_for}
use Rattle.icu_decimal.specs.CompactNumber.{rounding_place, rounding_place_for}
use Rattle.icu_decimal.proofs.NearestLaws.{nearest_is_rounded}
use Rattle.skeleton_settings.specs.declared.settings.Precision.{Precision}
use Rattle.number_rounding.specs.Showable.{unit_at, FitsTable, IsShowable, IsShownSize}
use Rattle.number_rounding.specs.Laws.{HalfEvenShowsTheEven, compact_default, DefaultShowsCompactNumbers, DefaultIsNearestCompact}
use Rattle.number_rounding.proofs.Joined.{has_taken, lower_has, upper_has}
use Rattle.number_rounding.proofs.Units.{units_joined, unit_pos, exponent_places}
use Rattle.number_rounding.proofs.ShownSizes.{shown_from_multiple}

-- two sets with the same neighbours of x have the same nearest to x
module _ (A B : ℕ → Type 0) (u x low high : ℕ) (la : IsGreatestUpTo A x low) (lb : IsGreatestUpTo B x low) (ha : IsLeastFrom A x high)
    (hb : IsLeastFrom B x high) where
  -- what is as near as both neighbours and is one of one set, is a neighbour
  is_neighbour : (y : ℕ) → A y → distance x y ≤ distance x low → distance x y ≤ distance x high → (y ≡ low) ⊎ (y ≡ high)
  is_neighbour y a near near' = elim (cases_lt x y) [
    | inl h ↦ inr (omega (arith, ha.least y a (omega arith), ha.from))
    | inr h ↦ inl (omega (arith, la.greatest y a h, la.up_to))
  ]

  -- no size of the other set is nearer than both neighbours
  neighbours_near : (y z : ℕ) → B z → distance x y ≤ distance x low → distance x y ≤ distance x high → distance x y ≤ distance x z
  neighbours_near y z b near near' = elim (cases_lt x z) [
    | inl h ↦ omega (arith, hb.least z b (omega arith), hb.from)
    | inr h ↦ omega (arith, lb.greatest z b h, lb.up_to)
  ]

  -- a size of the other set that is as near as both neighbours is in the first
  as_near : (y z : ℕ) → B z → distance x y ≤ distance x low → distance x y ≤ distance x high → distance x z ≡ distance x y → A z
  as_near y z b near near' same = elim (cases_lt x z) [
    | inl h ↦ let e : z ≡ high = omega (arith, hb.least z b (omega arith), hb.from) in rw e ha.allowed
    | inr h ↦ let e : z ≡ low = omega (arith, lb.greatest z b h, lb.up_to) in rw e la.allowed
  ]

  nearest_moves : (y : ℕ) → IsNearest A u x y → IsNearest B u x y
  nearest_moves y n =
      let near : distance x y ≤ distance x low = n.nearest low la.allowed in
      let near' : distance x y ≤ distance x high = n.nearest high ha.allowed in
      record {
        allowed = elim (is_neighbour y n.allowed near near') [
          | inl e ↦ rw e lb.allowed
          | inr e ↦ rw e hb.allowed
        ];
        nearest = λ z b. neighbours_near y z b near near';
        even = λ z b other same. n.even z (as_near y z b near near' same) other same;
      }

module _ (precision : Precision) (table : List TableEntry) (fits : FitsTable precision table) (x : ℕ) where
  abbrev unit : ℕ
  unit = unit_at precision table (magnitude_place x)

  -- what is shown half to even is nearest
  even_nearest : (y : ℕ) → IsShownSize precision table HalfEven x y → IsNearest (IsShowable precision table) unit x y
  even_nearest y t =
      let joined = units_joined precision table fits in
      let m : IsTaken (IsMultiple unit) HalfEven unit x y = has_taken (unit_at precision table) joined (unit_pos precision table) HalfEven x y t in
      let n : IsNearest (IsMultiple unit) unit x y = half_even-nearest unit x y (unit_pos precision table (magnitude_place x)) m in
      nearest_moves (IsMultiple unit) (IsShowable precision table) unit x m.low m.high m.lower (lower_has (unit_at precision table) joined x m.low m.lower)
      m.upper (upper_has (unit_at precision table) joined x m.high m.upper) y n

  -- and the nearest is shown
  nearest_even : (y : ℕ) → IsNearest (IsShowable precision table) unit x y → IsShownSize precision table HalfEven x y
  nearest_even y n =
      let joined = units_joined precision table fits in
      let positive : 0 < unit = unit_pos precision table (magnitude_place x) in
      let m : IsTaken (IsMultiple unit) HalfEven unit x (taken_at HalfEven unit x) = taken_by_division HalfEven unit x positive in
      let k : IsNearest (IsMultiple unit) unit x y =
      nearest_moves (IsShowable precision table) (IsMultiple unit) unit x m.low m.high (lower_has (unit_at precision table) joined x m.low m.lower) m.lower
      (upper_has (unit_at precision table) joined x m.high m.upper) m.upper y n in
      shown_from_multiple precision table fits HalfEven x y (nearest-half_even unit x y positive k)

-- half to even shows the nearest, the even one of two equally near
pub half_even_shows : HalfEvenShowsTheEven
half_even_shows precision table minus x y fits = (even_nearest precision table fits x y, nearest_even precision table fits x y)

-- the place at which the default rounds a magnitude with an exponent
default_place : (m e : ℕ) → (e ≡ 0) ⊎ (finest + e ≤ m) → min (finest - 0) (m - e - 1) + e ≡ rounding_place e m
unfolding rounding_place
default_place m e h = elim (cases_lt (e + finest) m) [
  | inl above ↦ rw (lt-ltb (e + finest) m above) (omega arith)
  | inr below ↦ rw (le-ltb (e + finest) m below) (elim h [ inl none ↦ omega (arith, finest_large) | inr some ↦ omega (arith, finest_large) ])
]

-- its unit is the unit of compact numbers
default_unit : (table : List TableEntry) (m : ℕ) → IsCompactTable table → unit_at compact_default table m ≡ 10 ^ rounding_place_for table m
default_unit table m is =
    let e : ℕ = exponent_for table m in
    sym (pow-add 10 (min (finest - 0) (m - e - 1)) e) ∙ ap (λ p. 10 ^ p) (default_place m e (exponent_places table m is))

-- the default fits each table
default_fits : (table : List TableEntry) → IsCompactTable table → FitsTable compact_default table
default_fits table is = record { is_table = is; divides = inr tt }

-- the showable sizes by the default are the compact numbers
pub default_showable : DefaultShowsCompactNumbers
default_showable table z is =
    let same = default_unit table (magnitude_place z) is in
    (λ (k, e). (k, rw same at e), λ (k, e). (k, rw same e))

-- and half to even shows the nearest compact number
pub default_is_nearest : DefaultIsNearestCompact
default_is_nearest table minus x y is =
    let same = default_unit table (magnitude_place x) is in
    let unit : ℕ = unit_at compact_default table (magnitude_place x) in
    let positive : 0 < unit = unit_pos compact_default table (magnitude_place x) in
    let fits = default_fits table is in (
      λ t.
          let m = has_taken (unit_at compact_default table) (units_joined compact_default table fits) (unit_pos compact_default table) HalfEven x y t in
          let n : IsNearest (IsMultiple unit) unit x y = half_even-nearest unit x y positive m in
          (nearest_is_rounded table x y).1 (subst (λ (u : ℕ). IsNearest (IsMultiple u) u x y) same n),
      λ near.
          let r = (nearest_is_rounded table x y).0 near in
          let n : IsNearest (IsMultiple unit) unit x y = subst (λ (u : ℕ). IsNearest (IsMultiple u) u x y) (sym same) r in
          shown_from_multiple compact_default table fits HalfEven x y (nearest-half_even unit x y positive n),
    )
