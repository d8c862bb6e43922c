-- Sizes that are multiples of a unit of their own magnitude. Where each unit and the next one both divide the power of ten
-- between the two magnitudes, or are equal, a mode takes of these sizes what it takes of the multiples of the unit at the
-- size's own magnitude.
use Rattle.std.proofs.Common.{◌≡◌, ℕ, zero, suc, ◌+◌, ◌-◌, ◌^◌, ◌<◌, ◌≤◌, ◌⊎◌, inl, inr, refl, sym, ◌∙◌, ap, arith}
use Rattle.std.proofs.lemmas.Bool.{cases_eq}
use Rattle.fixed_decimal.specs.declared.modes.UnsignedRoundingMode.{UnsignedRoundingMode}
use Rattle.fixed_decimal.specs.Size.{magnitude_place}
use Rattle.fixed_decimal.specs.Nearest.{IsMultiple}
use Rattle.fixed_decimal.specs.Modes.{IsGreatestUpTo, IsLeastFrom, IsTaken, taken_at}
use Rattle.fixed_decimal.proofs.Weights.{ten_mono}
use Rattle.fixed_decimal.proofs.MagnitudePlaces.{magnitude_place_low, magnitude_place_high, magnitude_place-ten, magnitude_place_monotone}
use Rattle.fixed_decimal.proofs.Taken.{taken-unique, allowed_taken, taken_between, taken_in_order}
use Rattle.fixed_decimal.proofs.TakenMultiples.{taken_by_division}

-- the unit of a magnitude and that of the next both divide the power of ten between the two, or they are equal
abbrev pub AreJoined : (ℕ → ℕ) → ℕ → Type 0
AreJoined unit m = (IsMultiple (unit m) (10 ^ (m + 1)) × IsMultiple (unit (m + 1)) (10 ^ (m + 1))) ⊎ (unit m ≡ unit (m + 1))

-- a size that is a multiple of the unit of its own magnitude
abbrev pub HasItsUnit : (ℕ → ℕ) → ℕ → Type 0
HasItsUnit unit z = IsMultiple (unit (magnitude_place z)) z

-- the power of ten above the magnitude j, between the magnitudes a and b, is a multiple of u and of the unit at its magnitude
record IsStep (unit : ℕ → ℕ) (u a b : ℕ) : Type 0 where
  j : ℕ
  from : a ≤ j
  below : j < b
  of_u : IsMultiple u (10 ^ (j + 1))
  of_own : IsMultiple (unit (j + 1)) (10 ^ (j + 1))

module _ (unit : ℕ → ℕ) (joined : (m : ℕ) → AreJoined unit m) where
  -- of two magnitudes the unit at the greater one is that at the lesser one, or a power of ten between is a multiple of it
  up_to : (d a b : ℕ) → b ≡ a + d → (unit b ≡ unit a) ⊎ IsStep unit (unit a) a b
  up_to zero a b at = let same : b ≡ a = omega arith in inl (ap unit same)
  up_to (suc d) a b at =
      let next : b ≡ a + d + 1 = omega arith in
      elim (up_to d a (a + d) refl) [
        | inr s ↦ inr (record { j = s.j; from = s.from; below = omega (arith, s.below); of_u = s.of_u; of_own = s.of_own })
        | inl e ↦ elim (joined (a + d)) [
          | inl (p, q) ↦ inr (record { j = a + d; from = omega arith; below = omega arith; of_u = rw e at p; of_own = q })
          | inr f ↦ inl (ap unit next ∙ sym f ∙ e)
        ]
      ]

  -- and the same of the unit at the greater one
  down_from : (d a b : ℕ) → b ≡ a + d → (unit a ≡ unit b) ⊎ IsStep unit (unit b) a b
  down_from zero a b at = let same : a ≡ b = omega arith in inl (ap unit same)
  down_from (suc d) a b at =
      let next : b ≡ a + d + 1 = omega arith in
      elim (joined (a + d)) [
        | inl (p, q) ↦ inr (record { j = a + d; from = omega arith; below = omega arith; of_u = rw next q; of_own = q })
        | inr f ↦ elim (down_from d a (a + d) refl) [
          | inl e ↦ inl (e ∙ f ∙ sym (ap unit next))
          | inr s ↦ inr (record {
            j = s.j;
            from = s.from;
            below = omega (arith, s.below);
            of_u = rw (next, ← f) s.of_u;
            of_own = s.of_own;
          })
        ]
      ]

  -- 0 has its unit
  zero_has : HasItsUnit unit 0
  zero_has = (0, omega arith)

  -- a power of ten has its unit where the unit at its magnitude divides it
  ten_has : (p : ℕ) → IsMultiple (unit p) (10 ^ p) → HasItsUnit unit (10 ^ p)
  ten_has p h = rw (magnitude_place-ten p) h

  module _ (x : ℕ) (some : 0 < x) where
    -- a multiple of the unit at x's magnitude that has its own unit and lies between two sizes
    record IsBetween (a b : ℕ) : Type 0 where
      w : ℕ
      from : a ≤ w
      to : w ≤ b
      multiple : IsMultiple (unit (magnitude_place x)) w
      has : HasItsUnit unit w

    -- a size up to x has the unit at x's magnitude, or such a multiple lies above it
    below : (z : ℕ) → 0 < z → z ≤ x → (unit (magnitude_place z) ≡ unit (magnitude_place x)) ⊎ IsBetween (z + 1) x
    below z positive h =
        let below : magnitude_place z ≤ magnitude_place x = magnitude_place_monotone z x positive h in
        elim (down_from (magnitude_place x - magnitude_place z) (magnitude_place z) (magnitude_place x) (omega arith)) [
          | inl e ↦ inl e
          | inr s ↦ inr (record {
            w = 10 ^ (s.j + 1);
            from = omega (arith, magnitude_place_high z positive, ten_mono (magnitude_place z + 1) (s.j + 1) (omega (arith, s.from)));
            to = omega (arith, magnitude_place_low x some, ten_mono (s.j + 1) (magnitude_place x) (omega (arith, s.below)));
            multiple = s.of_u;
            has = ten_has (s.j + 1) s.of_own;
          })
        ]

    -- and so of a size from x on
    above : (z : ℕ) → x ≤ z → (unit (magnitude_place z) ≡ unit (magnitude_place x)) ⊎ IsBetween (x + 1) z
    above z h =
        let below : magnitude_place x ≤ magnitude_place z = magnitude_place_monotone x z some h in
        elim (up_to (magnitude_place z - magnitude_place x) (magnitude_place x) (magnitude_place z) (omega arith)) [
          | inl e ↦ inl e
          | inr s ↦ inr (record {
            w = 10 ^ (s.j + 1);
            from = omega (arith, magnitude_place_high x some, ten_mono (magnitude_place x + 1) (s.j + 1) (omega (arith, s.from)));
            to = omega (arith, magnitude_place_low z (omega arith), ten_mono (s.j + 1) (magnitude_place z) (omega (arith, s.below)));
            multiple = s.of_u;
            has = ten_has (s.j + 1) s.of_own;
          })
        ]

    -- the greatest multiple up to x is the greatest size up to x that has its unit
    greatest_has : (low : ℕ) → IsGreatestUpTo (IsMultiple (unit (magnitude_place x))) x low → IsGreatestUpTo (HasItsUnit unit) x low
    greatest_has low g = record {
      allowed = elim (cases_eq low 0) [
        | inl none ↦ rw none zero_has
        | inr other ↦ elim (below low (omega arith) g.up_to) [
          | inl e ↦ rw e g.allowed
          | inr b ↦ absurd (omega (arith, b.from, g.greatest b.w b.multiple b.to))
        ]
      ];
      up_to = g.up_to;
      greatest = λ z has h. elim (cases_eq z 0) [
        | inl none ↦ omega arith
        | inr other ↦ elim (below z (omega arith) h) [
          | inl e ↦ g.greatest z (rw e at has) h
          | inr b ↦ omega (arith, b.from, g.greatest b.w b.multiple b.to)
        ]
      ];
    }

    -- and the least multiple from x on the least size from x on
    least_has : (high : ℕ) → IsLeastFrom (IsMultiple (unit (magnitude_place x))) x high → IsLeastFrom (HasItsUnit unit) x high
    least_has high l = record {
      allowed = elim (above high l.from) [
        | inl e ↦ rw e l.allowed
        | inr b ↦
            let same : b.w ≡ high = omega (arith, b.to, l.least b.w b.multiple (omega (arith, b.from))) in
            rw same at b.has
      ];
      from = l.from;
      least = λ z has h. elim (above z h) [
        | inl e ↦ l.least z (rw e at has) h
        | inr b ↦ omega (arith, b.to, l.least b.w b.multiple (omega (arith, b.from)))
      ];
    }

  -- the neighbours of each size, 0 too, are the same in both sets
  pub lower_has : (x low : ℕ) → IsGreatestUpTo (IsMultiple (unit (magnitude_place x))) x low → IsGreatestUpTo (HasItsUnit unit) x low
  lower_has x low g = elim (cases_eq x 0) [
    | inl none ↦
        let same : low ≡ 0 = omega (arith, g.up_to) in
        record { allowed = rw same zero_has; up_to = g.up_to; greatest = λ z has h. omega arith }
    | inr other ↦ greatest_has x (omega arith) low g
  ]

  pub upper_has : (x high : ℕ) → IsLeastFrom (IsMultiple (unit (magnitude_place x))) x high → IsLeastFrom (HasItsUnit unit) x high
  upper_has x high l = elim (cases_eq x 0) [
    | inl none ↦
        let same : high ≡ 0 = omega (arith, l.least 0 (0, omega arith) (omega arith)) in
        record { allowed = rw same zero_has; from = l.from; least = λ z has h. omega arith }
    | inr other ↦ least_has x (omega arith) high l
  ]

  module _ (positive : (m : ℕ) → 0 < unit m) (mode : UnsignedRoundingMode) where
    -- what a mode takes of the multiples is what it takes of the sizes that have their unit
    pub taken_has : (x y : ℕ) → IsTaken (IsMultiple (unit (magnitude_place x))) mode (unit (magnitude_place x)) x y →
        IsTaken (HasItsUnit unit) mode (unit (magnitude_place x)) x y
    taken_has x y t = record { low = t.low; high = t.high; lower = lower_has x t.low t.lower; upper = upper_has x t.high t.upper; is = t.is }

    -- so division gives it
    pub divided_has : (x : ℕ) → IsTaken (HasItsUnit unit) mode (unit (magnitude_place x)) x (taken_at mode (unit (magnitude_place x)) x)
    divided_has x =
        taken_has x (taken_at mode (unit (magnitude_place x)) x) (taken_by_division mode (unit (magnitude_place x)) x (positive (magnitude_place x)))

    -- and the other way round
    pub has_taken : (x y : ℕ) → IsTaken (HasItsUnit unit) mode (unit (magnitude_place x)) x y →
        IsTaken (IsMultiple (unit (magnitude_place x))) mode (unit (magnitude_place x)) x y
    has_taken x y t =
        let u : ℕ = unit (magnitude_place x) in
        let same : y ≡ taken_at mode u x = taken-unique (HasItsUnit unit) mode u x y (taken_at mode u x) t (divided_has x) in
        rw same (taken_by_division mode u x (positive (magnitude_place x)))

    -- of two sizes the lesser is taken as no greater one, each by the unit at its own magnitude
    pub has_in_order : (x x' y y' : ℕ) → x ≤ x' → IsTaken (HasItsUnit unit) mode (unit (magnitude_place x)) x y →
        IsTaken (HasItsUnit unit) mode (unit (magnitude_place x')) x' y' → y ≤ y'
    has_in_order x x' y y' le t t' = elim (cases_eq x 0) [
      | inl none ↦
          let u : ℕ = unit (magnitude_place x) in
          let has : HasItsUnit unit x = rw none zero_has in
          let same : y ≡ x = taken-unique (HasItsUnit unit) mode u x y x t (allowed_taken (HasItsUnit unit) mode u x has) in
          omega arith
      | inr other ↦ elim (below x' (omega arith) x (omega arith) le) [
        | inl e ↦ taken_in_order (HasItsUnit unit) mode (unit (magnitude_place x')) x x' y y' le (rw e at t) t'
        | inr b ↦
            let p = taken_between (HasItsUnit unit) mode (unit (magnitude_place x)) x y t in
            let q = taken_between (HasItsUnit unit) mode (unit (magnitude_place x')) x' y' t' in
            omega (arith, p.1, q.0, t.upper.least b.w b.has (omega (arith, b.from)), t'.lower.greatest b.w b.has b.to)
      ]
    ]
