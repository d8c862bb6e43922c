-- Which multiple of a unit is nearest to q units and a rest.
use Rattle.std.proofs.Common.{◌≡◌, ◌≢◌, ℕ, suc, ◌+◌, ◌*◌, ◌/◌, ◌%◌, ◌<◌, ◌≤◌, ◌⊎◌, inl, inr, refl, sym, ◌∙◌}
use Rattle.std.proofs.Common.{ap, arith}
use Rattle.std.proofs.Math.Nat.{mul-le-mul_left}
use Rattle.std.proofs.lemmas.Bool.{cases_lt, cases_eq, cases_order}
use Rattle.fixed_decimal.specs.Nearest.{distance, IsMultiple, IsEvenMultiple, IsNearest}

-- a multiple of a unit is at most q units, or at least q + 1
pub multiple_cases : (u q k : ℕ) → ((k * u ≤ q * u) ⊎ (q * u + u ≤ k * u))
multiple_cases u q k = elim (cases_lt q k) [
  | inl h ↦ inr (let g : suc q ≤ k = omega arith in omega (arith, mul-le-mul_left u g))
  | inr h ↦ inl (omega (arith, mul-le-mul_left u h))
]

-- q units are nearest to q units and a rest of less than half a unit
pub nearest_below : (u q r : ℕ) → 2 * r < u → IsNearest (IsMultiple u) u (q * u + r) (q * u)
nearest_below u q r h = record {
  allowed = (q, refl);
  nearest = λ z (k, e). rw e (elim (multiple_cases u q k) [ inl g ↦ omega arith | inr g ↦ omega arith ]);
  even = λ z (k, e) other same. absurd (elim (multiple_cases u q k) [ inl g ↦ other (omega arith) | inr g ↦ omega arith ]);
}

-- q + 1 units are nearest to q units and a rest of more than half a unit
pub nearest_above : (u q r : ℕ) → r ≤ u → u < 2 * r → IsNearest (IsMultiple u) u (q * u + r) ((q + 1) * u)
nearest_above u q r le h = record {
  allowed = (q + 1, refl);
  nearest = λ z (k, e). rw e (elim (multiple_cases u q k) [ inl g ↦ omega arith | inr g ↦ omega arith ]);
  even = λ z (k, e) other same. absurd (elim (multiple_cases u q k) [ inl g ↦ omega arith | inr g ↦ other (omega arith) ]);
}

-- q units are nearest to q units and half a unit, where q is even
pub nearest_tie_even : (u q r j : ℕ) → 2 * r ≡ u → q ≡ 2 * j → IsNearest (IsMultiple u) u (q * u + r) (q * u)
nearest_tie_even u q r j h even = record {
  allowed = (q, refl);
  nearest = λ z (k, e). rw e (elim (multiple_cases u q k) [ inl g ↦ omega arith | inr g ↦ omega arith ]);
  even = λ z _ _ _. (j, ap (λ n. n * u) even);
}

-- q + 1 units are nearest to q units and half a unit, where q is odd
pub nearest_tie_odd : (u q r j : ℕ) → 2 * r ≡ u → q + 1 ≡ 2 * j → IsNearest (IsMultiple u) u (q * u + r) ((q + 1) * u)
nearest_tie_odd u q r j h even = record {
  allowed = (q + 1, refl);
  nearest = λ z (k, e). rw e (elim (multiple_cases u q k) [ inl g ↦ omega arith | inr g ↦ omega arith ]);
  even = λ z _ _ _. (j, ap (λ n. n * u) even);
}

-- at most one multiple is nearest
pub nearest-unique : (u x y z : ℕ) → 0 < u → IsNearest (IsMultiple u) u x y → IsNearest (IsMultiple u) u x z → y ≡ z
nearest-unique u x y z some ny nz =
    elim (cases_eq y z) [
      | inl e ↦ e
      | inr other ↦
          let same : distance x y ≡ distance x z = omega (arith, ny.nearest z nz.allowed, nz.nearest y ny.allowed) in
          absurd (apart (ny.even z nz.allowed (λ e. other (sym e)) (sym same)) (nz.even y ny.allowed other same) other same ny.nearest)
    ]
  where
    between : (i j : ℕ) → i < j → (2 * i * u + u + u ≤ 2 * j * u)
    between i j h = let g : suc i ≤ j = h in omega (arith, mul-le-mul_left (2 * u) g)

    apart : IsEvenMultiple u y → IsEvenMultiple u z → y ≢ z → distance x y ≡ distance x z →
        ((t : ℕ) → IsMultiple u t → distance x y ≤ distance x t) → ⊥
    apart (i, e) (j, f) other same least = elim (cases_lt i j) [
      | inl h ↦ omega (arith, between i j h, least ((2 * i + 1) * u) (2 * i + 1, refl))
      | inr h ↦ elim (cases_eq i j) [
        | inl g ↦ other (e ∙ ap (λ n. 2 * n * u) g ∙ sym f)
        | inr g ↦ let k : j < i = omega arith in omega (arith, between j i k, least ((2 * j + 1) * u) (2 * j + 1, refl))
      ]
    ]

-- some multiple is nearest
pub nearest_some : (u x : ℕ) → 0 < u → (y : ℕ) × IsNearest (IsMultiple u) u x y
nearest_some u x some =
    let q = x / u in
    let r = x % u in
    let split : q * u + r ≡ x = omega arith in
    let small : r < u = omega arith in
    elim (cases_order (2 * r) u) [
      | inl half ↦ elim (even_or_odd q) [
        | inl (j, e) ↦ (q * u, rw split at (nearest_tie_even u q r j half e))
        | inr (j, e) ↦ ((q + 1) * u, rw split at (nearest_tie_odd u q r j half e))
      ]
      | inr other ↦ elim other [
        | inl below ↦ (q * u, rw split at (nearest_below u q r below))
        | inr above ↦ ((q + 1) * u, rw split at (nearest_above u q r (omega arith) above))
      ]
    ]
  where
    even_or_odd : (n : ℕ) → (((j : ℕ) × (n ≡ 2 * j)) ⊎ ((j : ℕ) × (n + 1 ≡ 2 * j)))
    even_or_odd n = elim (cases_eq (n % 2) 0) [
      | inl e ↦ inl (n / 2, omega arith)
      | inr e ↦ inr (n / 2 + 1, omega arith)
    ]
