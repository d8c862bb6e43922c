-- What a rounding mode takes of the multiples of a unit: by a decision beside the multiple below, and by division.
use Rattle.std.proofs.Common.{◌≡◌, ℕ, suc, ◌+◌, ◌-◌, ◌*◌, ◌/◌, ◌%◌, ◌<◌, ◌≤◌, ◌⊎◌, inl, inr, refl, sym}
use Rattle.std.proofs.Common.{◌∙◌, ap, arith}
use Rattle.std.proofs.Math.Nat.{mul-le-mul_left, mul-div_cancel}
use Rattle.std.proofs.lemmas.Nat.{div-mul-add}
use Rattle.std.proofs.lemmas.Bool.{cases_eq, cases_order}
use Rattle.std.proofs.lemmas.Bool.Decides.{nat_tests}
use Rattle.fixed_decimal.specs.declared.modes.UnsignedRoundingMode.{UnsignedRoundingMode}
use Rattle.fixed_decimal.specs.declared.modes.UnsignedRoundingMode.TheVariants.{Expand, Trunc, HalfExpand, HalfTrunc, HalfEven}
use Rattle.fixed_decimal.specs.Nearest.{IsMultiple, IsNearest}
use Rattle.fixed_decimal.specs.Rounding.{RoundsUp, RoundsDown}
use Rattle.fixed_decimal.specs.Modes.{IsGreatestUpTo, IsLeastFrom, IsTaken, taken, taken_at, even_of}
use Rattle.fixed_decimal.specs.RoundedBy.{RoundsUpBy, RoundsDownBy}
use Rattle.fixed_decimal.proofs.Nearness.{multiple_cases, nearest_below, nearest_above, nearest_tie_even, nearest_tie_odd, nearest-unique}
use Rattle.fixed_decimal.proofs.Taken.{allowed_taken, if_ge, if_lt, taken-unique}

-- q units are the greatest multiple up to q units and a rest
pub multiple_below : (u q r : ℕ) → r < u → IsGreatestUpTo (IsMultiple u) (q * u + r) (q * u)
multiple_below u q r small = record {
  allowed = (q, refl);
  up_to = omega arith;
  greatest = λ z (k, e) h. rw e (elim (multiple_cases u q k) [ inl g ↦ g | inr g ↦ absurd (omega arith) ]);
}

-- q + 1 units are the least multiple from q units and some rest on
pub multiple_above : (u q r : ℕ) → 0 < r → r ≤ u → IsLeastFrom (IsMultiple u) (q * u + r) ((q + 1) * u)
multiple_above u q r some small = record {
  allowed = (q + 1, refl);
  from = omega arith;
  least = λ z (k, e) h. rw e (elim (multiple_cases u q k) [ inl g ↦ absurd (omega arith) | inr g ↦ omega arith ]);
}

-- between q units and q + 1 with some rest, a mode takes what it takes of the two
pub some_rest : (mode : UnsignedRoundingMode) (u q r y : ℕ) → 0 < r → r < u → y ≡ taken mode u (q * u) ((q + 1) * u) (q * u + r) →
    IsTaken (IsMultiple u) mode u (q * u + r) y
some_rest mode u q r y some small e = record {
  low = q * u;
  high = (q + 1) * u;
  lower = multiple_below u q r small;
  upper = multiple_above u q r some (omega arith);
  is = e;
}

-- without a rest a mode takes the size itself
pub no_rest : (mode : UnsignedRoundingMode) (u q r : ℕ) → r ≡ 0 → IsTaken (IsMultiple u) mode u (q * u + r) (q * u)
no_rest mode u q r none =
    let same : q * u + r ≡ q * u = omega arith in
    rw same (allowed_taken (IsMultiple u) mode u (q * u) (q, refl))

-- q units make an even number of units where q is even
even_below : (u q h : ℕ) → 0 < u → q % 2 ≡ 0 → even_of u (q * u) h ≡ q * u
even_below u q h some e =
    let whole : (q * u) / u ≡ q = mul-div_cancel q some in
    rw whole (grind (arith, nat_tests))

-- and no even number of units where q is odd
odd_below : (u q h : ℕ) → 0 < u → q % 2 ≡ 1 → even_of u (q * u) h ≡ h
odd_below u q h some e =
    let whole : (q * u) / u ≡ q = mul-div_cancel q some in
    rw whole (grind (arith, nat_tests))

-- how the distances of q units and a rest of r compare
below_is : (u q r : ℕ) → (q * u + r) - q * u ≡ r
below_is u q r = omega arith

above_is : (u q r : ℕ) → (q + 1) * u - (q * u + r) ≡ u - r
above_is u q r = omega arith

-- what is to be rounded up is taken as the multiple above it
pub up_taken : (mode : UnsignedRoundingMode) (u q r : ℕ) → r < u → RoundsUpBy mode u q r → IsTaken (IsMultiple u) mode u (q * u + r) ((q + 1) * u)
up_taken Expand u q r small h = some_rest Expand u q r ((q + 1) * u) h small refl
up_taken Trunc u q r small h = absurd h
up_taken HalfExpand u q r small h =
    some_rest HalfExpand u q r ((q + 1) * u) (omega arith) small
    (sym (if_ge ((q * u + r) - q * u) ((q + 1) * u - (q * u + r)) (q * u) ((q + 1) * u) (omega (arith, below_is u q r, above_is u q r))))
up_taken HalfTrunc u q r small h =
    some_rest HalfTrunc u q r ((q + 1) * u) (omega arith) small
    (sym (if_lt ((q + 1) * u - (q * u + r)) ((q * u + r) - q * u) ((q + 1) * u) (q * u) (omega (arith, below_is u q r, above_is u q r))))
up_taken HalfEven u q r small (inl h) =
    some_rest HalfEven u q r ((q + 1) * u) (omega arith) small
    (sym (if_ge ((q * u + r) - q * u) ((q + 1) * u - (q * u + r)) (q * u) _ (omega (arith, below_is u q r, above_is u q r))
    ∙ if_lt ((q + 1) * u - (q * u + r)) ((q * u + r) - q * u) ((q + 1) * u) _ (omega (arith, below_is u q r, above_is u q r))))
up_taken HalfEven u q r small (inr (h, (j, e))) =
    some_rest HalfEven u q r ((q + 1) * u) (omega arith) small
    (sym (if_ge ((q * u + r) - q * u) ((q + 1) * u - (q * u + r)) (q * u) _ (omega (arith, below_is u q r, above_is u q r))
    ∙ (if_ge ((q + 1) * u - (q * u + r)) ((q * u + r) - q * u) ((q + 1) * u) _ (omega (arith, below_is u q r, above_is u q r))
    ∙ odd_below u q ((q + 1) * u) (omega arith) (omega arith))))

-- what is to be rounded down is taken as the multiple below it
pub down_taken : (mode : UnsignedRoundingMode) (u q r : ℕ) → r < u → RoundsDownBy mode u q r → IsTaken (IsMultiple u) mode u (q * u + r) (q * u)
down_taken mode u q r small h = elim (cases_eq r 0) [ inl e ↦ no_rest mode u q r e | inr some ↦ go mode (omega arith) h ]
  where
    go : (m : UnsignedRoundingMode) → 0 < r → RoundsDownBy m u q r → IsTaken (IsMultiple u) m u (q * u + r) (q * u)
    go Expand some h = absurd (omega arith)
    go Trunc some h = some_rest Trunc u q r (q * u) some small refl
    go HalfExpand some h =
        some_rest HalfExpand u q r (q * u) some small
        (sym (if_lt ((q * u + r) - q * u) ((q + 1) * u - (q * u + r)) (q * u) ((q + 1) * u) (omega (arith, below_is u q r, above_is u q r))))
    go HalfTrunc some h =
        some_rest HalfTrunc u q r (q * u) some small
        (sym (if_ge ((q + 1) * u - (q * u + r)) ((q * u + r) - q * u) ((q + 1) * u) (q * u) (omega (arith, below_is u q r, above_is u q r))))
    go HalfEven some (inl h) =
        some_rest HalfEven u q r (q * u) some small
        (sym (if_lt ((q * u + r) - q * u) ((q + 1) * u - (q * u + r)) (q * u) _ (omega (arith, below_is u q r, above_is u q r))))
    go HalfEven some (inr (h, (j, e))) =
        some_rest HalfEven u q r (q * u) some small
        (sym (if_ge ((q * u + r) - q * u) ((q + 1) * u - (q * u + r)) (q * u) _ (omega (arith, below_is u q r, above_is u q r))
        ∙ (if_ge ((q + 1) * u - (q * u + r)) ((q * u + r) - q * u) ((q + 1) * u) _ (omega (arith, below_is u q r, above_is u q r))
        ∙ even_below u q ((q + 1) * u) (omega arith) (omega arith))))

-- the same decision of both taken p times
pub up_times : (mode : UnsignedRoundingMode) (unit q rest p : ℕ) → 0 < p → RoundsUpBy mode unit q rest → RoundsUpBy mode (unit * p) q (rest * p)
up_times Expand unit q rest p some h = let g : 1 ≤ rest = h in omega (arith, mul-le-mul_left p g)
up_times Trunc unit q rest p some h = h
up_times HalfExpand unit q rest p some h = omega (arith, mul-le-mul_left p h)
up_times HalfTrunc unit q rest p some h = let g : suc unit ≤ 2 * rest = h in omega (arith, mul-le-mul_left p g)
up_times HalfEven unit q rest p some (inl h) = inl (let g : suc unit ≤ 2 * rest = h in omega (arith, mul-le-mul_left p g))
up_times HalfEven unit q rest p some (inr (h, e)) = inr (rw (← h) (omega arith), e)

pub down_times : (mode : UnsignedRoundingMode) (unit q rest p : ℕ) → 0 < p → RoundsDownBy mode unit q rest → RoundsDownBy mode (unit * p) q (rest * p)
down_times Expand unit q rest p some h = rw h (omega arith)
down_times Trunc unit q rest p some h = h
down_times HalfExpand unit q rest p some h = let g : suc (2 * rest) ≤ unit = h in omega (arith, mul-le-mul_left p g)
down_times HalfTrunc unit q rest p some h = omega (arith, mul-le-mul_left p h)
down_times HalfEven unit q rest p some (inl h) = inl (let g : suc (2 * rest) ≤ unit = h in omega (arith, mul-le-mul_left p g))
down_times HalfEven unit q rest p some (inr (h, e)) = inr (rw (← h) (omega arith), e)

-- an even or an odd number
even_or_odd : (n : ℕ) → (((j : ℕ) × (n ≡ 2 * j)) ⊎ ((j : ℕ) × (n + 1 ≡ 2 * j)))
even_or_odd n = elim (cases_eq (n % 2) 0) [
  | inl e ↦ inl (n / 2, omega arith)
  | inr e ↦ inr (n / 2 + 1, omega arith)
]

-- half to even rounds up or down
half_even_decides : (u q r : ℕ) → (RoundsUp u q r ⊎ RoundsDown u q r)
half_even_decides u q r = elim (cases_order (2 * r) u) [
  | inl half ↦ elim (even_or_odd q) [
    | inl even ↦ inr (inr (half, even))
    | inr odd ↦ inl (inr (half, odd))
  ]
  | inr (inl below) ↦ inr (inl below)
  | inr (inr above) ↦ inl (inl above)
]

-- what is to be rounded up half to even is nearest to the multiple above it
up_nearest : (u q r : ℕ) → r < u → RoundsUp u q r → IsNearest (IsMultiple u) u (q * u + r) ((q + 1) * u)
up_nearest u q r small (inl h) = nearest_above u q r (omega arith) h
up_nearest u q r small (inr (h, (j, e))) = nearest_tie_odd u q r j h e

-- what is to be rounded down half to even is nearest to the multiple below it
down_nearest : (u q r : ℕ) → RoundsDown u q r → IsNearest (IsMultiple u) u (q * u + r) (q * u)
down_nearest u q r (inl h) = nearest_below u q r h
down_nearest u q r (inr (h, (j, e))) = nearest_tie_even u q r j h e

-- some multiple is what half to even takes, and is nearest
half_even_some : (u x : ℕ) → 0 < u → (y : ℕ) × (IsTaken (IsMultiple u) HalfEven u x y × IsNearest (IsMultiple u) u x y)
half_even_some u x some =
    let q = x / u in
    let r = x % u in
    let split : q * u + r ≡ x = omega arith in
    let small : r < u = omega arith in
    elim (half_even_decides u q r) [
      | inl up ↦ ((q + 1) * u, (rw split at (up_taken HalfEven u q r small up), rw split at (up_nearest u q r small up)))
      | inr down ↦ (q * u, (rw split at (down_taken HalfEven u q r small down), rw split at (down_nearest u q r down)))
    ]

-- what half to even takes is the nearest multiple, the even one of two equally near
pub half_even-nearest : (u x y : ℕ) → 0 < u → IsTaken (IsMultiple u) HalfEven u x y → IsNearest (IsMultiple u) u x y
half_even-nearest u x y some p =
    let (z, (q, near)) = half_even_some u x some in
    rw (taken-unique (IsMultiple u) HalfEven u x y z p q) near

-- and the nearest multiple is what half to even takes
pub nearest-half_even : (u x y : ℕ) → 0 < u → IsNearest (IsMultiple u) u x y → IsTaken (IsMultiple u) HalfEven u x y
nearest-half_even u x y some p =
    let (z, (q, near)) = half_even_some u x some in
    rw (nearest-unique u x y z some p near) q

-- division gives the multiples around a size
pub taken_by_division : (mode : UnsignedRoundingMode) (u x : ℕ) → 0 < u → IsTaken (IsMultiple u) mode u x (taken_at mode u x)
taken_by_division mode u x some =
    let q = x / u in
    let r = x % u in
    let split : q * u + r ≡ x = omega arith in
    let small : r < u = omega arith in
    elim (cases_eq r 0) [
      | inl e ↦
          let top : (x + (u - 1)) / u ≡ q =
          ap (λ n. n / u) (let s : x + (u - 1) ≡ q * u + (u - 1) = omega arith in s) ∙ div-mul-add q u (u - 1) (omega arith) in
          record {
            low = q * u;
            high = ((x + (u - 1)) / u) * u;
            lower = rw split at (multiple_below u q r small);
            upper = rw top (record { allowed = (q, refl); from = omega arith; least = λ z _ h. omega arith });
            is = refl;
          }
      | inr e ↦
          let top : (x + (u - 1)) / u ≡ q + 1 =
          ap (λ n. n / u) (let s : x + (u - 1) ≡ (q + 1) * u + (r - 1) = omega arith in s) ∙ div-mul-add (q + 1) u (r - 1) (omega arith) in
          record {
            low = q * u;
            high = ((x + (u - 1)) / u) * u;
            lower = rw split at (multiple_below u q r small);
            upper = rw top (rw split at (multiple_above u q r (omega arith) (omega arith)));
            is = refl;
          }
    ]

-- what is taken of the multiples is what division gives
pub taken-at : (mode : UnsignedRoundingMode) (u x y : ℕ) → 0 < u → IsTaken (IsMultiple u) mode u x y → y ≡ taken_at mode u x
taken-at mode u x y some p = taken-unique (IsMultiple u) mode u x y (taken_at mode u x) p (taken_by_division mode u x some)

pub at-taken : (mode : UnsignedRoundingMode) (u x y : ℕ) → 0 < u → y ≡ taken_at mode u x → IsTaken (IsMultiple u) mode u x y
at-taken mode u x y some e = rw e (taken_by_division mode u x some)
