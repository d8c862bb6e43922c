-- The units of a precision and a table that fit: the powers of ten between magnitudes are multiples of the units on both
-- sides, or the units are equal.
use Rattle.std.proofs.Common.{◌≡◌, ℕ, ◌+◌, ◌-◌, ◌*◌, ◌^◌, ◌<◌, ◌≤◌, ◌⊎◌, inl, inr, refl, ◌∙◌, ap, arith, min, max}
use Rattle.std.proofs.Common.{List, [], Option, Some, None, IfSome}
use Rattle.std.proofs.lemmas.Bool.{cases_lt}
use Rattle.std.proofs.Math.Nat.{mul-le-mul_left}
use Rattle.std.proofs.lemmas.Nat.{pow-add}
use Rattle.fixed_decimal.specs.declared.increments.RoundingIncrement.{RoundingIncrement}
use Rattle.fixed_decimal.specs.declared.increments.RoundingIncrement.TheVariants.{MultiplesOf1, MultiplesOf2, MultiplesOf5, MultiplesOf25}
use Rattle.fixed_decimal.specs.Size.{finest, place, ten_to}
use Rattle.fixed_decimal.specs.Nearest.{IsMultiple}
use Rattle.fixed_decimal.specs.Increments.{unit_of, step_of}
use Rattle.fixed_decimal.proofs.Weights.{ten_pos}
use Rattle.fixed_decimal.proofs.MagnitudePlaces.{ten_multiple}
use Rattle.icu_decimal_data.specs.CompactTable.{TableEntry, IsCompactTable, type_place, entry_for, exponent_for, exponent_of}
use Rattle.icu_decimal.proofs.EntrySteps.{entry_has, entry_reached}
use Rattle.skeleton_settings.specs.declared.settings.Precision.{Precision}
use Rattle.skeleton_settings.specs.declared.settings.Precision.TheVariants.{Fraction, Significant, Increment, Both, Currency}
use Rattle.skeleton_settings.specs.declared.settings.Priority.TheVariants.{Relaxed, Strict}
use Rattle.number_rounding.specs.Steps.{step, fraction_place, significant_place, preferred_place, DividesOne}
use Rattle.number_rounding.specs.Showable.{unit_at, FitsTable}
use Rattle.number_rounding.specs.Laws.{KeepsMagnitude}
use Rattle.number_rounding.proofs.Joined.{AreJoined}

-- a multiple of a multiple
multiple_again : (u v w : ℕ) → IsMultiple u v → IsMultiple v w → IsMultiple u w
multiple_again u v w (i, e) (j, f) = (j * i, rw (f, e) (omega arith))

-- a multiple, both times a power of ten
multiple_times : (u v e : ℕ) → IsMultiple u v → IsMultiple (u * 10 ^ e) (v * 10 ^ e)
multiple_times u v e (k, f) = (k, rw f (omega arith))

-- a step at a place is no coarser than the place, or that of the fraction digits, which is one for all places
abbrev IsFine : ℕ → ℕ → ℕ → Type 0
IsFine c k p = (c ≤ p) × (p ≤ max c k)

-- steps of powers of ten that are as fine are joined
fine_joined : (c m p q : ℕ) → IsFine c m p → IsFine c (m + 1) q → (IsMultiple (10 ^ p) (10 ^ (m + 1)) × IsMultiple (10 ^ q) (10 ^ (m + 1))) ⊎ (10 ^
    p ≡ 10 ^ q)
fine_joined c m p q (a, b) (a', b') = elim (cases_lt (m + 1) c) [
  | inl h ↦ let same : p ≡ q = omega arith in inr (ap (λ n. 10 ^ n) same)
  | inr h ↦ inl (ten_multiple p (m + 1) (omega arith), ten_multiple q (m + 1) (omega arith))
]

-- each kind of digits is as fine
fraction_fine : (most : Option ℕ) (k : ℕ) → IsFine (fraction_place most) k (fraction_place most)
fraction_fine most k = (omega arith, omega arith)

significant_fine : (most : Option ℕ) (k : ℕ) → IsFine 0 k (significant_place most k)
significant_fine None k = (omega arith, omega arith)
significant_fine (Some most) k = (omega arith, omega arith)

relaxed_fine : (f most k : ℕ) → IsFine 0 k (min f (k - (most - 1)))
relaxed_fine f most k = (omega arith, omega arith)

strict_fine : (f most k : ℕ) → IsFine f k (max f (k - (most - 1)))
strict_fine f most k = (omega arith, omega arith)

-- no place of fraction digits is above that of power 0
pub fraction_low : (most : Option ℕ) → fraction_place most ≤ finest
fraction_low None = omega arith
fraction_low (Some most) = omega arith

-- so each step at the place of power 0 and above divides the power of ten of its place
fine_whole : (c k p : ℕ) → c ≤ finest → finest ≤ k → IsFine c k p → IsMultiple (10 ^ p) (10 ^ k)
fine_whole c k p low h (a, b) = ten_multiple p k (omega arith)

-- the steps of each precision are joined
pub steps_joined : (precision : Precision) (m : ℕ) → AreJoined (step precision) m
steps_joined (Fraction least most) m =
    fine_joined (fraction_place most) m (fraction_place most) (fraction_place most) (fraction_fine most m) (fraction_fine most (m + 1))
steps_joined (Significant least most) m =
    fine_joined 0 m (significant_place most m) (significant_place most (m + 1)) (significant_fine most m) (significant_fine most (m + 1))
steps_joined (Increment increment power least) m = inr refl
steps_joined (Currency is_cash) m =
    fine_joined (fraction_place (Some 2)) m (fraction_place (Some 2)) (fraction_place (Some 2)) (fraction_fine (Some 2) m)
    (fraction_fine (Some 2) (m + 1))
steps_joined (Both least most few many Relaxed keeps) m =
    fine_joined 0 m (min (fraction_place most) (m - (many - 1))) (min (fraction_place most) (m + 1 - (many - 1)))
    (relaxed_fine (fraction_place most) many m) (relaxed_fine (fraction_place most) many (m + 1))
steps_joined (Both least most few many Strict keeps) m =
    fine_joined (fraction_place most) m (max (fraction_place most) (m - (many - 1))) (max (fraction_place most) (m + 1 - (many - 1)))
    (strict_fine (fraction_place most) many m) (strict_fine (fraction_place most) many (m + 1))

-- and where 1 is a multiple of the increment they divide the powers of ten from power 0 on
pub steps_whole : (precision : Precision) (k : ℕ) → DividesOne precision → finest ≤ k → IsMultiple (step precision k) (10 ^ k)
steps_whole (Fraction least most) k d h = fine_whole (fraction_place most) k (fraction_place most) (fraction_low most) h (fraction_fine most k)
steps_whole (Significant least most) k d h = fine_whole 0 k (significant_place most k) (omega arith) h (significant_fine most k)
steps_whole (Increment increment power least) k d h =
    let one : finest + 0 ≡ finest = omega arith in
    multiple_again (unit_of increment power) (10 ^ finest) (10 ^ k) (rw one at d) (ten_multiple finest k h)
steps_whole (Currency is_cash) k d h =
    fine_whole (fraction_place (Some 2)) k (fraction_place (Some 2)) (fraction_low (Some 2)) h (fraction_fine (Some 2) k)
steps_whole (Both least most few many Relaxed keeps) k d h =
    fine_whole 0 k (min (fraction_place most) (k - (many - 1))) (omega arith) h (relaxed_fine (fraction_place most) many k)
steps_whole (Both least most few many Strict keeps) k d h =
    fine_whole (fraction_place most) k (max (fraction_place most) (k - (many - 1))) (fraction_low most) h (strict_fine (fraction_place most) many k)

-- no increment is 0
pub increment_pos : (increment : RoundingIncrement) → 1 ≤ step_of increment
increment_pos MultiplesOf1 = omega arith
increment_pos MultiplesOf2 = omega arith
increment_pos MultiplesOf5 = omega arith
increment_pos MultiplesOf25 = omega arith

-- no step is 0
pub step_pos : (precision : Precision) (k : ℕ) → 0 < step precision k
step_pos (Fraction least most) k = ten_pos (fraction_place most)
step_pos (Significant least most) k = ten_pos (significant_place most k)
step_pos (Increment increment power least) k =
    let some : 1 ≤ step_of increment = increment_pos increment in
    omega (arith, mul-le-mul_left (ten_to power) some, ten_pos (place power))
step_pos (Currency is_cash) k = ten_pos (fraction_place (Some 2))
step_pos (Both least most few many priority keeps) k = ten_pos (preferred_place priority (fraction_place most) (significant_place (Some many) k))

-- without entries no magnitude has an exponent
pub exponent_none : (m : ℕ) → exponent_for [] m ≡ 0
unfolding entry_for
exponent_none m = refl

-- without an exponent the unit is the step
pub without_exponent : (s : ℕ → ℕ) (m e : ℕ) → e ≡ 0 → s (m - e) * 10 ^ e ≡ s m
without_exponent s m e none =
    let at : m - e ≡ m = omega arith in
    let one : 10 ^ e ≡ 1 = ap (λ n. 10 ^ n) none in
    rw (at, one) (omega arith)

module _ (s : ℕ → ℕ) (joined : (m : ℕ) → AreJoined s m) (whole : (k : ℕ) → finest ≤ k → IsMultiple (s k) (10 ^ k)) where
  -- with an exponent, the power of ten of the magnitude is a multiple of the unit
  times_some : (m e : ℕ) → finest + e ≤ m → IsMultiple (s (m - e) * 10 ^ e) (10 ^ m)
  times_some m e h =
      let split : m ≡ m - e + e = omega arith in
      let power : 10 ^ m ≡ 10 ^ (m - e) * 10 ^ e = ap (λ n. 10 ^ n) split ∙ pow-add 10 (m - e) e in
      rw power (multiple_times (s (m - e)) (10 ^ (m - e)) e (whole (m - e) (omega arith)))

  -- at power 0 and above, the power of ten behind the magnitude is a multiple of the unit
  times_above : (m e : ℕ) → finest ≤ m + 1 → (e ≡ 0) ⊎ (finest + e ≤ m) → IsMultiple (s (m - e) * 10 ^ e) (10 ^ (m + 1))
  times_above m e h (inr some) = multiple_again (s (m - e) * 10 ^ e) (10 ^ m) (10 ^ (m + 1)) (times_some m e some) (ten_multiple m (m + 1) (omega arith))
  times_above m e h (inl none) =
      let whole_step : s (m - e) * 10 ^ e ≡ s m = without_exponent s m e none in
      rw whole_step (elim (joined m) [
        | inl (a, b) ↦ a
        | inr same ↦ rw same (whole (m + 1) h)
      ])

  -- and of the unit of the next magnitude
  times_next : (m e : ℕ) → finest ≤ m + 1 → (e ≡ 0) ⊎ (finest + e ≤ m + 1) → IsMultiple (s (m + 1 - e) * 10 ^ e) (10 ^ (m + 1))
  times_next m e h (inr some) = times_some (m + 1) e some
  times_next m e h (inl none) = let whole_step : s (m + 1 - e) * 10 ^ e ≡ s (m + 1) = without_exponent s (m + 1) e none in rw whole_step (whole (m + 1) h)

  -- the units of two magnitudes with their exponents are joined
  times_joined : (m e e' : ℕ) → (e ≡ 0) ⊎ (finest + e ≤ m) → (e' ≡ 0) ⊎ (finest + e' ≤ m + 1) →
      (IsMultiple (s (m - e) * 10 ^ e) (10 ^ (m + 1)) × IsMultiple (s (m + 1 - e') * 10 ^ e') (10 ^ (m + 1)))
      ⊎ (s (m - e) * 10 ^ e ≡ s (m + 1 - e') * 10 ^ e')
  times_joined m e e' h h' = elim (cases_lt (m + 1) finest) [
    | inr above ↦ inl (times_above m e above h, times_next m e' above h')
    | inl under ↦
        let none : e ≡ 0 = elim h [ inl z ↦ z | inr some ↦ absurd (omega arith) ] in
        let none' : e' ≡ 0 = elim h' [ inl z ↦ z | inr some ↦ absurd (omega arith) ] in
        let same : s (m - e) * 10 ^ e ≡ s m = without_exponent s m e none in
        let same' : s (m + 1 - e') * 10 ^ e' ≡ s (m + 1) = without_exponent s (m + 1) e' none' in
        rw (same, same') (joined m)
  ]

-- a magnitude has no exponent, or one that stands below it
pub exponent_places : (table : List TableEntry) (m : ℕ) → IsCompactTable table → (exponent_for table m ≡ 0) ⊎ (finest + exponent_for table m ≤ m)
exponent_places table m is =
    go (entry_for table m) (entry_has (λ (e : TableEntry). e.exponent ≤ e.log10_type) table m is.exponents_small) (entry_reached table m)
  where
    go : (o : Option TableEntry) → IfSome o (λ e. e.exponent ≤ e.log10_type) → IfSome o (λ e. type_place e ≤ m) →
        (exponent_of o ≡ 0) ⊎ (finest + exponent_of o ≤ m)
    go None a b = inl refl
    go (Some e) a b = inr (omega arith)

-- the units of a precision and a table that fit are joined
pub units_joined : (precision : Precision) (table : List TableEntry) → FitsTable precision table → (m : ℕ) → AreJoined (unit_at precision table) m
units_joined precision table fits m = elim fits.divides [
  | inl none ↦ plain table none
  | inr divides ↦
      times_joined (step precision) (steps_joined precision) (λ k. steps_whole precision k divides) m (exponent_for table m) (exponent_for table (m + 1))
      (exponent_places table m fits.is_table) (exponent_places table (m + 1) fits.is_table)
]
  where
    plain : (t : List TableEntry) → t ≡ [] → AreJoined (unit_at precision t) m
    plain t none =
        let here : exponent_for t m ≡ 0 = ap (λ s. exponent_for s m) none ∙ exponent_none m in
        let next : exponent_for t (m + 1) ≡ 0 = ap (λ s. exponent_for s (m + 1)) none ∙ exponent_none (m + 1) in
        let same : unit_at precision t m ≡ step precision m = without_exponent (step precision) m (exponent_for t m) here in
        let same' : unit_at precision t (m + 1) ≡ step precision (m + 1) = without_exponent (step precision) (m + 1) (exponent_for t (m + 1)) next in
        rw (same, same') (steps_joined precision m)

-- no unit is 0
pub unit_pos : (precision : Precision) (table : List TableEntry) (m : ℕ) → 0 < unit_at precision table m
unit_pos precision table m =
    let e : ℕ = exponent_for table m in
    let a : 1 ≤ step precision (m - e) = step_pos precision (m - e) in
    omega (arith, mul-le-mul_left (10 ^ e) a, ten_pos e)

-- steps that keep the magnitude divide the power of ten of their place
keeps_divides : (precision : Precision) (k : ℕ) → KeepsMagnitude precision → IsMultiple (step precision k) (10 ^ k)
keeps_divides (Fraction least None) k h = ten_multiple 0 k (omega arith)
keeps_divides (Fraction least (Some most)) k h = absurd h
keeps_divides (Significant least most) k h = ten_multiple (significant_place most k) k (omega (arith, (significant_fine most k).1))
keeps_divides (Increment increment power least) k h = absurd h
keeps_divides (Currency is_cash) k h = absurd h
keeps_divides (Both least most few many Relaxed keeps) k h = ten_multiple (min (fraction_place most) (k - (many - 1))) k (omega arith)
keeps_divides (Both least most few many Strict keeps) k h = absurd h

-- and so do the units
pub keeps_unit : (precision : Precision) (table : List TableEntry) (m : ℕ) → KeepsMagnitude precision → IsCompactTable table →
    IsMultiple (unit_at precision table m) (10 ^ m)
keeps_unit precision table m keeps is =
    let e : ℕ = exponent_for table m in
    let below : e ≤ m = elim (exponent_places table m is) [ inl none ↦ omega arith | inr some ↦ omega arith ] in
    let split : m ≡ m - e + e = omega arith in
    let power : 10 ^ m ≡ 10 ^ (m - e) * 10 ^ e = ap (λ n. 10 ^ n) split ∙ pow-add 10 (m - e) e in
    rw power (multiple_times (step precision (m - e)) (10 ^ (m - e)) e (keeps_divides precision (m - e) keeps))
