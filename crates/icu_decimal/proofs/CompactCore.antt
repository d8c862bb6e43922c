-- What the steps of displaying a decimal say of the size displayed.
use Rattle.std.proofs.Common.{◌≡◌, ℕ, zero, suc, ◌+◌, ◌-◌, ◌*◌, ◌^◌, ◌<◌, ◌≤◌, ◌⊎◌, inl, inr, refl, arith, sym, ap}
use Rattle.std.proofs.Common.{◌∙◌, List, Option, Some, None, IfSome, false, pos, ◌-ℤ◌, mul_assoc}
use Rattle.std.specs.Int.{int_max}
use Rattle.std.proofs.lemmas.Int.{ints, clamps}
use Rattle.std.proofs.lemmas.Nat.{pow-add}
use Rattle.std.proofs.lemmas.Bool.{cases_lt, cases_eq}
use Rattle.fixed_decimal.specs.Size.{finest, magnitude_place, magnitude, size, weighed}
use Rattle.fixed_decimal.specs.Trimming.{IsTrimmed}
use Rattle.fixed_decimal.specs.Unsigned.{IsUnsigned, Unsigned, high}
use Rattle.fixed_decimal.specs.Nearest.{IsMultiple}
use Rattle.fixed_decimal.proofs.Weights.{ten_pos, ten_mono, weighed_units}
use Rattle.fixed_decimal.proofs.Nearness.{nearest_some}
use Rattle.fixed_decimal.proofs.MagnitudePlaces.{magnitude_place_low, magnitude_place_monotone, magnitude_place-ten, magnitude_place-zero, ten_multiple}
use Rattle.icu_decimal_data.specs.CompactTable.{TableEntry, IsCompactTable, type_place, entry_for, exponent_of, exponent_for}
use Rattle.icu_decimal.specs.CompactNumber.{rounding_place, rounding_place_for, ShowsPastLimits}
use Rattle.icu_decimal.specs.RoundedAt.{IsRoundedAt, RoundsPast}
use Rattle.icu_decimal.specs.Decomposed.{are_same_entry, IsDecomposed}
use Rattle.icu_decimal.specs.NearestLemmas.{nearest_to_itself, itself_nearest, rounded_zero, rounded_within, nearest_compact_from_rounded, nearest_compact_same}
use Rattle.icu_decimal.proofs.EntrySteps.{entry_has, entry_reached}
use Rattle.icu_decimal.proofs.ChangedEntries.{same_entry-itself}

-- rounding never lowers the magnitude
pub magnitude_rounded : (exponent x y : ℕ) → IsRoundedAt (rounding_place exponent (magnitude_place x)) x y → magnitude_place x ≤ magnitude_place y
magnitude_rounded exponent zero y r = let none : y ≡ 0 = rounded_zero (rounding_place exponent (magnitude_place 0)) y r in rw none (omega arith)
magnitude_rounded exponent (suc k) y r =
    let bottom = (rounded_within exponent (suc k) y (omega arith) r).0 in
    omega (
      arith,
      magnitude_place_monotone (10 ^ magnitude_place (suc k)) y (ten_pos (magnitude_place (suc k))) bottom,
      magnitude_place-ten (magnitude_place (suc k)),
    )

-- a size whose rounding passes the limits of a decimal is displayed past them
pub past_limits_from_rounded : (table : List TableEntry) (x : ℕ) → RoundsPast (rounding_place_for table (magnitude_place x)) x → ShowsPastLimits table x
past_limits_from_rounded table x (y, r, large) = (y, nearest_compact_from_rounded table x y r, large)

-- and one that is displayed past them is rounded past them
pub rounded_from_past_limits : (table : List TableEntry) (x : ℕ) → ShowsPastLimits table x → RoundsPast (rounding_place_for table (magnitude_place x)) x
rounded_from_past_limits table x (z, near, large) =
    let rounded = nearest_some (10 ^ rounding_place_for table (magnitude_place x)) x (ten_pos (rounding_place_for table (magnitude_place x))) in
    let same : z ≡ rounded.0 = nearest_compact_same table x rounded.0 z (nearest_compact_from_rounded table x rounded.0 rounded.1) near in
    (rounded.0, rounded.1, omega arith)

-- no exponent but 0 of an entry is above the magnitude
pub exponent_le_magnitude : (table : List TableEntry) (m : ℕ) → IsCompactTable table →
    (exponent_of (entry_for table m) ≡ 0) ⊎ (exponent_of (entry_for table m) + finest ≤ m)
exponent_le_magnitude table m t = go (entry_for table m) (entry_has (λ e. e.exponent ≤ e.log10_type) table m t.exponents_small) (entry_reached table m)
  where
    go : (o : Option TableEntry) → IfSome o (λ e. e.exponent ≤ e.log10_type) → IfSome o (λ e. type_place e ≤ m) →
        (exponent_of o ≡ 0) ⊎ (exponent_of o + finest ≤ m)
    go None h k = inl refl
    go (Some e) h k = inr (omega arith)

-- a decimal that writes no power below a place is a multiple of ten to it
exact_multiple : (d : Unsigned) (u : ℕ) → u + d.scale ≤ finest → IsMultiple (10 ^ u) (size d)
exact_multiple d u h =
    let split = ten_multiple u (finest - d.scale) (omega arith) in (
      weighed 0 d.digits * split.0,
      weighed_units (finest - d.scale) d.digits ∙ ap (λ n. weighed 0 d.digits * n) split.1
          ∙ sym (mul_assoc (weighed 0 d.digits) split.0 (10 ^ u)),
    )

-- so rounding there leaves it as it is
pub exact_rounded : (d : Unsigned) (u : ℕ) → u + d.scale ≤ finest → IsRoundedAt u (size d) (size d)
exact_rounded d u h = nearest_to_itself (IsMultiple (10 ^ u)) (10 ^ u) (size d) (exact_multiple d u h)

-- and within the limits of a decimal
pub exact_within : (d : Unsigned) (u p : ℕ) → u + d.scale ≤ finest → size d < 10 ^ p → p ≤ finest + 32768 → ¬ (RoundsPast u (size d))
exact_within d u p h small few (z, near, large) =
    let same : z ≡ size d = itself_nearest (IsMultiple (10 ^ u)) (10 ^ u) (size d) z (exact_multiple d u h) near in
    omega (arith, ten_mono p (finest + 32768) few)

-- rounding leaves the magnitude as it is, or carries to the next one
pub magnitude_steps : (exponent x y : ℕ) → IsRoundedAt (rounding_place exponent (magnitude_place x)) x y →
    (magnitude_place y ≡ magnitude_place x) ⊎ (magnitude_place y ≡ magnitude_place x + 1)
magnitude_steps exponent zero y r = let none : y ≡ 0 = rounded_zero (rounding_place exponent (magnitude_place 0)) y r in inl (ap magnitude_place none)
magnitude_steps exponent (suc k) y r =
    let within = rounded_within exponent (suc k) y (omega arith) r in
    let some : 0 < y = omega (arith, ten_pos (magnitude_place (suc k))) in
    let low = magnitude_place_monotone (10 ^ magnitude_place (suc k)) y (ten_pos (magnitude_place (suc k))) within.0 in
    let high = magnitude_place_monotone y (10 ^ (magnitude_place (suc k) + 1)) some within.1 in
    elim (cases_eq (magnitude_place y) (magnitude_place (suc k))) [
      | inl stays ↦ inl stays
      | inr other ↦ inr (omega (arith, magnitude_place-ten (magnitude_place (suc k)), magnitude_place-ten (magnitude_place (suc k) + 1)))
    ]

-- where rounding carries to the next magnitude, it reaches just the power of ten
carry_reaches : (exponent x y : ℕ) → magnitude_place y ≡ magnitude_place x + 1 → IsRoundedAt (rounding_place exponent (magnitude_place x)) x y → y
    ≡ 10 ^ magnitude_place y
carry_reaches exponent zero y carry r = let none : y ≡ 0 = rounded_zero (rounding_place exponent (magnitude_place 0)) y r in
    absurd (omega (arith, ap magnitude_place none))
carry_reaches exponent (suc k) y carry r =
    let within = rounded_within exponent (suc k) y (omega arith) r in
    let same : 10 ^ magnitude_place y ≡ 10 ^ (magnitude_place (suc k) + 1) = ap (λ n. 10 ^ n) carry in
    omega (arith, magnitude_place_low y (omega (arith, ten_pos (magnitude_place (suc k)))))

-- where the magnitude reached has another entry, it is the next one, and the size is the power of ten
pub changed_is_ten : (table : List TableEntry) (exponent x y : ℕ) → IsRoundedAt (rounding_place exponent (magnitude_place x)) x y →
    are_same_entry (entry_for table (magnitude_place y)) (entry_for table (magnitude_place x)) ≡ false → y ≡ 10 ^ magnitude_place y
changed_is_ten table exponent x y r changed = elim (magnitude_steps exponent x y r) [
  | inl stays ↦ absurd (let itself = same_entry-itself (entry_for table (magnitude_place x)) in let same = rw stays at changed in cc)
  | inr carry ↦ carry_reaches exponent x y carry r
]

-- what rounding reaches within the limits is below ten to the power 32768
pub magnitude_within : (u x y : ℕ) → IsRoundedAt u x y → ¬ (RoundsPast u x) → magnitude_place y < finest + 32768
magnitude_within u x y r within = elim (cases_lt (magnitude_place y) (finest + 32768)) [
  | inl below ↦ below
  | inr above ↦ elim (cases_eq y 0) [
    | inl none ↦ absurd (let least : magnitude_place y ≡ finest = ap magnitude_place none ∙ magnitude_place-zero in omega arith)
    | inr some ↦ absurd (within (y, r, omega (arith, magnitude_place_low y (omega arith), ten_mono (finest + 32768) (magnitude_place y) above)))
  ]
]

-- by the entry of the input's magnitude, where that is the one of the magnitude reached too, the rounded number is displayed
-- as the significand that the exponent leaves
pub decomposed_by_same : (table : List TableEntry) (d s : Unsigned) (y : ℕ) (by : Option TableEntry) → by ≡ entry_for table (magnitude_place (size d)) →
    by ≡ entry_for table (magnitude_place y) → IsRoundedAt (rounding_place_for table (magnitude_place (size d))) (size d) y
    → size s * 10 ^ exponent_of by ≡ y → IsUnsigned s → IsTrimmed s →
    high s ≡ int_max (pos 0) (int_max (high d) (magnitude y) -ℤ pos (exponent_of by)) → IsDecomposed table d y by s
decomposed_by_same table d s y by here is r scaled valid trimmed top = record {
  nearest = nearest_compact_from_rounded table (size d) y r;
  entry_is = is;
  scaled = scaled;
  is_decimal = valid;
  trimmed = trimmed;
  high_is = rw (← here, ← is, same_entry-itself by) top;
}

-- by another entry it is displayed as the power of ten that the exponent leaves
pub decomposed_by_other : (table : List TableEntry) (d s : Unsigned) (y power : ℕ) (by : Option TableEntry) → by ≡ entry_for table (magnitude_place y) →
    are_same_entry by (entry_for table (magnitude_place (size d))) ≡ false
    → IsRoundedAt (rounding_place_for table (magnitude_place (size d))) (size d) y → finest + power + exponent_of by ≡ magnitude_place y →
    size s ≡ 10 ^ (finest + power) → IsUnsigned s → IsTrimmed s → high s ≡ pos power → IsDecomposed table d y by s
decomposed_by_other table d s y power by is other r sum ten valid trimmed top =
    let changed : are_same_entry (entry_for table (magnitude_place y)) (entry_for table (magnitude_place (size d))) ≡ false = rw (← is) other in
    let reached : y ≡ 10 ^ magnitude_place y = changed_is_ten table (exponent_for table (magnitude_place (size d))) (size d) y r changed in
    record {
      nearest = nearest_compact_from_rounded table (size d) y r;
      entry_is = is;
      scaled = rw ten (sym (pow-add 10 (finest + power) (exponent_of by)) ∙ ap (λ n. 10 ^ n) sum ∙ sym reached);
      is_decimal = valid;
      trimmed = trimmed;
      high_is = rw (← is, other) (omega (arith, ints, clamps));
    }
