-- What is computed of a decimal in compact form is what is displayed of it, and the only such text.
-- That it is displayed: `nearest_number` is rounded at the size's own magnitude (Computing), so by `nearest_compact_from_rounded` of
-- icu_decimal it is the nearest compact number. Ten to the entry's exponent divides it and leaves no digit below power -32768 (`exact`), and
-- the quotient fits in the digits that `decomposed_high` counts (`fits`), so Computing's `decimal_of` is its significand. The limits are
-- needed here alone: past them no decimal holds the quotient. That it is the only such text: nearest compact numbers are unique, the entry
-- is a function of the size, and a trimmed decimal is determined by its size and its count of integer digits (`trimmed_distinct` of icu_decimal).
use Rattle.std.proofs.Common.{
  ◌≡◌,
  ℕ,
  suc,
  zero,
  ◌+◌,
  ◌-◌,
  ◌*◌,
  ◌/◌,
  ◌%◌,
  ◌^◌,
  ◌<◌,
  ◌≤◌,
  ⊎_elim,
  inl,
  inr,
  List,
  refl,
  sym,
  ap,
  ◌∙◌,
  arith,
  Bool,
  true,
  false,
  Option,
  nat_lt,
  mul_assoc,
  ℤ,
  pos,
  negsuc,
  ◌+ℤ◌,
  ◌-ℤ◌,
  ◌≤ℤ◌,
}
use Rattle.std.specs.Prelude.{if◌then◌else◌, nat_le, codes}
use Rattle.std.proofs.lemmas.Bool.{cases_Bool, cases_lt}
use Rattle.std.proofs.lemmas.Bool.Decides.{nat_tests}
use Rattle.std.proofs.lemmas.Int.{ints, clamps}
use Rattle.std.proofs.lemmas.Nat.{pow-add}
use Rattle.std.proofs.Math.Nat.{mul-mod_left, mul-div_cancel, mul-le-mul_left}
use Rattle.fixed_decimal.specs.declared.signs.Sign.{Sign}
use Rattle.fixed_decimal.specs.Unsigned.{Unsigned, IsUnsigned, integer_count, high}
use Rattle.fixed_decimal.specs.Size.{finest, weighed, size, magnitude_place, magnitude, ten_to}
use Rattle.fixed_decimal.specs.Trimming.{IsTrimmed}
use Rattle.fixed_decimal.specs.Nearest.{IsMultiple}
use Rattle.fixed_decimal.proofs.Weights.{ten_pos, ten_mono, weighed_units}
use Rattle.fixed_decimal.proofs.Rounds.{finest_large}
use Rattle.fixed_decimal.proofs.Magnitudes.{size_lt}
use Rattle.fixed_decimal.proofs.MagnitudePlaces.{magnitude_place_high, ten_multiple}
use Rattle.writeable.specs.Events.{Event, text_of}
use Rattle.icu_decimal_data.specs.CompactTable.{TableEntry, IsCompactTable, entry_for, exponent_of, exponent_for}
use Rattle.icu_decimal.specs.CompactFormat.{CompactFormat, IsCompactFormat}
use Rattle.icu_decimal.specs.CompactNumber.{rounding_place, rounding_place_for, IsCompactNumber, IsNearestCompact, ShowsPastLimits}
use Rattle.icu_decimal.specs.Decomposed.{are_same_entry, decomposed_entry, decomposed_high, IsDecomposed}
use Rattle.icu_decimal.specs.RoundedAt.{IsRoundedAt}
use Rattle.icu_decimal.proofs.CompactCore.{exponent_le_magnitude, magnitude_within, past_limits_from_rounded}
use Rattle.icu_decimal.proofs.DecomposedOnce.{trimmed_distinct}
use Rattle.icu_decimal.specs.NearestLemmas.{itself_nearest, nearest_compact_from_rounded, nearest_compact_same}
use Rattle.decimal_lines.specs.Computed.{nearest_number, decimal_of, count_up_to, significand_shown}
use Rattle.decimal_lines.specs.Compact.{IsCompactResult, events_by, events_of_nearest, compact_text, compact_result}
use Rattle.decimal_lines.proofs.Computing.{rounded-nearest, decimal-unsigned, decimal-size, decimal-count, decimal-trimmed}

-- the computed number is the size rounded at the place of its own magnitude
number-rounded : (table : List TableEntry) (x : ℕ) → IsRoundedAt (rounding_place_for table (magnitude_place x)) x (nearest_number table x)
unfolding nearest_number
number-rounded table x = rounded-nearest (10 ^ rounding_place_for table (magnitude_place x)) x (ten_pos (rounding_place_for table (magnitude_place x)))

-- so it is the nearest compact number
pub number-nearest : (table : List TableEntry) (x : ℕ) → IsNearestCompact table x (nearest_number table x)
number-nearest table x = nearest_compact_from_rounded table x (nearest_number table x) (number-rounded table x)

-- and the only one
number-only : (table : List TableEntry) (x y : ℕ) → IsNearestCompact table x y → y ≡ nearest_number table x
number-only table x y n = nearest_compact_same table x (nearest_number table x) y (number-nearest table x) n

-- multiples of multiples
IsMultiple-trans : (a b x : ℕ) → IsMultiple a b → IsMultiple b x → IsMultiple a x
IsMultiple-trans a b x (j, e) (k, f) = (k * j, f ∙ ap (λ n. k * n) e ∙ sym (mul_assoc k j a))

-- no decimal writes a power below -32768
size-multiple : (d : Unsigned) → d.scale ≤ 32768 → IsMultiple (10 ^ (finest - 32768)) (size d)
size-multiple d h =
    IsMultiple-trans (10 ^ (finest - 32768)) (10 ^ (finest - d.scale)) (size d) (ten_multiple (finest - 32768) (finest - d.scale) (omega arith))
    (weighed 0 d.digits, weighed_units (finest - d.scale) d.digits)

-- and rounding adds none
rounded-multiple : (g p x y : ℕ) → IsMultiple (10 ^ g) x → IsRoundedAt p x y → IsMultiple (10 ^ g) y
rounded-multiple g p x y h r = elim (cases_lt p g) [
  | inl below ↦
      let same : y ≡ x = itself_nearest (IsMultiple (10 ^ p)) (10 ^ p) x y (IsMultiple-trans (10 ^ p) (10 ^ g) x (ten_multiple p g (omega arith)) h) r in
      rw same h
  | inr above ↦ IsMultiple-trans (10 ^ g) (10 ^ p) y (ten_multiple g p (omega arith)) r.allowed
]

-- a number is rounded at a place that its exponent reaches
place_above : (e m : ℕ) → e + finest ≤ m → finest - 32768 + e ≤ rounding_place e m
unfolding rounding_place
place_above e m h = go (nat_lt (e + finest) m)
  where
    go : (b : Bool) → finest - 32768 + e ≤ (if b then (e + finest) else (m - 1))
    go true = omega (arith, finest_large)
    go false = omega (arith, finest_large)

-- a compact number has no such power over the exponent of its entry either
compact-multiple : (table : List TableEntry) (y : ℕ) → IsCompactTable table → IsCompactNumber table y → IsMultiple (10 ^ (finest - 32768)) y →
    IsMultiple (10 ^ (finest - 32768 + exponent_for table (magnitude_place y))) y
compact-multiple table y t compact h = elim (exponent_le_magnitude table (magnitude_place y) t) [
  | inl none ↦
      let same : finest - 32768 + exponent_for table (magnitude_place y) ≡ finest - 32768 = omega arith in
      rw same h
  | inr above ↦
      IsMultiple-trans (10 ^ (finest - 32768 + exponent_for table (magnitude_place y))) (10 ^ rounding_place_for table (magnitude_place y)) y
      (ten_multiple (finest - 32768 + exponent_for table (magnitude_place y)) (rounding_place_for table (magnitude_place y))
      (place_above (exponent_for table (magnitude_place y)) (magnitude_place y) above)) compact
]

-- so the exponent leaves a whole number of units
quotient_of : (g e y : ℕ) → IsMultiple (10 ^ (g + e)) y → (y / 10 ^ e * 10 ^ e ≡ y) × (y / 10 ^ e % 10 ^ g ≡ 0)
quotient_of g e y (k, is) =
    let split : y ≡ k * 10 ^ g * 10 ^ e = is ∙ ap (λ n. k * n) (pow-add 10 g e) ∙ sym (mul_assoc k (10 ^ g) (10 ^ e)) in
    let left : y / 10 ^ e ≡ k * 10 ^ g = ap (λ n. n / 10 ^ e) split ∙ mul-div_cancel (k * 10 ^ g) (ten_pos e) in
    (ap (λ n. n * 10 ^ e) left ∙ sym split, ap (λ n. n % 10 ^ g) left ∙ mul-mod_left k (10 ^ g))

-- the greatest power that is written of a significand
high-least : (table : List TableEntry) (d : Unsigned) (y : ℕ) →
    (pos 0 ≤ℤ decomposed_high table d y) × ((magnitude y -ℤ pos (exponent_of (decomposed_entry table y))) ≤ℤ decomposed_high table d y)
high-least table d y =
    let e : ℕ = exponent_of (decomposed_entry table y) in
    ⊎_elim (λ same. rw same (omega (arith, ints, clamps), omega (arith, ints, clamps)))
    (λ other. rw other (omega (arith, ints, clamps), omega (arith, ints, clamps)))
    (cases_Bool (are_same_entry (decomposed_entry table y) (entry_for table (magnitude_place (size d)))))

-- it is at most 32767 where those of the decimal and of the displayed size are
high-most : (table : List TableEntry) (d : Unsigned) (y : ℕ) → high d ≤ℤ pos 32767 → magnitude y ≤ℤ pos 32767 →
    decomposed_high table d y ≤ℤ pos 32767
high-most table d y h m =
    ⊎_elim (λ same. rw same (omega (arith, ints, clamps))) (λ other. rw other (omega (arith, ints, clamps)))
    (cases_Bool (are_same_entry (decomposed_entry table y) (entry_for table (magnitude_place (size d)))))

-- the count of the powers from 0 up to one
count_is : (h : ℤ) → pos 0 ≤ℤ h → pos (count_up_to h) ≡ h +ℤ pos 1
count_is (pos n) p = omega (arith, ints)
count_is (negsuc n) p = absurd (omega (arith, ints))

-- that many integer digits go up to the power one below their count
count-high : (n : ℕ) → 0 < n → count_up_to (pos n -ℤ pos 1) ≡ n
count-high zero some = absurd (omega arith)
count-high (suc k) some =
    let one_less : pos (suc k) -ℤ pos 1 ≡ pos k = omega (arith, ints) in
    ap count_up_to one_less ∙ omega arith

-- a trimmed decimal is the one computed of its size
pub decimal-told : (u : Unsigned) → IsUnsigned u → IsTrimmed u → decimal_of (integer_count u) (size u) ≡ u
decimal-told u is trimmed =
    let c : ℕ = integer_count u in
    let some : 0 < integer_count u = omega (arith, is.integer_some) in
    let few : integer_count u ≤ 32768 = omega (arith, is.high_limit) in
    let whole : size u % 10 ^ (finest - 32768) ≡ 0 = multiple_rest (size-multiple u is.low_limit) in
    let below = size_lt u is in
    trimmed_distinct (decimal_of (integer_count u) (size u)) u (decimal-unsigned (integer_count u) (size u) some few whole below) is
    (decimal-trimmed (integer_count u) (size u) some few whole below) trimmed
    (decimal-size (integer_count u) (size u) some few whole below)
    (ap (λ n. pos n -ℤ pos 1) (decimal-count (integer_count u) (size u) some few whole below))
  where
    multiple_rest : IsMultiple (10 ^ (finest - 32768)) (size u) → size u % 10 ^ (finest - 32768) ≡ 0
    multiple_rest (k, e) = ap (λ n. n % 10 ^ (finest - 32768)) e ∙ mul-mod_left k (10 ^ (finest - 32768))

-- whatever is displayed, its significand is the computed one
pub decomposed-told : (table : List TableEntry) (d : Unsigned) (y : ℕ) (entry : Option TableEntry) (s : Unsigned) → IsDecomposed table d y entry s →
    significand_shown table d y ≡ s
unfolding significand_shown
decomposed-told table d y entry s h =
    let left : y / 10 ^ exponent_of (decomposed_entry table y) ≡ size s =
    ap (λ o. y / 10 ^ exponent_of o) (sym h.entry_is) ∙ ap (λ n. n / 10 ^ exponent_of entry) (sym h.scaled)
    ∙ mul-div_cancel (size s) (ten_pos (exponent_of entry)) in
    let some : 0 < integer_count s = omega (arith, h.is_decimal.integer_some) in
    let count : count_up_to (decomposed_high table d y) ≡ integer_count s = ap count_up_to (sym h.high_is) ∙ count-high (integer_count s) some in
    ap (λ n. decimal_of n (y / 10 ^ exponent_of (decomposed_entry table y))) count
    ∙ ap (λ n. decimal_of (integer_count s) n) left ∙ decimal-told s h.is_decimal h.trimmed

-- within the limits the computed significand is displayed
module _ (table : List TableEntry) (d : Unsigned) (is : IsUnsigned d) (t : IsCompactTable table) (within : ¬ (ShowsPastLimits table (size d))) where
  module _ (y : ℕ) (rounded : IsRoundedAt (rounding_place_for table (magnitude_place (size d))) (size d) y) where
    -- ten to the exponent divides the displayed size, and what it leaves has no digit below power -32768
    exact : (y / 10 ^ exponent_of (decomposed_entry table y) * 10 ^ exponent_of (decomposed_entry table y) ≡ y)
        × (y / 10 ^ exponent_of (decomposed_entry table y) % 10 ^ (finest - 32768) ≡ 0)
    exact =
        let near = nearest_compact_from_rounded table (size d) y rounded in
        let units = rounded-multiple (finest - 32768) (rounding_place_for table (magnitude_place (size d))) (size d) y (size-multiple d is.low_limit) rounded in
        quotient_of (finest - 32768) (exponent_of (decomposed_entry table y)) y (compact-multiple table y t near.allowed units)

    -- no power above 32767 is written
    top_most : decomposed_high table d y ≤ℤ pos 32767
    top_most =
        let low = magnitude_within (rounding_place_for table (magnitude_place (size d))) (size d) y rounded
        (λ past. within (past_limits_from_rounded table (size d) past)) in
        high-most table d y (omega (arith, ints, is.high_limit, is.integer_some)) (omega (arith, ints))

    -- a significand fits in digits that reach the displayed size
    fits : (s e count : ℕ) → s * 10 ^ e ≡ y → magnitude_place y + 1 ≤ finest + count + e → s < 10 ^ (finest + count)
    fits s e count scaled reach = elim (cases_lt s (10 ^ (finest + count))) [
      | inl below ↦ below
      | inr above ↦
          let more = mul-le-mul_left (10 ^ e) above in
          let joined = pow-add 10 (finest + count) e in
          let large : 10 ^ (finest + count + e) ≤ y = omega arith in
          let some : 0 < y = omega (arith, ten_pos (finest + count + e)) in
          absurd (omega (arith, magnitude_place_high y some, ten_mono (magnitude_place y + 1) (finest + count + e) reach))
    ]

    -- so the computed significand is displayed
    shown-decomposed : IsDecomposed table d y (decomposed_entry table y) (significand_shown table d y)
    unfolding significand_shown
    shown-decomposed =
        let e : ℕ = exponent_of (decomposed_entry table y) in
        let count : ℕ = count_up_to (decomposed_high table d y) in
        let s : ℕ = y / 10 ^ exponent_of (decomposed_entry table y) in
        let least = high-least table d y in
        let most = top_most in
        let counted = count_is (decomposed_high table d y) least.0 in
        let some : 0 < count_up_to (decomposed_high table d y) = omega (arith, ints, least.0) in
        let few : count_up_to (decomposed_high table d y) ≤ 32768 = omega (arith, ints) in
        let reach : magnitude_place y + 1 ≤ finest + count_up_to (decomposed_high table d y) + exponent_of (decomposed_entry table y) =
        omega (arith, ints, least.1) in
        let below = fits s e count exact.0 reach in
        record {
          nearest = nearest_compact_from_rounded table (size d) y rounded;
          entry_is = refl;
          scaled = ap (λ n. n * 10 ^ exponent_of (decomposed_entry table y)) (decimal-size count s some few exact.1 below) ∙ exact.0;
          is_decimal = decimal-unsigned count s some few exact.1 below;
          trimmed = decimal-trimmed count s some few exact.1 below;
          high_is = ap (λ n. pos n -ℤ pos 1) (decimal-count count s some few exact.1 below) ∙ omega (arith, ints);
        }

  -- that is what is displayed of the computed number
  pub number-decomposed : IsDecomposed table d (nearest_number table (size d)) (decomposed_entry table (nearest_number table (size d)))
      (significand_shown table d (nearest_number table (size d)))
  number-decomposed = shown-decomposed (nearest_number table (size d)) (number-rounded table (size d))

-- what is written of a decimal is what is computed
pub events-told : (format : CompactFormat) (sign : Sign) (d s : Unsigned) (exponent : ℕ) (events : List Event) →
    IsCompactFormat format sign d s exponent events → events_of_nearest format sign d (nearest_number format.table (size d)) ≡ events
events-told format sign d s exponent events w =
    let near = number-only format.table (size d) w.shown w.decomposed.nearest in
    ap (events_of_nearest format sign d) (sym near)
    ∙ ap (events_by format sign (decomposed_entry format.table w.shown)) (decomposed-told format.table d w.shown w.entry s w.decomposed)
    ∙ ap (λ o. events_by format sign o s) (sym w.decomposed.entry_is) ∙ sym w.events_are

-- so its text is the computed one
compact_text-told : (format : CompactFormat) (sign : Sign) (d s : Unsigned) (exponent : ℕ) (events : List Event) →
    IsCompactFormat format sign d s exponent events → compact_text format sign d ≡ text_of events
unfolding compact_text
compact_text-told format sign d s exponent events w = ap text_of (events-told format sign d s exponent events w)

-- where the nearest compact number is past the limits, the computed one is
pub past-number : (table : List TableEntry) (x : ℕ) → ShowsPastLimits table x → ten_to (pos 32768) ≤ nearest_number table x
past-number table x (y, near, large) = rw (number-only table x y near) at large

module _ (format : CompactFormat) (sign : Sign) (d : Unsigned) where
  -- the answer where it is within them
  result-within : ¬ (ShowsPastLimits format.table (size d)) → compact_result format sign d ≡ compact_text format sign d
  unfolding compact_result
  result-within within = go (nat_le (ten_to (pos 32768)) (nearest_number format.table (size d))) refl
    where
      go : (b : Bool) → nat_le (ten_to (pos 32768)) (nearest_number format.table (size d)) ≡ b →
          (if b then codes "error: overflow" else compact_text format sign d) ≡ compact_text format sign d
      go true e = absurd (within (nearest_number format.table (size d), number-nearest format.table (size d), grind (arith, nat_tests)))
      go false e = refl

  -- the answer where the nearest compact number is past the limits
  pub result-past : ShowsPastLimits format.table (size d) → compact_result format sign d ≡ codes "error: overflow"
  unfolding compact_result
  result-past past = go (nat_le (ten_to (pos 32768)) (nearest_number format.table (size d))) refl
    where
      go : (b : Bool) → nat_le (ten_to (pos 32768)) (nearest_number format.table (size d)) ≡ b →
          (if b then codes "error: overflow" else compact_text format sign d) ≡ codes "error: overflow"
      go true e = refl
      go false e = let large = past-number format.table (size d) past in absurd (grind (arith, nat_tests))

  -- what is written within the limits is the answer
  pub result-written : (s : Unsigned) (exponent : ℕ) (events : List Event) → IsCompactFormat format sign d s exponent events →
      ¬ (ShowsPastLimits format.table (size d)) → compact_result format sign d ≡ text_of events
  result-written s exponent events w within = result-within within ∙ compact_text-told format sign d s exponent events w

  -- the computed compact answer is the only one
  pub compact-only : (result : List ℕ) → IsCompactResult format sign d result → result ≡ compact_result format sign d
  compact-only result (inl is) = is.spelled ∙ sym (result-written is.significand is.exponent is.events is.written is.within)
  compact-only result (inr (past, e)) = e ∙ sym (result-past past)

  -- and it is one
  pub compact-is : IsUnsigned d → IsCompactTable format.table → IsCompactResult format sign d (compact_result format sign d)
  compact-is is t = go (nat_le (ten_to (pos 32768)) (nearest_number format.table (size d))) refl
    where
      y_is : ℕ
      y_is = nearest_number format.table (size d)

      go : (b : Bool) → nat_le (ten_to (pos 32768)) (nearest_number format.table (size d)) ≡ b →
          IsCompactResult format sign d (compact_result format sign d)
      go true e =
          let past : ShowsPastLimits format.table (size d) =
          (nearest_number format.table (size d), number-nearest format.table (size d), grind (arith, nat_tests)) in
          inr (past, result-past past)
      go false e =
          let within : ¬ (ShowsPastLimits format.table (size d)) = λ past. let large = past-number format.table (size d) past in
          absurd (grind (arith, nat_tests)) in
          let w : IsCompactFormat format sign d (significand_shown format.table d y_is) (exponent_of (decomposed_entry format.table y_is)) _ = record {
            shown = y_is;
            entry = decomposed_entry format.table y_is;
            decomposed = number-decomposed format.table d is t within;
            exponent_is = refl;
            events_are = refl;
          } in
          inl (record {
            significand = significand_shown format.table d y_is;
            exponent = exponent_of (decomposed_entry format.table y_is);
            events = _;
            written = w;
            within = within;
            spelled = result-written _ _ _ w within;
          })
