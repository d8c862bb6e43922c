-- What is displayed of a decimal, by the clauses of the steps.
use Rattle.std.proofs.Common.{◌≡◌, ◌≢◌, ℕ, ◌+◌, ◌*◌, ◌^◌, ◌≤◌, ◌⊎◌, inl, inr, arith, sym, ap, subst, ◌∙◌, List}
use Rattle.std.proofs.Common.{Option, Ok, false, ℤ, pos, negsuc, ◌+ℤ◌, ◌-ℤ◌, ◌≤ℤ◌}
use Rattle.std.specs.Prelude.{IsErrOf}
use Rattle.std.specs.Int.{int_max}
use Rattle.std.proofs.lemmas.Bool.{cases_eq}
use Rattle.std.proofs.lemmas.Int.{ints}
use Rattle.fixed_decimal.specs.Size.{finest, magnitude_place, magnitude, place, size, ten_to}
use Rattle.fixed_decimal.specs.Trimming.{IsTrimmed}
use Rattle.fixed_decimal.specs.Unsigned.{IsUnsigned, Unsigned, high}
use Rattle.fixed_decimal.proofs.MagnitudePlaces.{magnitude_place-zero, magnitude_place_times}
use Rattle.fixed_decimal.proofs.Magnitudes.{place-magnitude}
use Rattle.icu_decimal_data.specs.CompactTable.{TableEntry, IsCompactTable, entry_for, exponent_of, exponent_for}
use Rattle.icu_decimal.specs.declared.error.FormatError.{FormatError}
use Rattle.icu_decimal.specs.CompactNumber.{rounding_place, rounding_place_for, ShowsPastLimits}
use Rattle.icu_decimal.specs.RoundedAt.{IsRoundedAt, RoundsPast}
use Rattle.icu_decimal.specs.Decomposed.{are_same_entry, IsDecomposed}
use Rattle.icu_decimal.proofs.ChangedEntries.{changed_entry_reached}
use Rattle.icu_decimal.proofs.CompactCore.{magnitude_rounded, magnitude_within, rounded_from_past_limits, past_limits_from_rounded, exponent_le_magnitude}
use Rattle.icu_decimal.proofs.CompactCore.{decomposed_by_same, decomposed_by_other}

-- an answer is no error
pub not_refused : {T : Type 0} {x : T} {e : FormatError} → IsErrOf {T = T} {E = FormatError} (Ok x) e → ⊥
not_refused refused = absurd (cc)

-- this is the power of a decimal's magnitude, the entry of that magnitude in a table, and the exponent of the entry
pub record IsEntryHere (table : List TableEntry) (d : Unsigned) (e : ℕ) (power : ℤ) (o : Option TableEntry) : Type 0 where
  pub top : power ≡ magnitude (size d)
  pub is : o ≡ entry_for table (place power)
  pub exponent : e ≡ exponent_of o

-- the code looks the entry up by the same power in a wider type
pub entry_is_here : (table : List TableEntry) (d : Unsigned) (e : ℕ) (power wide : ℤ) (o : Option TableEntry) → power ≡ magnitude (size d) →
    wide ≡ power → o ≡ entry_for table (place wide) → e ≡ exponent_of o → IsEntryHere table d e power o
entry_is_here table d e power wide o top widened is exponent = record {
  top = top;
  is = is ∙ ap (λ p. entry_for table (place p)) widened;
  exponent = exponent;
}

module _ {table : List TableEntry} {d : Unsigned} {e : ℕ} {power : ℤ} {o : Option TableEntry} (here : IsEntryHere table d e power o) where
  entry_here : o ≡ entry_for table (magnitude_place (size d))
  entry_here = here.is ∙ ap (entry_for table) (ap place here.top ∙ place-magnitude (size d))

  exponent_here : e ≡ exponent_of (entry_for table (magnitude_place (size d)))
  exponent_here = here.exponent ∙ ap exponent_of entry_here

  -- so the decimal is rounded at the place of its own magnitude in the table
  rounding_place_here : rounding_place e (magnitude_place (size d)) ≡ rounding_place_for table (magnitude_place (size d))
  rounding_place_here = ap (λ n. rounding_place n (magnitude_place (size d))) exponent_here

  -- the exponent is 0, or at most the power of the magnitude
  pub exponent_within : IsCompactTable table → (p : ℤ) → p ≡ power → (e ≡ 0) ⊎ (pos e ≤ℤ p)
  exponent_within t p same = go (exponent_le_magnitude table (magnitude_place (size d)) t) exponent_here here.top
    where
      go : (exponent_of (entry_for table (magnitude_place (size d))) ≡ 0)
          ⊎ (exponent_of (entry_for table (magnitude_place (size d))) + finest ≤ magnitude_place (size d)) →
          e ≡ exponent_of (entry_for table (magnitude_place (size d))) → power ≡ magnitude (size d) → (e ≡ 0) ⊎ (pos e ≤ℤ p)
      go (inl none) f top = inl (f ∙ none)
      go (inr reached) f top = inr (omega (arith, ints))

  -- where rounding passes the limits, the nearest compact number does
  pub overflows : RoundsPast (rounding_place e (magnitude_place (size d))) (size d) → ShowsPastLimits table (size d)
  overflows past = past_limits_from_rounded table (size d) (subst (λ u. RoundsPast u (size d)) rounding_place_here past)

  -- and where that number passes them, rounding does
  pub rounds_past : ShowsPastLimits table (size d) → RoundsPast (rounding_place e (magnitude_place (size d))) (size d)
  rounds_past past = subst (λ u. RoundsPast u (size d)) (sym rounding_place_here) (rounded_from_past_limits table (size d) past)

  -- where the significand of the rounded number reaches
  pub scaled_magnitude : (s : Unsigned) (t to : ℤ) → IsRoundedAt (rounding_place e (magnitude_place (size d))) (size d) (size s * 10 ^ e) →
      t ≡ magnitude (size s) → to ≡ t +ℤ pos e → (e ≡ 0) ⊎ (pos e ≤ℤ power) → to ≡ magnitude (size s * 10 ^ e)
  scaled_magnitude s t to near start sum taken = go (cases_eq (size s) 0) taken here.top
    where
      go : (size s ≡ 0) ⊎ (size s ≢ 0) → (e ≡ 0) ⊎ (pos e ≤ℤ power) → power ≡ magnitude (size d) → to ≡ magnitude (size s * 10 ^ e)
      go z (inl none) top =
          let same : size s * 10 ^ e ≡ size s = rw none (omega arith) in
          rw same (omega (arith, ints))
      go (inl zero) (inr reached) top =
          let nothing : size s * 10 ^ e ≡ 0 = rw zero (omega arith) in
          let low : magnitude_place (size d) ≤ finest = rw (nothing, magnitude_place-zero) at (magnitude_rounded e (size d) (size s * 10 ^ e) near) in
          let none : e ≡ 0 = omega (arith, ints) in
          let same : size s * 10 ^ e ≡ size s = rw none (omega arith) in
          rw same (omega (arith, ints))
      go (inr some) (inr reached) top = omega (arith, ints, magnitude_place_times (size s) e (omega arith))

  module _ (y : ℕ) (r : IsRoundedAt (rounding_place e (magnitude_place (size d))) (size d) y) where
    rounded : IsRoundedAt (rounding_place_for table (magnitude_place (size d))) (size d) y
    rounded = subst (λ u. IsRoundedAt u (size d) y) rounding_place_here r

    module _ (to : ℤ) (there : Option TableEntry) (reached : to ≡ magnitude y) (there_is : there ≡ entry_for table (place to)) where
      entry_reached : there ≡ entry_for table (magnitude_place y)
      entry_reached = there_is ∙ ap (entry_for table) (ap place reached ∙ place-magnitude y)

      -- where the magnitude reached has the same entry, that one and what its exponent leaves of the rounded number
      pub decomposed_same : there ≡ o → (s : Unsigned) → size s * 10 ^ e ≡ y → IsUnsigned s → IsTrimmed s →
          high s ≡ int_max (pos 0) (int_max (high d) (magnitude y) -ℤ pos e) → IsDecomposed table d y o s
      decomposed_same same s scaled valid trimmed high_is =
          decomposed_by_same table d s y o entry_here (sym same ∙ entry_reached) rounded
          (ap (λ n. size s * 10 ^ n) (sym here.exponent) ∙ scaled) valid trimmed
          (high_is ∙ ap (λ n. int_max (pos 0) (int_max (high d) (magnitude y) -ℤ pos n)) here.exponent)

      module _ (t : IsCompactTable table) (different : are_same_entry there o ≡ false) where
        different_here : are_same_entry (entry_for table (magnitude_place y)) (entry_for table (magnitude_place (size d))) ≡ false
        different_here = rw (← entry_reached, ← entry_here) different

        -- the other entry's exponent is at most the power of the magnitude reached
        pub other_within : (n : ℕ) → n ≡ exponent_of there → pos n ≤ℤ to
        other_within n is =
            let least : finest ≤ magnitude_place y = changed_entry_reached table (magnitude_place (size d)) (magnitude_place y)
            (magnitude_rounded (exponent_for table (magnitude_place (size d))) (size d) y rounded) different_here in
            let same : n ≡ exponent_of (entry_for table (magnitude_place y)) = is ∙ ap exponent_of entry_reached in
            go (exponent_le_magnitude table (magnitude_place y) t) same least
          where
            go : (exponent_of (entry_for table (magnitude_place y)) ≡ 0)
                ⊎ (exponent_of (entry_for table (magnitude_place y)) + finest ≤ magnitude_place y) →
                n ≡ exponent_of (entry_for table (magnitude_place y)) → finest ≤ magnitude_place y → pos n ≤ℤ to
            go (inl none) same least = omega (arith, ints)
            go (inr above) same least = omega (arith, ints)

        -- another entry displays the power of ten that its exponent leaves
        pub decomposed_other : (s : Unsigned) (n : ℕ) (k : ℤ) → n ≡ exponent_of there → k ≡ to -ℤ pos n → size s ≡ ten_to k →
            IsUnsigned s → IsTrimmed s → high s ≡ k → IsDecomposed table d y there s
        decomposed_other s n (negsuc k) is sum ten valid trimmed top = absurd (omega (arith, ints, other_within n is))
        decomposed_other s n (pos k) is sum ten valid trimmed top =
            decomposed_by_other table d s y k there entry_reached (rw (← entry_here) different) rounded (omega (arith, ints)) ten valid trimmed top

    -- within the limits the power of the magnitude reached is at most 32767
    pub reached_within : ¬ (RoundsPast (rounding_place e (magnitude_place (size d))) (size d)) → (to : ℤ) → to ≡ magnitude y → to ≤ℤ pos 32767
    reached_within within to reached = omega (arith, ints, magnitude_within (rounding_place e (magnitude_place (size d))) (size d) y r within)
