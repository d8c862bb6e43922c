-- The exponent with which a number is shown is that of the magnitude of its significand and the exponent together.
use Rattle.std.proofs.Common.{◌≡◌, ℕ, ◌+◌, ◌*◌, ◌^◌, ◌≤◌, ◌⊎◌, inl, inr}
use Rattle.std.proofs.Common.{List, Option, sym, ap, ◌∙◌, arith, pos, ◌+ℤ◌, ◌-ℤ◌}
use Rattle.std.proofs.lemmas.Bool.{cases_eq}
use Rattle.std.proofs.lemmas.Int.{ints}
use Rattle.fixed_decimal.specs.Size.{finest, magnitude_place, place, size}
use Rattle.fixed_decimal.specs.Unsigned.{Unsigned}
use Rattle.fixed_decimal.proofs.MagnitudePlaces.{magnitude_place-zero, magnitude_place_times}
use Rattle.icu_decimal_data.specs.CompactTable.{IsCompactTable, TableEntry, entry_for, exponent_of}
use Rattle.icu_decimal.specs.CompactFormat.{CompactFormat, exponent_needed, magnitude_with}
use Rattle.icu_decimal.proofs.CompactCore.{exponent_le_magnitude}
use Rattle.icu_decimal.proofs.PowerPlaces.{place_is}

-- the magnitude of a significand and an exponent together
together : (m e : ℕ) → place ((pos m -ℤ pos finest) +ℤ pos e) ≡ m + e
together m e = place_is ((pos m -ℤ pos finest) +ℤ pos e) (m + e) (omega (arith, ints))

-- the place of that magnitude is the one that the displayed size has
pub decomposed_place : (table : List TableEntry) (s : Unsigned) (y : ℕ) (entry : Option TableEntry) → IsCompactTable table →
    entry ≡ entry_for table (magnitude_place y) → size s * 10 ^ exponent_of entry ≡ y →
    place (magnitude_with s (exponent_of entry)) ≡ magnitude_place y
decomposed_place table s y entry t is scaled = together (magnitude_place (size s)) (exponent_of entry) ∙ go (cases_eq (size s) 0)
  where
    go : (size s ≡ 0) ⊎ (¬ (size s ≡ 0)) → magnitude_place (size s) + exponent_of entry ≡ magnitude_place y
    go (inr some) = sym (magnitude_place_times (size s) (exponent_of entry) (omega arith)) ∙ ap magnitude_place scaled
    go (inl nothing) =
        let none : y ≡ 0 = sym scaled ∙ rw nothing (omega arith) in
        let least : magnitude_place y ≡ finest = ap magnitude_place none ∙ magnitude_place-zero in
        let here : entry ≡ entry_for table finest = is ∙ ap (entry_for table) least in
        let zero_exponent : exponent_of entry ≡ 0 = no_exponent (exponent_le_magnitude table finest t) (ap exponent_of here) in
        let same : magnitude_place (size s) ≡ finest = ap magnitude_place nothing ∙ magnitude_place-zero in
        omega arith
      where
        no_exponent : (exponent_of (entry_for table finest) ≡ 0) ⊎ (exponent_of (entry_for table finest) + finest ≤ finest) →
            exponent_of entry ≡ exponent_of (entry_for table finest) → exponent_of entry ≡ 0
        no_exponent (inl e) f = f ∙ e
        no_exponent (inr h) f = omega arith

-- so `format_with_exponent` accepts it
pub exponent-accepted : (format : CompactFormat) (u : Unsigned) (y : ℕ) (entry : Option TableEntry) → IsCompactTable format.table
    → entry ≡ entry_for format.table (magnitude_place y) → size u * 10 ^ exponent_of entry ≡ y
    → exponent_of entry ≡ exponent_needed format u (exponent_of entry)
exponent-accepted format u y entry t is scaled =
    ap exponent_of is ∙ ap (λ m. exponent_of (entry_for format.table m)) (sym (decomposed_place format.table u y entry t is scaled))
