-- What is said of a compact number besides its text and its magnitude.
use Rattle.std.proofs.Common.{◌≡◌, ℕ, Bool, true, false, List, [], ◌++◌, refl, sym, ap, ◌∙◌, append_assoc, arith, pos}
use Rattle.std.specs.Prelude.{is_some, nat_le, if◌then◌else◌}
use Rattle.std.proofs.lemmas.Bool.Decides.{nat_tests}
use Rattle.fixed_decimal.specs.Size.{place, size, ten_to}
use Rattle.fixed_decimal.specs.Unsigned.{Unsigned, IsUnsigned}
use Rattle.icu_decimal_data.specs.CompactTable.{IsCompactTable}
use Rattle.icu_decimal.specs.CompactFormat.{CompactFormat, FormattedCompact, IsCompacted, magnitude_with, significand_of}
use Rattle.icu_decimal.specs.CompactNumber.{ShowsPastLimits}
use Rattle.decimal_lines.specs.Computed.{nearest_number}
use Rattle.decimal_lines.proofs.Displaying.{number-nearest, past-number}
use Rattle.icu_dimension.specs.CompactMoney.{CompactMoney, entry_shown, formatter_of}
use Rattle.fixed_decimal.specs.declared.signs.Sign.{Sign}
use Rattle.number_forms.proofs.CompactMoney.{compacted-told}
use Rattle.locnum_explain.specs.Compact.{compact_facts, decomposed_lines, entry_lines, frame_for, frame_line, has_entry, is_past, showable_line}
use Rattle.locnum_explain.proofs.Entries.{decomposed-given}

module _ (format : CompactFormat) (d : Unsigned) where
  -- nothing is said where the nearest compact number is past the limits
  pub facts-past : ShowsPastLimits format.table (size d) → compact_facts format d ≡ []
  unfolding compact_facts
  facts-past past = go (nat_le (ten_to (pos 32768)) (nearest_number format.table (size d))) refl
    where
      go : (b : Bool) → nat_le (ten_to (pos 32768)) (nearest_number format.table (size d)) ≡ b
          → (if b then [] else showable_line format.table d ++ decomposed_lines format d (nearest_number format.table (size d))) ≡ []
      go true e = refl
      go false e = let large = past-number format.table (size d) past in absurd (grind (arith, nat_tests))

  -- the values around it and what it is displayed by where that is within them
  facts-within : ¬ (ShowsPastLimits format.table (size d))
      → compact_facts format d ≡ showable_line format.table d ++ decomposed_lines format d (nearest_number format.table (size d))
  unfolding compact_facts
  facts-within within = go (nat_le (ten_to (pos 32768)) (nearest_number format.table (size d))) refl
    where
      go : (b : Bool) → nat_le (ten_to (pos 32768)) (nearest_number format.table (size d)) ≡ b
          → (if b then [] else showable_line format.table d ++ decomposed_lines format d (nearest_number format.table (size d)))
          ≡ showable_line format.table d ++ decomposed_lines format d (nearest_number format.table (size d))
      go true e = absurd (within (nearest_number format.table (size d), number-nearest format.table (size d), grind (arith, nat_tests)))
      go false e = refl

  -- these lines, one behind the other
  pub facts-appended : (value number : FormattedCompact) (old first second : List ℕ) → value ≡ number → IsCompacted format d number
      → IsCompactTable format.table → IsUnsigned d → ¬ (ShowsPastLimits format.table (size d)) → first ≡ old ++ showable_line format.table d
      → second ≡ first ++ entry_lines format (place (magnitude_with (significand_of value) value.exponent)) (significand_of value)
      → second ≡ old ++ compact_facts format d
  facts-appended value number old first second same compacted table valid within a b =
      let lines : List ℕ = decomposed_lines format d (nearest_number format.table (size d)) in
      b ∙ ap (λ (v : FormattedCompact). first ++ entry_lines format (place (magnitude_with (significand_of v) v.exponent)) (significand_of v)) same
      ∙ ap (λ (xs : List ℕ). first ++ xs) (decomposed-given format d number compacted table valid within)
      ∙ ap (λ (xs : List ℕ). xs ++ lines) a ∙ regroup old (showable_line format.table d) lines
      ∙ ap (λ (xs : List ℕ). old ++ xs) (sym (facts-within within))
    where
      regroup : (a b c : List ℕ) → (a ++ b) ++ c ≡ a ++ (b ++ c)
      regroup a b c = simp append_assoc

module _ (f : CompactMoney) (sign : Sign) (d : Unsigned) where
  -- no pattern is shown where the nearest compact number is past the limits
  pub frame-past : ShowsPastLimits (formatter_of f sign).table (size d) → frame_line f sign d ≡ []
  unfolding frame_line
  frame-past past = go (is_past (formatter_of f sign).table d) refl
    where
      go : (b : Bool) → is_past (formatter_of f sign).table d ≡ b
          → (if b then [] else frame_for f.patterns sign (has_entry (formatter_of f sign) d)) ≡ []
      go true e = refl
      go false e = let large = past-number (formatter_of f sign).table (size d) past in absurd (grind (arith, nat_tests))

  -- that by whether an entry displays the number where it is within them
  pub frame-within : (number : FormattedCompact) → IsCompacted (formatter_of f sign) d number
      → ¬ (ShowsPastLimits (formatter_of f sign).table (size d)) →
      frame_line f sign d ≡ frame_for f.patterns sign (is_some (entry_shown (formatter_of f sign).table number))
  unfolding frame_line
  frame-within number is within = go (is_past (formatter_of f sign).table d) refl
    where
      go : (b : Bool) → is_past (formatter_of f sign).table d ≡ b
          → (if b then [] else frame_for f.patterns sign (has_entry (formatter_of f sign) d))
          ≡ frame_for f.patterns sign (is_some (entry_shown (formatter_of f sign).table number))
      go true e = absurd (within (
        nearest_number (formatter_of f sign).table (size d),
        number-nearest (formatter_of f sign).table (size d),
        grind (arith, nat_tests),
      ))
      go false e = ap (λ (n : FormattedCompact). frame_for f.patterns sign (is_some (entry_shown (formatter_of f sign).table n)))
          (compacted-told (formatter_of f sign) d number is)
