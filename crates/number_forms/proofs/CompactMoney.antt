-- What is written of a compact amount is what is computed, and an amount is past the limits where the computed number is.
use Rattle.std.proofs.Common.{◌≡◌, ℕ, Bool, true, false, List, Result, Ok, Err, refl, sym, ap, ap₂, ◌∙◌, arith, pos}
use Rattle.std.specs.Prelude.{IsOk, nat_le, if◌then◌else◌}
use Rattle.std.proofs.lemmas.Bool.{false≢true}
use Rattle.std.proofs.lemmas.Bool.Decides.{nat_tests}
use Rattle.fixed_decimal.specs.declared.signs.Sign.{Sign}
use Rattle.fixed_decimal.specs.Size.{size, ten_to}
use Rattle.fixed_decimal.specs.Unsigned.{Unsigned}
use Rattle.writeable.specs.Events.{Event}
use Rattle.icu_decimal_data.specs.CompactTable.{exponent_of}
use Rattle.icu_decimal.specs.CompactFormat.{CompactFormat, FilledNumber, FormattedCompact, IsCompacted, filled_by, significand_of}
use Rattle.icu_decimal.specs.CompactNumber.{ShowsPastLimits}
use Rattle.icu_decimal.specs.Decomposed.{decomposed_entry}
use Rattle.icu_decimal.specs.NearestLemmas.{nearest_compact_same}
use Rattle.icu_dimension.specs.CompactMoney.{CompactMoney, compact_events, formatter_of}
use Rattle.decimal_lines.specs.Computed.{nearest_number, significand_shown}
use Rattle.decimal_lines.specs.declared.single_text.TextError.{TextError}
use Rattle.decimal_lines.specs.declared.single_text.TextError.TheVariants.{Overflow}
use Rattle.decimal_lines.proofs.Displaying.{decomposed-told, number-nearest, past-number}
use Rattle.number_forms.specs.CompactMoney.{compact_money_events, compacted}

-- the compact number that `format` makes of d is the computed one
pub compacted-told : (format : CompactFormat) (d : Unsigned) (number : FormattedCompact) → IsCompacted format d number
    → compacted format d (nearest_number format.table (size d)) ≡ number
compacted-told format d number is =
    let near : is.shown ≡ nearest_number format.table (size d) =
    nearest_compact_same format.table (size d) (nearest_number format.table (size d)) is.shown (number-nearest format.table (size d)) is.decomposed.nearest in
    let filled : filled_by format (decomposed_entry format.table is.shown) (significand_shown format.table d is.shown) ≡ number.filled =
    ap (filled_by format (decomposed_entry format.table is.shown)) (decomposed-told format.table d is.shown is.entry (significand_of number) is.decomposed)
    ∙ ap (λ o. filled_by format o (significand_of number)) (sym is.decomposed.entry_is) ∙ sym is.filled_is in
    let exponent : exponent_of (decomposed_entry format.table is.shown) ≡ number.exponent =
    ap exponent_of (sym is.decomposed.entry_is) ∙ sym is.exponent_is in
    let made : FilledNumber → ℕ → FormattedCompact = λ f e. record { filled = f; exponent = e } in
    ap (compacted format d) (sym near) ∙ ap₂ made filled exponent

module _ (f : CompactMoney) (sign : Sign) (d : Unsigned) where
  -- an amount whose nearest compact number is past the limits
  pub compact_money-past : ShowsPastLimits (formatter_of f sign).table (size d) → compact_money_events f sign d ≡ Err Overflow
  unfolding compact_money_events
  compact_money-past past = go (nat_le (ten_to (pos 32768)) (nearest_number (formatter_of f sign).table (size d))) refl
    where
      go : (b : Bool) → nat_le (ten_to (pos 32768)) (nearest_number (formatter_of f sign).table (size d)) ≡ b
          → (if b then Err Overflow else Ok (compact_events (formatter_of f sign).table f.patterns sign
          (compacted (formatter_of f sign) d (nearest_number (formatter_of f sign).table (size d))))) ≡ Err Overflow
      go true e = refl
      go false e = let large = past-number (formatter_of f sign).table (size d) past in absurd (grind (arith, nat_tests))

  -- one whose nearest compact number is within them
  pub compact_money-within : (number : FormattedCompact) → IsCompacted (formatter_of f sign) d number
      → ¬ (ShowsPastLimits (formatter_of f sign).table (size d)) →
      compact_money_events f sign d ≡ Ok (compact_events (formatter_of f sign).table f.patterns sign number)
  unfolding compact_money_events
  compact_money-within number is within = go (nat_le (ten_to (pos 32768)) (nearest_number (formatter_of f sign).table (size d))) refl
    where
      go : (b : Bool) → nat_le (ten_to (pos 32768)) (nearest_number (formatter_of f sign).table (size d)) ≡ b
          → (if b then Err Overflow else Ok (compact_events (formatter_of f sign).table f.patterns sign
          (compacted (formatter_of f sign) d (nearest_number (formatter_of f sign).table (size d)))))
          ≡ Ok (compact_events (formatter_of f sign).table f.patterns sign number)
      go true e = absurd (within (
        nearest_number (formatter_of f sign).table (size d),
        number-nearest (formatter_of f sign).table (size d),
        grind (arith, nat_tests),
      ))
      go false e = ap (λ (n : FormattedCompact). Ok (compact_events (formatter_of f sign).table f.patterns sign n))
          (compacted-told (formatter_of f sign) d number is)

  -- something is shown of one within them
  pub compact_money-some : ¬ (ShowsPastLimits (formatter_of f sign).table (size d)) → IsOk (compact_money_events f sign d)
  unfolding compact_money_events
  compact_money-some within = go (nat_le (ten_to (pos 32768)) (nearest_number (formatter_of f sign).table (size d))) refl
    where
      go : (b : Bool) → nat_le (ten_to (pos 32768)) (nearest_number (formatter_of f sign).table (size d)) ≡ b
          → IsOk (if b then Err Overflow else Ok (compact_events (formatter_of f sign).table f.patterns sign
          (compacted (formatter_of f sign) d (nearest_number (formatter_of f sign).table (size d)))))
      go true e = absurd (within (
        nearest_number (formatter_of f sign).table (size d),
        number-nearest (formatter_of f sign).table (size d),
        grind (arith, nat_tests),
      ))
      go false e = refl

  -- and it is the text of the compact number, if something is shown
  pub compact_money-is : (number : FormattedCompact) → IsCompacted (formatter_of f sign) d number → IsOk (compact_money_events f sign d)
      → compact_money_events f sign d ≡ Ok (compact_events (formatter_of f sign).table f.patterns sign number)
  compact_money-is number is shown = compact_money-within number is (λ past. not_shown (compact_money_events f sign d) (compact_money-past past) shown)
    where
      not_shown : (shown : Result (List Event) TextError) → shown ≡ Err Overflow → IsOk shown → ⊥
      not_shown (Ok events) is shown = cc is
      not_shown (Err error) is shown = absurd (false≢true shown)
