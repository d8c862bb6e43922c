-- What is shown of one text, by what it reads as, and of a decimal in compact form, by what is written of it.
use Rattle.std.proofs.Common.{◌≡◌, ℕ, Bool, true, false, List, Option, Some, None, refl, sym, ap, ◌∙◌, arith}
use Rattle.std.specs.Prelude.{Ok, Err, nat_le, if◌then◌else◌, pos}
use Rattle.std.proofs.lemmas.Bool.{false≢true}
use Rattle.std.proofs.lemmas.Bool.Decides.{nat_tests}
use Rattle.fixed_decimal.specs.declared.signs.Sign.{Sign}
use Rattle.fixed_decimal.specs.Reading.{reading}
use Rattle.fixed_decimal.specs.Size.{size, ten_to}
use Rattle.fixed_decimal.specs.Text.{Reads, ReadsNothing, ReadsPastLimits}
use Rattle.fixed_decimal.specs.Unsigned.{Unsigned}
use Rattle.fixed_decimal.proofs.Readings.{reading-reads, reading-nothing}
use Rattle.writeable.specs.Events.{Event}
use Rattle.icu_decimal.specs.CompactFormat.{CompactFormat, IsCompactFormat}
use Rattle.icu_decimal.specs.CompactNumber.{ShowsPastLimits}
use Rattle.decimal_lines.specs.SingleText.{compact_events, decimal_read, within_or}
use Rattle.decimal_lines.specs.LineResults.{is_within_limits}
use Rattle.decimal_lines.specs.Compact.{events_of_nearest}
use Rattle.decimal_lines.specs.Computed.{nearest_number}
use Rattle.decimal_lines.specs.declared.single_text.TextError.TheVariants.{NotDecimal, TooManyDigits, Overflow}
use Rattle.decimal_lines.proofs.Answering.{is_within-limits, limits-is_within}
use Rattle.decimal_lines.proofs.Displaying.{events-told, number-nearest, past-number}

abbrev pair : Sign → Unsigned → Sign × Unsigned
pair s d = (s, d)

module _ (text : List ℕ) where
  by_reading : (o : Option (Sign × Unsigned)) → reading text ≡ o → decimal_read text ≡ within_or o
  unfolding decimal_read
  by_reading o e = ap within_or e

  -- a text that spells no decimal
  pub decimal_read-nothing : ReadsNothing text → decimal_read text ≡ Err NotDecimal
  decimal_read-nothing none = by_reading None (reading-nothing text none)

  -- one that needs a power of ten past the limits
  pub decimal_read-past : ReadsPastLimits text → decimal_read text ≡ Err TooManyDigits
  decimal_read-past (s, d, r, past) = by_reading (Some (s, d)) (reading-reads text s d r) ∙ go (is_within_limits d) refl
    where
      go : (b : Bool) → is_within_limits d ≡ b → (if b then Ok (pair s d) else Err TooManyDigits) ≡ Err TooManyDigits
      go true e = absurd (past (limits-is_within d e))
      go false e = refl

  -- and a decimal that isn't past the limits
  pub decimal_read-decimal : (s : Sign) (d : Unsigned) → Reads text s d → ¬ (ReadsPastLimits text) → decimal_read text ≡ Ok (s, d)
  decimal_read-decimal s d r not_past = by_reading (Some (s, d)) (reading-reads text s d r) ∙ go (is_within_limits d) refl
    where
      go : (b : Bool) → is_within_limits d ≡ b → (if b then Ok (pair s d) else Err TooManyDigits) ≡ Ok (s, d)
      go true e = refl
      go false e = absurd (not_past (s, d, r, λ w. absurd (false≢true (sym e ∙ is_within-limits d w))))

module _ (format : CompactFormat) (sign : Sign) (d : Unsigned) where
  -- a decimal whose nearest compact number is past the limits
  pub compact_events-past : ShowsPastLimits format.table (size d) → compact_events format sign d ≡ Err Overflow
  unfolding compact_events
  compact_events-past past = go (nat_le (ten_to (pos 32768)) (nearest_number format.table (size d))) refl
    where
      go : (b : Bool) → nat_le (ten_to (pos 32768)) (nearest_number format.table (size d)) ≡ b →
          (if b then Err Overflow else Ok (events_of_nearest format sign d (nearest_number format.table (size d)))) ≡ Err Overflow
      go true e = refl
      go false e = let large = past-number format.table (size d) past in absurd (grind (arith, nat_tests))

  -- within the limits
  pub compact_events-written : (s : Unsigned) (exponent : ℕ) (events : List Event) → IsCompactFormat format sign d s exponent events →
      ¬ (ShowsPastLimits format.table (size d)) → compact_events format sign d ≡ Ok events
  unfolding compact_events
  compact_events-written s exponent events w within = go (nat_le (ten_to (pos 32768)) (nearest_number format.table (size d))) refl
    where
      go : (b : Bool) → nat_le (ten_to (pos 32768)) (nearest_number format.table (size d)) ≡ b →
          (if b then Err Overflow else Ok (events_of_nearest format sign d (nearest_number format.table (size d)))) ≡ Ok events
      go true e = absurd (within (nearest_number format.table (size d), number-nearest format.table (size d), grind (arith, nat_tests)))
      go false e = ap Ok (events-told format sign d s exponent events w)
