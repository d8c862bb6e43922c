-- What is written of two decimals shows one size where significands and exponents are the same, and only there.
use Rattle.std.proofs.Common.{◌≡◌, ℕ, ◌*◌, ◌^◌, List, sym, ap, ap₂, subst, ◌∙◌}
use Rattle.fixed_decimal.specs.declared.signs.Sign.{Sign}
use Rattle.fixed_decimal.specs.Size.{size}
use Rattle.fixed_decimal.specs.Unsigned.{Unsigned}
use Rattle.writeable.specs.Events.{Event}
use Rattle.icu_decimal.specs.CompactFormat.{CompactFormat, IsCompactFormat}
use Rattle.icu_decimal.specs.CompactLaws.{OneCompactNumberIsNearest}
use Rattle.icu_decimal.specs.CompactNumber.{IsNearestCompact}
use Rattle.test_callers.specs.OneSize.{ShowOneSize}

-- a significand times ten to its exponent is what is shown
scaled : (f : CompactFormat) (s : Sign) (c x : Unsigned) (m : ℕ) (es : List Event) (h : IsCompactFormat f s c x m es) → size x * 10 ^ m ≡ h.shown
scaled f s c x m es h = ap (λ e. size x * 10 ^ e) h.exponent_is ∙ h.decomposed.scaled

-- one shown size is the nearest of both
pub of_shown : (f : CompactFormat) (s t : Sign) (c d x y : Unsigned) (m n : ℕ) (es fs : List Event)
    → (first : IsCompactFormat f s c x m es) (second : IsCompactFormat f t d y n fs) → first.shown ≡ second.shown → ShowOneSize f (size c) (size d)
of_shown f s t c d x y m n es fs first second same = record {
  shown = first.shown;
  of_one = first.decomposed.nearest;
  of_other = subst (λ (z : ℕ). IsNearestCompact f.table (size d) z) (sym same) second.decomposed.nearest;
}

-- so where significands and exponents are the same, one size is nearest to both
pub of_same : (f : CompactFormat) (s t : Sign) (c d x y : Unsigned) (m n : ℕ) (es fs : List Event)
    → IsCompactFormat f s c x m es → IsCompactFormat f t d y n fs → x ≡ y → m ≡ n → ShowOneSize f (size c) (size d)
of_same f s t c d x y m n es fs first second significands exponents =
    of_shown f s t c d x y m n es fs first second
    (sym (scaled f s c x m es first) ∙ ap₂ (λ u e. size u * 10 ^ e) significands exponents ∙ scaled f t d y n fs second)

-- and where one size is nearest to both, it is what is shown of both
pub shown_same : (f : CompactFormat) (s t : Sign) (c d x y : Unsigned) (m n : ℕ) (es fs : List Event) → OneCompactNumberIsNearest
    → (first : IsCompactFormat f s c x m es) (second : IsCompactFormat f t d y n fs) → ShowOneSize f (size c) (size d) → first.shown ≡ second.shown
shown_same f s t c d x y m n es fs once first second both =
    let one = once f.table (size c) in
    let other = once f.table (size d) in
    one.2 first.shown first.decomposed.nearest ∙ sym (one.2 both.shown both.of_one)
    ∙ other.2 both.shown both.of_other ∙ sym (other.2 second.shown second.decomposed.nearest)
