-- The text form of a number spells the number.
use Rattle.std.proofs.Common.{◌≡◌, ℕ, ◌-◌, ◌+◌, ◌<◌, ◌≤◌, true, refl, sym, ap, ◌∙◌, arith, List, []}
use Rattle.std.proofs.Common.{◌∷◌, ◌++◌, All, length, take, drop, length-take, length-drop}
use Rattle.std.proofs.lemmas.Bool.Decides.{nat_tests}
use Rattle.std.proofs.lemmas.List.{take-append-drop}
use Rattle.std.proofs.lemmas.List.Elements.{All-take, All-drop}
use Rattle.fixed_decimal.specs.declared.signs.Sign.{Sign}
use Rattle.fixed_decimal.specs.declared.signs.Sign.TheVariants.{None as NoSign}
use Rattle.fixed_decimal.specs.Unsigned.{Unsigned, IsUnsigned}
use Rattle.fixed_decimal.specs.Text.{digits_text, fraction_text, integer_of, Reads}
use Rattle.fixed_decimal.proofs.Numerals.{Reads-one}
use Rattle.icu_decimal_reading.specs.Reading.{is_decimal, number_of}

-- how a number with these digits is spelled, so many of them behind the point
abbrev pub form_of : List ℕ → ℕ → List ℕ
form_of ds scale = digits_text (take (length ds - scale) ds) ++ fraction_text (drop (length ds - scale) ds)

integer_of-some : (ds : List ℕ) → 0 < length ds → integer_of ds ≡ ds
integer_of-some [] h = absurd (omega arith)
integer_of-some (d ∷ ds) h = refl

-- a decimal has a digit in front of its separator
decimal_within : (count scale : ℕ) → is_decimal count scale ≡ true → scale < count
decimal_within count scale e = grind (arith, nat_tests)

-- so many digits of a decimal pass the test of the limits
pub decimal_passes : (ds : List ℕ) (scale : ℕ) → IsUnsigned (number_of ds scale) → is_decimal (length ds) scale ≡ true
decimal_passes ds scale h =
    let some : scale < length ds = h.integer_some in
    let high : length ds ≤ scale + 32768 = h.high_limit in
    let low : scale ≤ 32768 = h.low_limit in
    passes (length ds) scale some high low
  where
    passes : (count n : ℕ) → n < count → count ≤ n + 32768 → n ≤ 32768 → is_decimal count n ≡ true
    passes count n some high low = grind (arith, nat_tests)

module _ (ds : List ℕ) (scale : ℕ) (digits : All (λ d. d < 10) ds) (within : scale < length ds) where
  form_reads : Reads (form_of ds scale) NoSign (number_of ds scale)
  form_reads =
      let before : length (take (length ds - scale) ds) ≡ length ds - scale = length-take (length ds - scale) ds ∙ omega arith in
      let after : length (drop (length ds - scale) ds) ≡ scale = length-drop (length ds - scale) ds ∙ omega arith in
      record {
        numeral = form_of ds scale;
        before = take (length ds - scale) ds;
        after = drop (length ds - scale) ds;
        signed = refl;
        spelled = record {
          spelled = refl;
          some_digit = omega arith;
          before_digits = All-take (λ d. d < 10) (length ds - scale) ds digits;
          after_digits = All-drop (λ d. d < 10) (length ds - scale) ds digits;
        };
        digits = sym (take-append-drop (length ds - scale) ds)
            ∙ ap (λ l. l ++ drop (length ds - scale) ds) (sym (integer_of-some (take (length ds - scale) ds) (omega arith)));
        scale = sym after;
      }

  form_tells_within : (form : List ℕ) (sign : Sign) (u : Unsigned) → form ≡ form_of ds scale → Reads form sign u → u ≡ number_of ds scale
  form_tells_within form sign u e r =
      (Reads-one (form_of ds scale) sign NoSign u (number_of ds scale) (rw e at r) form_reads).1

-- what the text form of a decimal is read as is that decimal
pub form_tells : (ds : List ℕ) (scale : ℕ) → All (λ d. d < 10) ds → is_decimal (length ds) scale ≡ true →
    (form : List ℕ) (sign : Sign) (u : Unsigned) → form ≡ form_of ds scale → Reads form sign u → u ≡ number_of ds scale
form_tells ds scale digits is = form_tells_within ds scale digits (decimal_within (length ds) scale is)
