-- The text that `decimal_of` reads spells the digits that it was made of.
use Rattle.std.proofs.Common.{◌≡◌, ◌≢◌, ℕ, ◌+◌, ◌-◌, ◌*◌, ◌^◌, ◌<◌, ◌≤◌, List, [], ◌∷◌, ◌++◌}
use Rattle.std.proofs.Common.{length, get_or, take, drop, replicate, pos, inl, inr}
use Rattle.std.proofs.Common.{refl, sym, ◌∙◌, ap, arith, zero-add}
use Rattle.std.proofs.lemmas.List.{take-append-drop, length-drop, length-take, drop_more}
use Rattle.std.proofs.lemmas.List.Elements.{All-drop, All-take}
use Rattle.std.proofs.lemmas.Bool.{cases_lt}
use Rattle.std.proofs.lemmas.Nat.{mul-le}
use Rattle.fixed_decimal.specs.declared.signs.Sign.{Sign}
use Rattle.fixed_decimal.specs.declared.signs.Sign.TheVariants.{None as no_sign}
use Rattle.fixed_decimal.specs.Unsigned.{Unsigned, AreDigits}
use Rattle.fixed_decimal.specs.Size.{weighed, finest, size, ten_to}
use Rattle.fixed_decimal.specs.Text.{digits_text, fraction_text, integer_of, IsNumeral, Reads, ReadsNothing, ReadsPastLimits}
use Rattle.fixed_decimal.proofs.Numerals.{number_of, Reads-unique, not_past_limits, reads_something}
use Rattle.fixed_decimal.proofs.Weights.{weighed-append, weighed-replicate_zero, first_weighed, ten_mono}
use Rattle.fixed_decimal.proofs.Rounds.{finest_large}

-- the digits of a number that are left of the point's place, and those behind it
module _ (rest : List ℕ) (s : ℕ) (digits : AreDigits rest) (some : s < length rest) where
  pub numeral_is : IsNumeral (digits_text (take (length rest - s) rest) ++ fraction_text (drop (length rest - s) rest)) (take (length rest - s) rest)
      (drop (length rest - s) rest)
  numeral_is = record {
    spelled = refl;
    some_digit = omega (arith, length-take (length rest - s) rest);
    before_digits = All-take (λ d. d < 10) (length rest - s) rest digits;
    after_digits = All-drop (λ d. d < 10) (length rest - s) rest digits;
  }

  pub number_is : number_of (take (length rest - s) rest) (drop (length rest - s) rest) ≡ record { digits = rest; scale = s }
  number_is =
      let some_before : 0 < length (take (length rest - s) rest) = omega (arith, length-take (length rest - s) rest) in
      let all : integer_of (take (length rest - s) rest) ++ drop (length rest - s) rest ≡ rest =
      ap (λ l. l ++ drop (length rest - s) rest) (same (take (length rest - s) rest) some_before) ∙ take-append-drop (length rest - s) rest in
      let scale : length (drop (length rest - s) rest) ≡ s = omega (arith, length-drop (length rest - s) rest) in
      λ i. record { digits = all i; scale = scale i }
    where
      same : (b : List ℕ) → 0 < length b → integer_of b ≡ b
      same [] h = absurd (omega arith)
      same (x ∷ b) h = refl

-- the same of the digits without zeros in front of them
module _ (ds : List ℕ) (s z : ℕ) (digits : AreDigits ds) (some : s < length ds) (within : z ≤ length ds - s - 1) where
  rest_digits : AreDigits (drop z ds)
  rest_digits = All-drop (λ d. d < 10) z ds digits

  rest_some : s < length (drop z ds)
  rest_some = omega (arith, length-drop z ds)

  module _ (text : List ℕ)
      (is : text ≡ digits_text (take (length (drop z ds) - s) (drop z ds)) ++ fraction_text (drop (length (drop z ds) - s) (drop z ds))) where
    spelled : IsNumeral text (take (length (drop z ds) - s) (drop z ds)) (drop (length (drop z ds) - s) (drop z ds))
    spelled = rw is (numeral_is (drop z ds) s rest_digits rest_some)

    pub spelled_one : (sign : Sign) (d : Unsigned) → Reads text sign d → d ≡ record { digits = drop z ds; scale = s }
    spelled_one sign d reads = Reads-unique text no_sign sign text _ _ d refl spelled reads ∙ number_is (drop z ds) s rest_digits rest_some

    pub spelled_some : ¬ (ReadsNothing text)
    spelled_some = reads_something text no_sign text _ _ refl spelled

    module _ (zeros : ds ≡ replicate z 0 ++ drop z ds) where
      pub same_weight : (e : ℕ) → weighed e (drop z ds) ≡ weighed e ds
      same_weight e = sym (ap (weighed e) zeros ∙ weighed-append e (replicate z 0) (drop z ds)
          ∙ rw (weighed-replicate_zero (e + length (drop z ds)) z) (zero-add _))

      pub spelled_size : (sign : Sign) (d : Unsigned) → Reads text sign d → size d ≡ weighed (finest - s) ds
      spelled_size sign d reads = ap size (spelled_one sign d reads) ∙ same_weight (finest - s)

      pub spelled_limit : s ≤ 32768 → (z < length ds - s - 1 → get_or ds z 0 ≢ 0) → ReadsPastLimits text →
          ten_to (pos 32768) ≤ weighed (finest - s) ds
      spelled_limit small stops past = elim (cases_lt 32768 (length (drop z ds) - s)) [
        | inl long ↦
            let d = get_or ds z 0 in
            let more : z < length ds - s - 1 = omega (arith, length-drop z ds) in
            let inside : z < length ds = omega arith in
            let place : finest + 32768 ≤ finest - s + length (drop (z + 1) ds) = omega (arith, length-drop z ds, length-drop (z + 1) ds, finest_large) in
            let first : d * 10 ^ (finest - s + length (drop (z + 1) ds)) ≤ weighed (finest - s) (drop z ds) =
            rw (drop_more ds z 0 inside) (first_weighed (finest - s) d (drop (z + 1) ds)) in
            let one : 1 ≤ d = not_zero d (stops more) in
            rw (← same_weight (finest - s))
            (omega (
              arith,
              first,
              ten_mono _ _ place,
              mul-le 1 (10 ^ (finest - s + length (drop (z + 1) ds))) d (10 ^ (finest - s + length (drop (z + 1) ds)))
                  one (omega arith),
            ))
        | inr short ↦ absurd (not_past_limits text no_sign text _ _ refl spelled (omega (arith, length-take (length (drop z ds) - s) (drop z ds)))
            (omega (arith, length-drop (length (drop z ds) - s) (drop z ds))) past)
      ]
        where
          not_zero : (d : ℕ) → d ≢ 0 → 1 ≤ d
          not_zero d h = omega arith
