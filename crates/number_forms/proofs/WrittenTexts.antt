-- What a form writes for a text is what its formatter writes for the decimal that is written.
use Rattle.std.proofs.Common.{◌≡◌, ℕ, inl, inr, List, Result, Ok, Err, refl, ap, ◌∙◌}
use Rattle.fixed_decimal.specs.declared.signs.Sign.{Sign}
use Rattle.fixed_decimal.specs.Unsigned.{Unsigned}
use Rattle.decimal_lines.specs.SingleText.{IsRefusal, decimal_read}
use Rattle.decimal_lines.specs.declared.single_text.TextError.{TextError}
use Rattle.number_forms.specs.Scaled.{scaled}
use Rattle.number_forms.specs.Decimals.{events_at, rounded_decimal, scaled_decimal, shown_decimal}
use Rattle.number_forms.specs.Forms.{FormData, ◌>>=◌, form_events, form_rounded, formatter_events, read_events, signed}

module _ (form : FormData) (text : List ℕ) where
  pub form_events-at : form_events form text ≡ events_at form.formatter (shown_decimal form text)
  unfolding form_events shown_decimal scaled_decimal
  form_events-at = go (decimal_read text)
    where
      with_sign : Sign → Unsigned → Result (Sign × Unsigned) TextError
      with_sign sign n = Ok (sign, n)

      rounded_of : Sign × Unsigned → Result (Sign × Unsigned) TextError
      rounded_of x = rounded_decimal form x.0 x.1

      scaled_of : Sign × Unsigned → Result (Sign × Unsigned) TextError
      scaled_of read = scaled form.scale read.1 >>= with_sign read.0

      shown : (sign : Sign) (r : Result Unsigned TextError)
          → (r >>= (λ d. formatter_events form.formatter (signed form sign d) d))
          ≡ events_at form.formatter (r >>= (λ d. Ok (signed form sign d, d)))
      shown sign (Ok d) = refl
      shown sign (Err error) = refl

      number : (sign : Sign) (r : Result Unsigned TextError)
          → (r >>= (λ n. form_rounded form.formatter form.rounding sign n >>= (λ d. formatter_events form.formatter (signed form sign d) d)))
          ≡ events_at form.formatter ((r >>= with_sign sign) >>= rounded_of)
      number sign (Ok n) = shown sign (form_rounded form.formatter form.rounding sign n)
      number sign (Err error) = refl

      go : (r : Result (Sign × Unsigned) TextError) → (r >>= read_events form) ≡ events_at form.formatter ((r >>= scaled_of) >>= rounded_of)
      go (Ok read) = number read.0 (scaled form.scale read.1)
      go (Err error) = refl

  -- where no decimal is written, nothing is
  pub form_events-refused : (error : TextError) → IsRefusal (shown_decimal form text) error → IsRefusal (form_events form text) error
  form_events-refused error (inl memory) = inl memory
  form_events-refused error (inr is) = inr (form_events-at ∙ ap (events_at form.formatter) is)
