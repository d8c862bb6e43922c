-- The decimal that a form writes for a text: its digits and its sign, or why there is none.
use Rattle.std.specs.Prelude.{ℕ, List, Result, Ok, Err}
use Rattle.fixed_decimal.specs.declared.signs.Sign.{Sign}
use Rattle.fixed_decimal.specs.Unsigned.{Unsigned}
use Rattle.writeable.specs.Events.{Event}
use Rattle.decimal_lines.specs.SingleText.{decimal_read}
use Rattle.decimal_lines.specs.declared.single_text.TextError.{TextError}
use Rattle.number_formatters.specs.declared.formatter.Formatter.{Formatter}
use Rattle.number_forms.specs.Forms.{FormData, ◌>>=◌, form_rounded, formatter_events, signed}
use Rattle.number_forms.specs.Scaled.{scaled}

-- the number that a form rounds for a text, with the sign of the text
unfoldable pub scaled_decimal : FormData → List ℕ → Result (Sign × Unsigned) TextError
scaled_decimal form text = do
  read ← decimal_read text
  number ← scaled form.scale read.1
  Ok (read.0, number)

-- the decimal that is written for a number and the sign of its text
abbrev pub rounded_decimal : FormData → Sign → Unsigned → Result (Sign × Unsigned) TextError
rounded_decimal form sign d = do
  shown ← form_rounded form.formatter form.rounding sign d
  Ok (signed form sign shown, shown)

-- the decimal that is written for a text
unfoldable pub shown_decimal : FormData → List ℕ → Result (Sign × Unsigned) TextError
shown_decimal form text = do
  number ← scaled_decimal form text
  rounded_decimal form number.0 number.1

-- what a formatter writes for the decimal that is written
abbrev pub events_at : Formatter → Result (Sign × Unsigned) TextError → Result (List Event) TextError
events_at formatter (Ok (sign, d)) = formatter_events formatter sign d
events_at formatter (Err error) = Err error
