-- A number as a form shows it.
use Rattle.std.specs.Prelude.{◌≡◌, ℕ, List, Option, Ok}
use Rattle.fixed_decimal.specs.declared.signs.Sign.{Sign}
use Rattle.fixed_decimal.specs.SignDisplay.{is_negative}
use Rattle.fixed_decimal.specs.Unsigned.{Unsigned}
use Rattle.writeable.specs.Events.{Event, text_of}
use Rattle.decimal_lines.specs.SingleText.{decimal_read}
use Rattle.icu_message.specs.Numbers.{Number, whole_of}
use Rattle.number_forms.specs.Forms.{FormData, form_events}
use Rattle.number_messages.specs.Operands.{HasFormOperands}

-- the whole number that a text's decimal is, if it is one
pub record IsWholeOf (text : List ℕ) (whole : Option ℕ) : Type 0 where
  pub sign : Sign
  pub digits : Unsigned
  pub decimal_is : decimal_read text ≡ Ok (sign, digits)
  pub whole_is : whole ≡ whole_of (is_negative sign) digits

-- A number is that of a text as a form shows it: its text is what the form writes, its operands are those of what is written, and its
-- whole number is that of the text.
pub record IsShownBy (form : FormData) (text : List ℕ) (n : Number) : Type 0 where
  pub events : List Event
  pub written : form_events form text ≡ Ok events
  pub text_is : n.text ≡ text_of events
  pub operands_are : HasFormOperands form text n.operands
  pub whole_is : IsWholeOf text n.whole
