-- What `write_to_string` answers over a plain formatter is the text of the amount.
use Rattle.std.proofs.Common.{◌≡◌, ℕ, List, subst}
use Rattle.fixed_decimal.specs.declared.signs.Sign.{Sign}
use Rattle.fixed_decimal.specs.Unsigned.{Unsigned}
use Rattle.writeable.specs.Events.{text_of}
use Rattle.icu_decimal.specs.Decimal.{DecimalFormat}
use Rattle.icu_decimal_interface.specs.Shown.{Shown, plain_shown}
use Rattle.icu_dimension.specs.Money.{SignedFormat, money_events}
use Rattle.icu_dimension.specs.MoneyLaws.{plain_money}

-- where what is shown is what a plain formatter shows
pub plain_text : (m : SignedFormat DecimalFormat) (s : Sign) (c : Unsigned) (n : Shown) (text : List ℕ) → n ≡ plain_shown m.formatter c →
    text ≡ text_of (money_events m.patterns s n) → text ≡ text_of (plain_money m.formatter m.patterns s c)
plain_text m s c n text shown e = subst (λ (k : Shown). text ≡ text_of (money_events m.patterns s k)) shown e
