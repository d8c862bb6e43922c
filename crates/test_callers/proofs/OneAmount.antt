-- What a call answers is the text of an amount in the pattern that its formatter was made of.
use Rattle.std.proofs.Common.{◌≡◌, ℕ, List, subst}
use Rattle.fixed_decimal.specs.declared.signs.Sign.{Sign}
use Rattle.fixed_decimal.specs.Unsigned.{Unsigned}
use Rattle.writeable.specs.Events.{text_of}
use Rattle.icu_decimal.specs.Decimal.{DecimalFormat}
use Rattle.icu_decimal_interface.specs.Shown.{Shown, plain_shown}
use Rattle.icu_dimension_data.specs.Patterns.{PatternText}
use Rattle.icu_dimension_data.specs.Resolved.{Texts}
use Rattle.icu_dimension.specs.Money.{SignedFormat, money_events}
use Rattle.icu_dimension.specs.MoneyLaws.{plain_money}
use Rattle.icu_dimension.specs.SymbolLaws.{plain_amount}
use Rattle.test_callers.specs.OneAmount.{money_of}

-- the text of what is shown, where the formatter and what it shows are known
pub text_in : (m : SignedFormat DecimalFormat) (f : DecimalFormat) (p : PatternText) (texts : Texts) (currency : List ℕ) (s : Sign) (c : Unsigned)
    (n : Shown) (text : List ℕ) → m ≡ money_of f p texts currency → n ≡ plain_shown m.formatter c → text ≡ text_of (money_events m.patterns s n)
    → text ≡ text_of (plain_amount f p texts currency s c)
text_in m f p texts currency s c n text is shown e =
    subst (λ (x : SignedFormat DecimalFormat). text ≡ text_of (plain_money x.formatter x.patterns s c)) is
    (subst (λ (k : Shown). text ≡ text_of (money_events m.patterns s k)) shown e)
