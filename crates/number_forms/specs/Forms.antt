-- What a form writes for a text: its events, or why there are none.
use Rattle.std.specs.Prelude.{ℕ, ℤ, ◌==◌, List, Option, Result, Ok, Err}
use Rattle.fixed_decimal.specs.declared.signs.Sign.{Sign}
use Rattle.fixed_decimal.specs.declared.signs.SignDisplay.{SignDisplay}
use Rattle.fixed_decimal.specs.SignDisplay.{sign_by_display}
use Rattle.fixed_decimal.specs.Size.{size}
use Rattle.fixed_decimal.specs.Unsigned.{Unsigned}
use Rattle.writeable.specs.Events.{Event}
use Rattle.icu_decimal_interface.specs.Shown.{plain_shown}
use Rattle.icu_dimension.specs.Money.{money_events}
use Rattle.icu_dimension.specs.Names.{names_events}
use Rattle.icu_dimension.specs.Units.{units_events}
use Rattle.decimal_lines.specs.SingleText.{decimal_read, mode_events}
use Rattle.decimal_lines.specs.declared.single_text.TextError.{TextError}
use Rattle.number_rounding.specs.declared.rounding.Rounding.{Rounding}
use Rattle.icu_dimension.specs.CompactMoney.{formatter_of}
use Rattle.number_formatters.specs.declared.formatter.Formatter.{Formatter}
use Rattle.number_formatters.specs.declared.formatter.Formatter.TheVariants.{Numbers, ShortNumbers, Money, MoneyNamed, MoneyShort, Percent, Units}
use Rattle.number_formatters.specs.declared.formatter.Formatter.TheVariants.{ShortMoney, ShortNamed, ShortUnits}
use Rattle.number_forms.specs.CompactMoney.{compact_money_events}
use Rattle.number_forms.specs.Rounded.{rounded}
use Rattle.number_forms.specs.Scaled.{scaled}
use Rattle.number_forms.specs.Shortened.{shortened_events, shortened_number}
use Rattle.number_forms.specs.ShortenedWith.{money_shortened, names_shortened, units_shortened}

-- by which power of ten numbers are multiplied; how they are rounded, if they are; which signs are shown; and what writes
pub record FormData : Type 0 where
  pub scale : ℤ
  pub rounding : Option Rounding
  pub sign : SignDisplay
  pub formatter : Formatter

-- what is made of a result, if it is one
infixl 10 ◌>>=◌
abbrev pub ◌>>=◌ : {A B : Type 0} → Result A TextError → (A → Result B TextError) → Result B TextError
(Ok x) >>= next = next x
(Err error) >>= next = Err error

-- what a formatter writes for a decimal
abbrev pub formatter_events : Formatter → Sign → Unsigned → Result (List Event) TextError
formatter_events (Numbers mode) sign d = mode_events mode sign d
formatter_events (ShortNumbers format by) sign d = shortened_events by format sign d
formatter_events (Money format) sign d = Ok (money_events format.patterns sign (plain_shown format.formatter d))
formatter_events (MoneyNamed format) sign d =
    Ok (names_events format.formatter.symbols format.rules format.elements sign (plain_shown format.formatter d))
formatter_events (MoneyShort format) sign d = compact_money_events format sign d
formatter_events (ShortMoney format by) sign d = money_shortened by format sign d
formatter_events (ShortNamed format by) sign d = names_shortened by format sign d
formatter_events (Percent format) sign d = Ok (money_events format.patterns sign (plain_shown format.formatter d))
formatter_events (Units format) sign d =
    Ok (units_events format.formatter.symbols format.rules format.elements sign (plain_shown format.formatter d))
formatter_events (ShortUnits format by) sign d = units_shortened by format sign d

-- the number that is shown for a number with the sign of its text: by the rounding of the form, or by that of compact numbers
abbrev pub form_rounded : Formatter → Option Rounding → Sign → Unsigned → Result Unsigned TextError
form_rounded (Numbers mode) rounding sign d = rounded rounding sign d
form_rounded (ShortNumbers format by) rounding sign d = shortened_number by format sign d
form_rounded (Money format) rounding sign d = rounded rounding sign d
form_rounded (MoneyNamed format) rounding sign d = rounded rounding sign d
form_rounded (MoneyShort format) rounding sign d = rounded rounding sign d
form_rounded (ShortMoney format by) rounding sign d = shortened_number by (formatter_of format sign) sign d
form_rounded (ShortNamed format by) rounding sign d = shortened_number by format.formatter sign d
form_rounded (Percent format) rounding sign d = rounded rounding sign d
form_rounded (Units format) rounding sign d = rounded rounding sign d
form_rounded (ShortUnits format by) rounding sign d = shortened_number by format.formatter sign d

-- the sign of a number that was read, where that is shown, which depends on the shown number
abbrev pub signed : FormData → Sign → Unsigned → Sign
signed form sign d = sign_by_display form.sign (size d == 0) sign

-- what a form writes for a number that was read: it is scaled and rounded, and then written with its sign
abbrev pub read_events : FormData → Sign × Unsigned → Result (List Event) TextError
read_events form read = do
  number ← scaled form.scale read.1
  shown ← form_rounded form.formatter form.rounding read.0 number
  formatter_events form.formatter (signed form read.0 shown) shown

-- what a form writes for a text
unfoldable pub form_events : FormData → List ℕ → Result (List Event) TextError
form_events form text = do
  read ← decimal_read text
  read_events form read
