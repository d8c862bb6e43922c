-- The plural operands of what is written for a number.
use Rattle.std.specs.Prelude.{◌≡◌, ℕ, List, Option, Ok}
use Rattle.fixed_decimal.specs.declared.signs.Sign.{Sign}
use Rattle.fixed_decimal.specs.SignDisplay.{is_negative}
use Rattle.fixed_decimal.specs.Size.{size}
use Rattle.fixed_decimal.specs.Unsigned.{Unsigned}
use Rattle.icu_plurals.specs.Operands.{Operands, operands_of}
use Rattle.icu_decimal_data.specs.CompactTable.{TableEntry, exponent_of}
use Rattle.icu_decimal.specs.CompactFormat.{CompactFormat}
use Rattle.icu_decimal_interface.specs.Shown.{Shown, ShowsCompact, operands_shown}
use Rattle.icu_dimension.specs.CompactMoney.{formatter_of}
use Rattle.decimal_lines.specs.declared.mode.Mode.{Mode}
use Rattle.decimal_lines.specs.declared.mode.Mode.TheVariants.{Plain, Compact}
use Rattle.number_rounding.specs.declared.rounding.Rounding.{Rounding}
use Rattle.number_rounding.specs.Shown.{IsShown}
use Rattle.number_formatters.specs.declared.formatter.Formatter.{Formatter}
use Rattle.number_formatters.specs.declared.formatter.Formatter.TheVariants.{Numbers, ShortNumbers, Money, MoneyNamed, MoneyShort, Percent, Units}
use Rattle.number_formatters.specs.declared.formatter.Formatter.TheVariants.{ShortMoney, ShortNamed, ShortUnits}
use Rattle.number_forms.specs.Decimals.{shown_decimal}
use Rattle.number_forms.specs.Forms.{FormData}

-- those of the compact number that a compact formatter shows
pub record HasCompactOperands (format : CompactFormat) (u : Unsigned) (o : Operands) : Type 0 where
  pub number : Shown
  pub shown : ShowsCompact format u number
  pub operands_are : operands_shown number ≡ o

-- those of the compact number that a rounding shows: of its significand and its exponent
pub record HasShortOperands (by : Rounding) (format : CompactFormat) (sign : Sign) (u : Unsigned) (o : Operands) : Type 0 where
  pub y : ℕ
  pub entry : Option TableEntry
  pub significand : Unsigned
  pub shown : IsShown by format.table (is_negative sign) (size u) y entry significand
  pub operands_are : operands_of significand (exponent_of entry) ≡ o

-- those of what numbers are written by
abbrev pub HasModeOperands : Mode → Unsigned → Operands → Type 0
HasModeOperands (Plain format) u o = operands_of u 0 ≡ o
HasModeOperands (Compact format) u o = HasCompactOperands format u o

-- those of what a formatter writes for a decimal
abbrev pub HasOperands : Formatter → Sign → Unsigned → Operands → Type 0
HasOperands (Numbers mode) sign u o = HasModeOperands mode u o
HasOperands (ShortNumbers format by) sign u o = HasShortOperands by format sign u o
HasOperands (Money format) sign u o = operands_of u 0 ≡ o
HasOperands (MoneyNamed format) sign u o = operands_of u 0 ≡ o
HasOperands (MoneyShort format) sign u o = HasCompactOperands (formatter_of format sign) u o
HasOperands (ShortMoney format by) sign u o = HasShortOperands by (formatter_of format sign) sign u o
HasOperands (ShortNamed format by) sign u o = HasShortOperands by format.formatter sign u o
HasOperands (Percent format) sign u o = operands_of u 0 ≡ o
HasOperands (Units format) sign u o = operands_of u 0 ≡ o
HasOperands (ShortUnits format by) sign u o = HasShortOperands by format.formatter sign u o

-- those of what a form writes for a text: of the decimal that is written, rounded and with its sign
pub record HasFormOperands (form : FormData) (text : List ℕ) (o : Operands) : Type 0 where
  pub sign : Sign
  pub digits : Unsigned
  pub decimal_is : shown_decimal form text ≡ Ok (sign, digits)
  pub operands_are : HasOperands form.formatter sign digits o
