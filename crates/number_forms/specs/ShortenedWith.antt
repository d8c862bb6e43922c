-- Compact numbers by a rounding that is asked for, with the symbol or the name of a currency, or with a unit.
use Rattle.std.specs.Prelude.{List, Result, Ok, Err}
use Rattle.fixed_decimal.specs.SignDisplay.{is_negative}
use Rattle.fixed_decimal.specs.Unsigned.{Unsigned}
use Rattle.fixed_decimal.specs.declared.signs.Sign.{Sign}
use Rattle.writeable.specs.Events.{Event}
use Rattle.icu_pattern.specs.Patterns.{PatternText}
use Rattle.icu_plurals.specs.Operands.{Operands, operands_of}
use Rattle.icu_decimal.specs.CompactFormat.{CompactFormat}
use Rattle.icu_dimension.specs.CompactMoney.{CompactMoney, amount_given, formatter_of, number_given}
use Rattle.icu_dimension.specs.Names.{NameText, names_framed}
use Rattle.icu_dimension.specs.PluralFormat.{PluralFormat}
use Rattle.icu_dimension.specs.Units.{units_framed}
use Rattle.decimal_lines.specs.declared.single_text.TextError.{TextError}
use Rattle.number_rounding.specs.declared.rounding.Rounding.{Rounding}
use Rattle.number_forms.specs.Shortened.{Shortened, shortened}

-- the plural operands of what is shown: with its exponent
abbrev pub operands_shown : Shortened → Operands
operands_shown number = operands_of number.significand number.exponent

-- with a unit
abbrev pub units_given : PluralFormat CompactFormat PatternText → Sign → Shortened → List Event
units_given format sign number = units_framed format.formatter.decimal.symbols format.rules format.elements sign (operands_shown number)
    (number_given format.formatter number.significand number.exponent)

-- with the name of a currency
abbrev pub names_given : PluralFormat CompactFormat NameText → Sign → Shortened → List Event
names_given format sign number = names_framed format.formatter.decimal.symbols format.rules format.elements sign (operands_shown number)
    (number_given format.formatter number.significand number.exponent)

-- with the symbol of a currency
abbrev pub money_given : CompactMoney → Sign → Shortened → List Event
money_given format sign number = amount_given (formatter_of format sign) format.patterns sign number.significand number.exponent

-- what is written of a number that is shown, if one is
abbrev pub written_by : (Shortened → List Event) → Result Shortened TextError → Result (List Event) TextError
written_by write (Ok number) = Ok (write number)
written_by write (Err error) = Err error

-- what is written of d
abbrev pub units_shortened : Rounding → PluralFormat CompactFormat PatternText → Sign → Unsigned → Result (List Event) TextError
units_shortened rounding format sign d = written_by (units_given format sign) (shortened rounding format.formatter.table (is_negative sign) d)

abbrev pub names_shortened : Rounding → PluralFormat CompactFormat NameText → Sign → Unsigned → Result (List Event) TextError
names_shortened rounding format sign d = written_by (names_given format sign) (shortened rounding format.formatter.table (is_negative sign) d)

abbrev pub money_shortened : Rounding → CompactMoney → Sign → Unsigned → Result (List Event) TextError
money_shortened rounding format sign d =
    written_by (money_given format sign) (shortened rounding (formatter_of format sign).table (is_negative sign) d)
