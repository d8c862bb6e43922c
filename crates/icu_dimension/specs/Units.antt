-- Numbers with a unit, the sign beside the number (UTS 35 Part 2, Unit Elements: a pattern by the number's plural category).
use Rattle.std.specs.Prelude.{◌≡◌, List, None}
use Rattle.fixed_decimal.specs.declared.signs.Sign.{Sign}
use Rattle.icu_plurals.specs.Elements.{Elements}
use Rattle.writeable.specs.Events.{Event}
use Rattle.icu_plurals.specs.Operands.{Operands}
use Rattle.icu_pattern.specs.Patterns.{PatternText}
use Rattle.icu_plurals.specs.Rules.{Rule}
use Rattle.icu_decimal_data.specs.declared.decimal_symbols.DecimalSymbols.{DecimalSymbols}
use Rattle.icu_decimal.specs.Decimal.{signed_events}
use Rattle.icu_decimal_interface.specs.Shown.{Shown, operands_shown, picked}
use Rattle.icu_dimension.specs.UnitPatterns.{unit_interpolated}

-- the pattern that the operands pick, its letters in the part of a unit, with the number's events and the sign around them in
-- its place
abbrev pub units_framed : DecimalSymbols → List Rule → Elements PatternText → Sign → Operands → List Event → List Event
units_framed symbols rules elements sign operands es =
    unit_interpolated (picked rules elements operands) (signed_events symbols sign es)

-- for these operands the number is left out: the pattern that they pick has no placeholder
abbrev pub IsLeftOut : List Rule → Elements PatternText → Operands → Type 0
IsLeftOut rules elements operands = (picked rules elements operands).placeholder ≡ None

-- what is written for a number as it is shown
abbrev pub units_events : DecimalSymbols → List Rule → Elements PatternText → Sign → Shown → List Event
units_events symbols rules elements sign number = units_framed symbols rules elements sign (operands_shown number) number.events
