-- Amounts of money with the name of their currency (UTS 35 Part 3, Currency Formatting, unit patterns).
use Rattle.std.specs.Prelude.{ℕ, Bool, List, ◌++◌, codes, if◌then◌else◌}
use Rattle.fixed_decimal.specs.declared.signs.Sign.{Sign}
use Rattle.icu_plurals.specs.Elements.{Elements}
use Rattle.writeable.specs.Events.{Event, text_events}
use Rattle.icu_plurals.specs.Operands.{Operands}
use Rattle.icu_plurals.specs.Rules.{Rule}
use Rattle.icu_decimal_data.specs.declared.decimal_symbols.DecimalSymbols.{DecimalSymbols}
use Rattle.icu_decimal.specs.Decimal.{signed_events}
use Rattle.icu_decimal_interface.specs.Shown.{Shown, operands_shown, picked}
use Rattle.icu_dimension_data.specs.Surrounding.{in_part}

-- a number and a name, which of them comes first, and the texts around them
pub record NameText : Type 0 where
  pub number_first : Bool
  pub before : List ℕ
  pub between : List ℕ
  pub after : List ℕ
  pub name : List ℕ

-- such a pattern, and a value in the place of the number
pub record NamedValue (W : Type 0) : Type 0 where
  pub pattern : NameText
  pub value : W

-- the name, in the part of a currency
unfoldable pub name_events : List ℕ → List Event
name_events name = in_part (codes "dimension") (codes "currency") name

-- a number's events and then the name, as `{0} {1}`
abbrev pub number_then_name : NameText → List Event → List Event
number_then_name t es = text_events t.before ++ (es ++ (text_events t.between ++ (name_events t.name ++ text_events t.after)))

-- the name and then a number's events, as `{1} {0}`
abbrev pub name_then_number : NameText → List Event → List Event
name_then_number t es = text_events t.before ++ (name_events t.name ++ (text_events t.between ++ (es ++ text_events t.after)))

-- a number's events and the name
abbrev pub with_name : NameText → List Event → List Event
with_name t es = if t.number_first then number_then_name t es else name_then_number t es

-- the name that the operands pick, with the number's events and the sign around them
abbrev pub names_framed : DecimalSymbols → List Rule → Elements NameText → Sign → Operands → List Event → List Event
names_framed symbols rules elements sign operands es = with_name (picked rules elements operands) (signed_events symbols sign es)

-- what is written for a number as it is shown
abbrev pub names_events : DecimalSymbols → List Rule → Elements NameText → Sign → Shown → List Event
names_events symbols rules elements sign number = names_framed symbols rules elements sign (operands_shown number) number.events
