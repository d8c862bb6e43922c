-- The patterns in which numbers stand, as they are shown: what they write around `{0}`.
use Rattle.std.specs.Prelude.{ℕ, List, ◌++◌, codes}
use Rattle.writeable.specs.Events.{Event, text_events, text_of}
use Rattle.fixed_decimal.specs.declared.signs.Sign.{Sign}
use Rattle.fixed_decimal.specs.Unsigned.{Unsigned}
use Rattle.icu_plurals.specs.Elements.{Elements}
use Rattle.icu_plurals.specs.Operands.{operands_of}
use Rattle.icu_plurals.specs.Rules.{Rule}
use Rattle.icu_pattern.specs.Patterns.{PatternText, interpolated}
use Rattle.icu_decimal_interface.specs.Shown.{picked}
use Rattle.icu_dimension_data.specs.Resolved.{Signed}
use Rattle.icu_dimension.specs.Money.{sign_framed}
use Rattle.icu_dimension.specs.Names.{NameText, with_name}

-- the line of a pattern, by what it writes
unfoldable pub written_line : List Event → List ℕ
written_line events = codes "  pattern    " ++ text_of events ++ codes "\n"

-- what stands in the place of the number
abbrev pub number_placeholder : List Event
number_placeholder = text_events (codes "{0}")

-- the pattern of numbers of a sign
abbrev pub signed_line : Signed → Sign → List ℕ
signed_line patterns sign = written_line (sign_framed patterns sign number_placeholder)

-- the pattern that a number picks among those with the name of a currency
abbrev pub name_line : List Rule → Elements NameText → Unsigned → List ℕ
name_line rules elements d = written_line (with_name (picked rules elements (operands_of d 0)) number_placeholder)

-- and among those with a unit
abbrev pub unit_line : List Rule → Elements PatternText → Unsigned → List ℕ
unit_line rules elements d = written_line (interpolated (picked rules elements (operands_of d 0)) number_placeholder)
