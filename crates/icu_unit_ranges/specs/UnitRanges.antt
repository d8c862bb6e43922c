-- What is written for a range of numbers with a unit (UTS 35 Part 3, Plural Ranges).
use Rattle.std.specs.Prelude.{ℕ, List, is_some, if◌then◌else◌}
use Rattle.fixed_decimal.specs.declared.signs.Sign.{Sign}
use Rattle.fixed_decimal.specs.declared.signs.Sign.TheVariants.{None as NoSign}
use Rattle.writeable.specs.Events.{Event}
use Rattle.icu_pattern.specs.Patterns.{PatternText}
use Rattle.icu_plurals.specs.Elements.{Elements}
use Rattle.icu_plurals.specs.Operands.{Operands}
use Rattle.icu_plurals.specs.Rules.{Rule}
use Rattle.icu_plurals.specs.declared.category.PluralCategory.{PluralCategory}
use Rattle.icu_decimal_data.specs.declared.decimal_symbols.DecimalSymbols.{DecimalSymbols}
use Rattle.icu_decimal.specs.Decimal.{signed_events}
use Rattle.icu_decimal_interface.specs.Nested.{ShownPair, pair_events}
use Rattle.icu_dimension.specs.UnitPatterns.{unit_interpolated}
use Rattle.icu_dimension.specs.Units.{units_framed}
use Rattle.icu_ranges.specs.Approximately.{approximated}
use Rattle.icu_ranges.specs.Joined.{joined}
use Rattle.icu_unit_ranges.specs.PluralStyle.{PluralStyle, first_or}
use Rattle.icu_unit_ranges.specs.Values.{range_category, value_for}

-- a pattern, or another one where it has no place for a number
abbrev pub with_place : PatternText → PatternText → PatternText
with_place pattern other = if is_some pattern.placeholder then pattern else other

-- the pattern of a range's category: the category's own if it has a place for a number, and else that of all other numbers
abbrev pub range_unit : Elements PatternText → PluralCategory → PatternText
range_unit elements category = with_place (value_for elements category) elements.other

-- two numbers with their signs, joined, in the pattern of their category
abbrev pub units_joined : PluralStyle → DecimalSymbols → List Rule → Elements PatternText → Sign → Sign → Operands → List Event → Operands →
    List Event → List Event
units_joined style symbols rules elements start_sign end_sign o start p end =
    unit_interpolated (range_unit elements (range_category style.plural_ranges rules o p))
    (joined style.style.separator (signed_events symbols start_sign start) (signed_events symbols end_sign end))

-- a number with its unit, the approximately sign in front of its sign
abbrev pub units_approximated : List ℕ → DecimalSymbols → List Rule → Elements PatternText → Sign → Operands → List Event → List Event
units_approximated sign symbols rules elements number_sign o es =
    units_framed symbols rules elements NoSign o (approximated sign (signed_events symbols number_sign es))

-- two numbers with their unit as a range; where both texts, each with its own unit, are one, the first alone, with the
-- approximately sign if that is wanted
abbrev pub units_range_framed : PluralStyle → DecimalSymbols → List Rule → Elements PatternText → Sign → Sign → Operands → List Event →
    Operands → List Event → List Event
units_range_framed style symbols rules elements start_sign end_sign o start p end =
    first_or style.style.fallback (units_framed symbols rules elements start_sign o start) (units_framed symbols rules elements end_sign p end)
    (units_approximated style.style.separator.approximately symbols rules elements start_sign o start)
    (units_joined style symbols rules elements start_sign end_sign o start p end)

-- what is written for two numbers as they are shown
abbrev pub units_range_events : PluralStyle → DecimalSymbols → List Rule → Elements PatternText → Sign → Sign → ShownPair → List Event
units_range_events style symbols rules elements start_sign end_sign = pair_events (units_range_framed style symbols rules elements start_sign end_sign)
