-- What is written for a range of amounts of money with the name of their currency (UTS 35 Part 3, Plural Ranges).
use Rattle.std.specs.Prelude.{ℕ, List}
use Rattle.fixed_decimal.specs.declared.signs.Sign.{Sign}
use Rattle.fixed_decimal.specs.declared.signs.Sign.TheVariants.{None as NoSign}
use Rattle.writeable.specs.Events.{Event}
use Rattle.icu_plurals.specs.Elements.{Elements}
use Rattle.icu_plurals.specs.Operands.{Operands}
use Rattle.icu_plurals.specs.Rules.{Rule}
use Rattle.icu_decimal_data.specs.declared.decimal_symbols.DecimalSymbols.{DecimalSymbols}
use Rattle.icu_decimal.specs.Decimal.{signed_events}
use Rattle.icu_decimal_interface.specs.Nested.{ShownPair, pair_events}
use Rattle.icu_dimension.specs.Names.{NameText, names_framed, with_name}
use Rattle.icu_ranges.specs.Approximately.{approximated}
use Rattle.icu_ranges.specs.Joined.{joined}
use Rattle.icu_unit_ranges.specs.PluralStyle.{PluralStyle, first_or}
use Rattle.icu_unit_ranges.specs.Values.{range_category, value_for}

-- two numbers with their signs, joined, with the name of their category
abbrev pub names_joined : PluralStyle → DecimalSymbols → List Rule → Elements NameText → Sign → Sign → Operands → List Event → Operands →
    List Event → List Event
names_joined style symbols rules elements start_sign end_sign o start p end =
    with_name (value_for elements (range_category style.plural_ranges rules o p))
    (joined style.style.separator (signed_events symbols start_sign start) (signed_events symbols end_sign end))

-- an amount with the name of its currency, the approximately sign in front of its sign
abbrev pub names_approximated : List ℕ → DecimalSymbols → List Rule → Elements NameText → Sign → Operands → List Event → List Event
names_approximated sign symbols rules elements number_sign o es =
    names_framed symbols rules elements NoSign o (approximated sign (signed_events symbols number_sign es))

-- two amounts with the name as a range; where both texts, each with its own name, are one, the first alone, with the
-- approximately sign if that is wanted
abbrev pub names_range_framed : PluralStyle → DecimalSymbols → List Rule → Elements NameText → Sign → Sign → Operands → List Event →
    Operands → List Event → List Event
names_range_framed style symbols rules elements start_sign end_sign o start p end =
    first_or style.style.fallback (names_framed symbols rules elements start_sign o start) (names_framed symbols rules elements end_sign p end)
    (names_approximated style.style.separator.approximately symbols rules elements start_sign o start)
    (names_joined style symbols rules elements start_sign end_sign o start p end)

-- what is written for two numbers as they are shown
abbrev pub names_range_events : PluralStyle → DecimalSymbols → List Rule → Elements NameText → Sign → Sign → ShownPair → List Event
names_range_events style symbols rules elements start_sign end_sign = pair_events (names_range_framed style symbols rules elements start_sign end_sign)
