-- What is written for a range of numbers.
use Rattle.std.specs.Prelude.{Bool, false, nat_eq, List, if◌then◌else◌}
use Rattle.std.specs.Cmp.Lexicographic.{pointwise}
use Rattle.fixed_decimal.specs.declared.signs.Sign.{Sign}
use Rattle.writeable.specs.Events.{Event, text_of}
use Rattle.icu_plurals.specs.Operands.{Operands}
use Rattle.icu_decimal_data.specs.declared.decimal_symbols.DecimalSymbols.{DecimalSymbols}
use Rattle.icu_decimal.specs.Decimal.{signed_events}
use Rattle.icu_decimal_interface.specs.Nested.{ShownPair, pair_events}
use Rattle.icu_ranges.specs.Approximately.{approximated}
use Rattle.icu_ranges.specs.declared.options.RangeIdentityFallback.{RangeIdentityFallback}
use Rattle.icu_ranges.specs.declared.options.RangeIdentityFallback.TheVariants.{SingleValue, Approximately, Range}
use Rattle.icu_ranges.specs.Joined.{joined}
use Rattle.icu_ranges.specs.Separator.{Separator}

-- how ranges are written: the separator, and what is written where both texts are equal
pub record RangeStyle : Type 0 where
  pub separator : Separator
  pub fallback : RangeIdentityFallback

-- two texts are equal, in each byte
abbrev pub same_text : List Event → List Event → Bool
same_text first second = pointwise nat_eq (text_of first) (text_of second)

-- two texts are written as one: they are equal, and one text is wanted there
abbrev pub is_single : RangeIdentityFallback → List Event → List Event → Bool
is_single SingleValue first second = same_text first second
is_single Approximately first second = same_text first second
is_single Range first second = false

-- what is written where two texts are written as one: the first as it is, or with the approximately sign
abbrev pub single_of : RangeIdentityFallback → List Event → List Event → List Event
single_of SingleValue first approximate = first
single_of Approximately first approximate = approximate
single_of Range first approximate = first

-- two texts as a range: joined, or where they are one the first alone, with the approximately sign in front if that is wanted
abbrev pub range_of : RangeStyle → List Event → List Event → List Event
range_of style first second =
    if is_single style.fallback first second then single_of style.fallback first (approximated style.separator.approximately first)
    else joined style.separator first second

-- two numbers as a range, each with its sign
abbrev pub numbers_framed : RangeStyle → DecimalSymbols → Sign → Sign → Operands → List Event → Operands → List Event → List Event
numbers_framed style symbols start_sign end_sign o start p end = range_of style (signed_events symbols start_sign start) (signed_events symbols end_sign end)

-- what is written for two numbers as they are shown
abbrev pub numbers_events : RangeStyle → DecimalSymbols → Sign → Sign → ShownPair → List Event
numbers_events style symbols start_sign end_sign = pair_events (numbers_framed style symbols start_sign end_sign)

-- a formatter of numbers, and how ranges are written
pub record NumberRangeFormat (F : Type 0) : Type 0 where
  pub formatter : F
  pub style : RangeStyle
