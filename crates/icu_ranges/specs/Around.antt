-- What is written for a range of amounts of money or of percents.
use Rattle.std.specs.Prelude.{Bool, ◌&&◌, List, [], if◌then◌else◌}
use Rattle.fixed_decimal.specs.declared.signs.Sign.{Sign}
use Rattle.fixed_decimal.specs.declared.signs.Sign.TheVariants.{None as NoSign}
use Rattle.writeable.specs.Events.{Event, characters}
use Rattle.icu_plurals.specs.Operands.{Operands}
use Rattle.icu_decimal_interface.specs.Nested.{ShownPair, pair_events}
use Rattle.icu_dimension_data.specs.Resolved.{Signed}
use Rattle.icu_dimension.specs.Money.{sign_framed}
pub use Rattle.icu_ranges.specs.Approximately.{has_no_sign}
use Rattle.icu_ranges.specs.Approximately.{amount_approximated}
use Rattle.icu_ranges.specs.Edges.{is_long}
use Rattle.icu_ranges.specs.Joined.{joined}
use Rattle.icu_ranges.specs.Ranges.{RangeStyle, is_single, single_of}
use Rattle.icu_ranges.specs.Separator.{Separator}

-- what stands around numbers without a sign, before and after them together
abbrev pub around_none : Signed → List Event
around_none patterns = sign_framed patterns NoSign []

-- what stands around both ends is written once: neither has a sign, and it is more than one character
abbrev pub is_shared : Signed → Sign → Sign → Bool
is_shared patterns start_sign end_sign = (has_no_sign start_sign && has_no_sign end_sign) && is_long (characters (around_none patterns))

-- two numbers in the patterns of their signs, joined; or joined in the pattern of no sign
abbrev pub around_joined : Separator → Signed → Sign → Sign → List Event → List Event → List Event
around_joined separator patterns start_sign end_sign start end =
    if is_shared patterns start_sign end_sign then sign_framed patterns NoSign (joined separator start end)
    else joined separator (sign_framed patterns start_sign start) (sign_framed patterns end_sign end)

-- an amount where both texts are written as one
abbrev pub amount_alone : RangeStyle → Signed → Sign → List Event → List Event
amount_alone style patterns sign es =
    single_of style.fallback (sign_framed patterns sign es) (amount_approximated style.separator.approximately patterns sign es)

-- two amounts as a range; where both texts are one, the first alone, with the approximately sign if that is wanted
abbrev pub amounts_of : RangeStyle → Signed → Sign → Sign → List Event → List Event → List Event
amounts_of style patterns start_sign end_sign start end =
    if is_single style.fallback (sign_framed patterns start_sign start) (sign_framed patterns end_sign end) then amount_alone style patterns start_sign start
    else around_joined style.separator patterns start_sign end_sign start end

-- two amounts as a range, by their numbers as they are shown
abbrev pub amounts_framed : RangeStyle → Signed → Sign → Sign → Operands → List Event → Operands → List Event → List Event
amounts_framed style patterns start_sign end_sign o start p end = amounts_of style patterns start_sign end_sign start end

-- what is written for two numbers as they are shown
abbrev pub amounts_events : RangeStyle → Signed → Sign → Sign → ShownPair → List Event
amounts_events style patterns start_sign end_sign = pair_events (amounts_framed style patterns start_sign end_sign)

-- a formatter of numbers, the patterns of the three signs, and how ranges are written
pub record AmountRangeFormat (F : Type 0) : Type 0 where
  pub formatter : F
  pub patterns : Signed
  pub style : RangeStyle
