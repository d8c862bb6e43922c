-- Which number is taken where a number is rounded, and where nothing is rounded.
use Rattle.std.specs.Prelude.{ℕ, Bool, true, false, not, ◌&&◌, ◌||◌, List, Option, Some, None, Result, Ok, Err, codes, nat_eq}
use Rattle.std.specs.Prelude.{if◌then◌else◌}
use Rattle.std.specs.Cmp.Lexicographic.{pointwise}
use Rattle.fixed_decimal.specs.declared.modes.SignedRoundingMode.{SignedRoundingMode}
use Rattle.fixed_decimal.specs.declared.modes.SignedRoundingMode.TheVariants as signed
use Rattle.fixed_decimal.specs.declared.modes.UnsignedRoundingMode.TheVariants as unsigned
use Rattle.number_formatters.specs.declared.settings.Kind.{Kind}
use Rattle.number_formatters.specs.declared.settings.Kind.TheVariants.{Plain, Short, Long, Money, MoneyNamed, MoneyShort, Percent, Permille, Unit}
use Rattle.number_forms.specs.Shortened.{divides_one}
use Rattle.skeleton_settings.specs.declared.settings.Precision.{Precision}
use Rattle.locnum_options.specs.Given.{flag_of}
use Rattle.locnum_options.specs.Kinds.{is_simple}
use Rattle.locnum_options.specs.declared.fault.OptionFault.{OptionFault}
use Rattle.locnum_options.specs.declared.fault.OptionFault.TheVariants as fault
use Rattle.locnum_options.specs.declared.given.Given.{Given}

-- the mode of a word that begins with `half-`
unfoldable pub half_mode_named : List ℕ → Result SignedRoundingMode OptionFault
half_mode_named word =
    if pointwise nat_eq word (codes "half-even") then Ok (signed.Unsigned unsigned.HalfEven)
    else if pointwise nat_eq word (codes "half-up") then Ok (signed.Unsigned unsigned.HalfExpand)
    else if pointwise nat_eq word (codes "half-down") then Ok (signed.Unsigned unsigned.HalfTrunc)
    else if pointwise nat_eq word (codes "half-ceiling") then Ok signed.HalfCeil
    else if pointwise nat_eq word (codes "half-floor") then Ok signed.HalfFloor
    else Err fault.Round

-- the mode of a word: up is away from zero, and down towards zero
unfoldable pub mode_named : List ℕ → Result SignedRoundingMode OptionFault
mode_named word =
    if pointwise nat_eq word (codes "up") then Ok (signed.Unsigned unsigned.Expand)
    else if pointwise nat_eq word (codes "down") then Ok (signed.Unsigned unsigned.Trunc)
    else if pointwise nat_eq word (codes "ceiling") then Ok signed.Ceil
    else if pointwise nat_eq word (codes "floor") then Ok signed.Floor
    else half_mode_named word

-- which number is taken; the nearest, and of two equally near the even one, by default
unfoldable pub mode_given : Option (List ℕ) → Result SignedRoundingMode OptionFault
mode_given None = Ok (signed.Unsigned unsigned.HalfEven)
mode_given (Some word) = mode_named word

-- the numbers of a kind are compact
abbrev pub is_compact_kind : Kind → Bool
is_compact_kind Plain = false
is_compact_kind Short = true
is_compact_kind Long = true
is_compact_kind (Money code width sign is_cash) = false
is_compact_kind (MoneyNamed code is_cash notation) = not (is_simple notation)
is_compact_kind (MoneyShort code width sign) = true
is_compact_kind Percent = false
is_compact_kind Permille = false
is_compact_kind (Unit unit width notation) = not (is_simple notation)

-- compact numbers have this increment: 1 is a multiple of it
abbrev pub is_compact_precision : Option Precision → Bool
is_compact_precision None = true
is_compact_precision (Some precision) = divides_one precision

-- numbers are rounded: they are compact, an option says how fine they are, or a currency does
unfoldable pub is_rounded : Given → Bool → Bool
is_rounded given compact =
    compact || flag_of given (codes "fraction") || flag_of given (codes "significant") || flag_of given (codes "increment")
    || flag_of given (codes "currency")

-- compact numbers are asked for with an increment that they don't have
unfoldable pub is_large_increment : Bool → Option Precision → Bool
is_large_increment compact precision = compact && not (is_compact_precision precision)

-- A mode, unless an increment is asked for that compact numbers don't have, or a mode where nothing is rounded.
unfoldable pub judged_mode : Given → Bool → Option Precision → SignedRoundingMode → Result SignedRoundingMode OptionFault
judged_mode given compact precision mode =
    if is_large_increment compact precision then Err fault.CompactIncrement
    else if flag_of given (codes "round") && not (is_rounded given compact) then Err fault.NothingRounded
    else Ok mode
