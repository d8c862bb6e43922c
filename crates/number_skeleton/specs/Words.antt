-- Words of a skeleton.
use Rattle.std.specs.Prelude.{ℕ, Bool, true, false, List, Some, Result, Ok, Err, codes, nat_eq, if◌then◌else◌}
use Rattle.std.specs.Cmp.Lexicographic.{pointwise}
use Rattle.fixed_decimal.specs.declared.modes.SignedRoundingMode.{SignedRoundingMode}
use Rattle.fixed_decimal.specs.declared.modes.SignedRoundingMode.TheVariants as mode
use Rattle.fixed_decimal.specs.declared.modes.UnsignedRoundingMode.TheVariants as unsigned_mode
use Rattle.fixed_decimal.specs.declared.signs.SignDisplay.{SignDisplay}
use Rattle.fixed_decimal.specs.declared.signs.SignDisplay.TheVariants as sign
use Rattle.number_skeleton.specs.declared.draft.Signs.{Signs}
use Rattle.number_skeleton.specs.declared.fault.FaultKind.{FaultKind}
use Rattle.number_skeleton.specs.declared.fault.FaultKind.TheVariants.{UnknownStem, LeftOut}
use Rattle.number_skeleton.specs.declared.fault.Thing.TheVariants as thing
use Rattle.skeleton_settings.specs.declared.settings.Grouping.{Grouping}
use Rattle.skeleton_settings.specs.declared.settings.Grouping.TheVariants as grouping
use Rattle.skeleton_settings.specs.declared.settings.Notation.TheVariants as notation
use Rattle.skeleton_settings.specs.declared.settings.UnitWidth.{UnitWidth}
use Rattle.skeleton_settings.specs.declared.settings.UnitWidth.TheVariants as width
use Rattle.number_skeleton.specs.declared.stems.Stem.{Stem}
use Rattle.number_skeleton.specs.declared.stems.Stem.TheVariants as stem

-- which signs are written, and whether in the form for accounting
abbrev pub signs_of : SignDisplay → Bool → Signs
signs_of display is_accounting = record { display = display; is_accounting = is_accounting }

-- the signs of a word behind `sign-`
unfoldable pub sign_named : List ℕ → Result Signs FaultKind
sign_named word =
    if pointwise nat_eq word (codes "auto") then Ok (signs_of sign.Auto false)
    else if pointwise nat_eq word (codes "always") then Ok (signs_of sign.Always false)
    else if pointwise nat_eq word (codes "never") then Ok (signs_of sign.Never false)
    else if pointwise nat_eq word (codes "except-zero") then Ok (signs_of sign.ExceptZero false)
    else if pointwise nat_eq word (codes "negative") then Ok (signs_of sign.Negative false)
    else if pointwise nat_eq word (codes "accounting") then Ok (signs_of sign.Auto true)
    else if pointwise nat_eq word (codes "accounting-always") then Ok (signs_of sign.Always true)
    else if pointwise nat_eq word (codes "accounting-except-zero") then Ok (signs_of sign.ExceptZero true)
    else if pointwise nat_eq word (codes "accounting-negative") then Ok (signs_of sign.Negative true)
    else Err UnknownStem

-- the grouping of a word behind `group-`
unfoldable pub grouping_named : List ℕ → Result Grouping FaultKind
grouping_named word =
    if pointwise nat_eq word (codes "off") then Ok grouping.Off
    else if pointwise nat_eq word (codes "min2") then Ok grouping.Min2
    else if pointwise nat_eq word (codes "auto") then Ok grouping.Auto
    else if pointwise nat_eq word (codes "on-aligned") then Ok grouping.OnAligned
    else if pointwise nat_eq word (codes "thousands") then Ok grouping.Thousands
    else Err UnknownStem

-- the rounding mode of a word behind `rounding-mode-`
unfoldable pub mode_named : List ℕ → Result SignedRoundingMode FaultKind
mode_named word =
    if pointwise nat_eq word (codes "ceiling") then Ok mode.Ceil
    else if pointwise nat_eq word (codes "floor") then Ok mode.Floor
    else if pointwise nat_eq word (codes "down") then Ok (mode.Unsigned unsigned_mode.Trunc)
    else if pointwise nat_eq word (codes "up") then Ok (mode.Unsigned unsigned_mode.Expand)
    else if pointwise nat_eq word (codes "half-even") then Ok (mode.Unsigned unsigned_mode.HalfEven)
    else if pointwise nat_eq word (codes "half-ceiling") then Ok mode.HalfCeil
    else if pointwise nat_eq word (codes "half-floor") then Ok mode.HalfFloor
    else if pointwise nat_eq word (codes "half-down") then Ok (mode.Unsigned unsigned_mode.HalfTrunc)
    else if pointwise nat_eq word (codes "half-up") then Ok (mode.Unsigned unsigned_mode.HalfExpand)
    else if pointwise nat_eq word (codes "half-odd") then Err (LeftOut thing.HalfOdd)
    else if pointwise nat_eq word (codes "unnecessary") then Err (LeftOut thing.Unnecessary)
    else Err UnknownStem

-- the width of a word behind `unit-width-`
unfoldable pub width_named : List ℕ → Result UnitWidth FaultKind
width_named word =
    if pointwise nat_eq word (codes "narrow") then Ok width.Narrow
    else if pointwise nat_eq word (codes "short") then Ok width.Short
    else if pointwise nat_eq word (codes "full-name") then Ok width.FullName
    else if pointwise nat_eq word (codes "iso-code") then Ok width.IsoCode
    else if pointwise nat_eq word (codes "hidden") then Ok width.Hidden
    else if pointwise nat_eq word (codes "formal") then Err (LeftOut thing.Formal)
    else if pointwise nat_eq word (codes "variant") then Err (LeftOut thing.Variant)
    else Err UnknownStem

-- the stem of a word behind `precision-`
unfoldable pub precision_named : List ℕ → Result Stem FaultKind
precision_named word =
    if pointwise nat_eq word (codes "integer") then Ok (stem.Fraction (record { least = 0; most = Some 0 }))
    else if pointwise nat_eq word (codes "unlimited") then Ok stem.Unlimited
    else if pointwise nat_eq word (codes "currency-standard") then Ok (stem.CurrencyPrecision false)
    else if pointwise nat_eq word (codes "currency-cash") then Ok (stem.CurrencyPrecision true)
    else if pointwise nat_eq word (codes "increment") then Ok stem.Increment
    else Err UnknownStem

-- concise stems of grouping and signs
unfoldable pub concise_stem : List ℕ → Result Stem FaultKind
concise_stem word =
    if pointwise nat_eq word (codes ",_") then Ok (stem.Grouping grouping.Off)
    else if pointwise nat_eq word (codes ",?") then Ok (stem.Grouping grouping.Min2)
    else if pointwise nat_eq word (codes ",!") then Ok (stem.Grouping grouping.OnAligned)
    else if pointwise nat_eq word (codes "+!") then Ok (stem.Sign (signs_of sign.Always false))
    else if pointwise nat_eq word (codes "+_") then Ok (stem.Sign (signs_of sign.Never false))
    else if pointwise nat_eq word (codes "+?") then Ok (stem.Sign (signs_of sign.ExceptZero false))
    else if pointwise nat_eq word (codes "+-") then Ok (stem.Sign (signs_of sign.Negative false))
    else if pointwise nat_eq word (codes "()") then Ok (stem.Sign (signs_of sign.Auto true))
    else if pointwise nat_eq word (codes "()!") then Ok (stem.Sign (signs_of sign.Always true))
    else if pointwise nat_eq word (codes "()?") then Ok (stem.Sign (signs_of sign.ExceptZero true))
    else if pointwise nat_eq word (codes "()-") then Ok (stem.Sign (signs_of sign.Negative true))
    else Err UnknownStem

-- stems that are one word and take no option
unfoldable pub plain_stem : List ℕ → Result Stem FaultKind
plain_stem word =
    if pointwise nat_eq word (codes "notation-simple") then Ok (stem.Notation notation.Simple)
    else if pointwise nat_eq word (codes "compact-short") then Ok (stem.Notation notation.CompactShort)
    else if pointwise nat_eq word (codes "K") then Ok (stem.Notation notation.CompactShort)
    else if pointwise nat_eq word (codes "compact-long") then Ok (stem.Notation notation.CompactLong)
    else if pointwise nat_eq word (codes "KK") then Ok (stem.Notation notation.CompactLong)
    else if pointwise nat_eq word (codes "base-unit") then Ok stem.BaseUnit
    else if pointwise nat_eq word (codes "percent") then Ok stem.Percent
    else if pointwise nat_eq word (codes "%") then Ok stem.Percent
    else if pointwise nat_eq word (codes "permille") then Ok stem.Permille
    else if pointwise nat_eq word (codes "%x100") then Ok stem.PercentTimesHundred
    else if pointwise nat_eq word (codes "latin") then Ok stem.Latin
    else if pointwise nat_eq word (codes "decimal-auto") then Ok stem.DecimalAuto
    else Err UnknownStem

-- stems that need an option, and those that are left out
unfoldable pub option_stem : List ℕ → Result Stem FaultKind
option_stem word =
    if pointwise nat_eq word (codes "currency") then Ok stem.Currency
    else if pointwise nat_eq word (codes "unit") then Ok stem.UnitName
    else if pointwise nat_eq word (codes "numbering-system") then Ok stem.System
    else if pointwise nat_eq word (codes "scale") then Ok stem.Scale
    else if pointwise nat_eq word (codes "integer-width") then Ok stem.IntegerWidth
    else if pointwise nat_eq word (codes "integer-width-trunc") then Err (LeftOut thing.IntegerCutOff)
    else if pointwise nat_eq word (codes "scientific") then Err (LeftOut thing.Scientific)
    else if pointwise nat_eq word (codes "engineering") then Err (LeftOut thing.Engineering)
    else if pointwise nat_eq word (codes "decimal-always") then Err (LeftOut thing.DecimalAlways)
    else if pointwise nat_eq word (codes "measure-unit") then Err (LeftOut thing.MeasureUnit)
    else if pointwise nat_eq word (codes "per-measure-unit") then Err (LeftOut thing.PerMeasureUnit)
    else if pointwise nat_eq word (codes "usage") then Err (LeftOut thing.Usage)
    else Err UnknownStem
