-- What holds of ranges: the contracts of the functions of `laws`.
use Rattle.std.specs.Prelude.{◌≡◌, ◌≢◌, ℤ, pos, ◌-ℤ◌, ◌<ℤ◌, List, if◌then◌else◌}
use Rattle.fixed_decimal.specs.declared.signs.Sign.{Sign}
use Rattle.fixed_decimal.specs.SignDisplay.{is_negative}
use Rattle.writeable.specs.Events.{Event, text_of}
use Rattle.icu_decimal_interface.specs.Shown.{Shown, size_shown}
use Rattle.icu_ranges.specs.declared.options.RangeIdentityFallback.TheVariants.{SingleValue, Approximately}
use Rattle.icu_ranges.specs.Approximately.{approximated}
use Rattle.icu_ranges.specs.Joined.{joined}
use Rattle.icu_ranges.specs.Order.{Ends}
use Rattle.icu_ranges.specs.Ranges.{range_of}
use Rattle.icu_ranges.specs.Separator.{Separator}

-- the size that is shown, below zero where the number has a minus
abbrev pub signed_shown : Sign → Shown → ℤ
signed_shown sign n = if is_negative sign then pos 0 -ℤ pos (size_shown n) else pos (size_shown n)

-- what is shown of the start is above what is shown of the end
abbrev pub IsShownAbove : Ends → Shown → Shown → Type 0
IsShownAbove r n m = signed_shown r.end.sign m <ℤ signed_shown r.start.sign n

-- equal texts are written once, and others are joined
abbrev pub IdentityIsEqualTexts : Type 0
IdentityIsEqualTexts = (separator : Separator) (es fs : List Event) →
    (text_of es ≡ text_of fs → range_of (record { separator = separator; fallback = SingleValue }) es fs ≡ es)
    × (text_of es ≢ text_of fs → range_of (record { separator = separator; fallback = SingleValue }) es fs ≡ joined separator es fs)

-- equal texts are written once, with the approximately sign in front, and others are joined
abbrev pub ApproximatelyIsForEqualTexts : Type 0
ApproximatelyIsForEqualTexts = (separator : Separator) (es fs : List Event) →
    (text_of es ≡ text_of fs →
    range_of (record { separator = separator; fallback = Approximately }) es fs ≡ approximated separator.approximately es)
    × (text_of es ≢ text_of fs → range_of (record { separator = separator; fallback = Approximately }) es fs ≡ joined separator es fs)
