-- What calls with ranges leave, by their status: a formatter that writes ranges, or the text of a range.
use Rattle.std.specs.Prelude.{◌≡◌, ℕ, ◌⊎◌, List, Option, Some, None, Result, Ok, Err}
use Rattle.writeable.specs.Events.{Event, text_of}
use Rattle.decimal_lines.specs.SingleText.{HoldsIfRoom}
use Rattle.decimal_lines.specs.declared.single_text.TextError.{TextError}
use Rattle.decimal_lines.specs.declared.single_text.TextError.TheVariants as refusal
use Rattle.icu_ranges.specs.declared.options.RangeIdentityFallback.TheVariants.{Approximately}
use Rattle.icu_unit_ranges.specs.PluralStyle.{PluralStyle}
use Rattle.number_formatters.specs.Settings.{FormSettings}
use Rattle.number_forms.specs.Forms.{FormData}
use Rattle.number_forms.specs.declared.error.StartError.{StartError}
use Rattle.number_ranges.specs.ByCategory.{range_events}
use Rattle.number_ranges.specs.declared.error.RangeTextError.{RangeTextError}
use Rattle.number_ranges.specs.declared.error.RangeTextError.TheVariants as range
use Rattle.talmuiga_c.specs.Endings.{IsUntouched, done, out_of_memory}
use Rattle.talmuiga_c.specs.Handle.{empty, holding}
use Rattle.talmuiga_c.specs.Kept.{text_status}
use Rattle.talmuiga_c.specs.LocaleRanges.{ranges_asked}
use Rattle.talmuiga_c.specs.Patterns.{no_pattern, pattern_status}
use Rattle.talmuiga_c.specs.SkeletonFaults.{no_fault}
use Rattle.talmuiga_c.specs.Skeletons.{IsPut, form_asked, form_status, settings_asked}
use Rattle.talmuiga_c.specs.declared.fault.Fault.{Fault}
use Rattle.talmuiga_c.specs.declared.held.Held.{Held}
use Rattle.talmuiga_c.specs.declared.kept.Kept.{Kept}
use Rattle.talmuiga_c.specs.declared.kept.Kept.TheVariants.{ByWords, BySkeleton, WithRanges}
use Rattle.talmuiga_c.specs.declared.locale_ranges.LocaleRanges.{LocaleRanges}
use Rattle.talmuiga_c.specs.declared.skeletons.Rejected.{Rejected}

-- The formatter has the form and the ranges that are asked for, or nothing. The form is judged first, and then the ranges; out of
-- memory may come in place of each.
abbrev pub OpensBoth : Result FormData StartError → Result LocaleRanges StartError → Option (Option Held) → ℕ → Type 0
OpensBoth (Ok form) (Ok ranges) held status =
    ((held ≡ holding (WithRanges form ranges)) × (status ≡ done)) ⊎ ((held ≡ empty) × (status ≡ out_of_memory))
OpensBoth (Ok form) (Err error) held status = (held ≡ empty) × ((status ≡ pattern_status error) ⊎ (status ≡ out_of_memory))
OpensBoth (Err error) ranges held status = (held ≡ empty) × ((status ≡ form_status error) ⊎ (status ≡ out_of_memory))

-- by what is asked for: where nothing is, nothing else comes in place of its status, and else there is no fault
abbrev pub OpensRangesAsked : Result FormSettings Rejected → List ℕ → Option (Option Held) → Fault → ℕ → Type 0
OpensRangesAsked (Ok settings) tables held fault status =
    (fault ≡ no_fault) × OpensBoth (form_asked settings tables) (ranges_asked settings tables) held status
OpensRangesAsked (Err rejected) tables held fault status = (held ≡ empty) × ((fault ≡ rejected.fault) × (status ≡ rejected.status))

-- by the bytes of a locale and of a skeleton
abbrev pub OpensRanges : List ℕ → List ℕ → List ℕ → Option (Option Held) → Fault → ℕ → Type 0
OpensRanges locale skeleton tables held fault status = OpensRangesAsked (settings_asked locale skeleton) tables held fault status

-- the start is above the end
abbrev pub descending : ℕ
descending = 11

-- the end isn't a decimal, has too many digits, or has no number to show that is within the limits
abbrev pub end_not_decimal : ℕ
end_not_decimal = 12

abbrev pub end_too_many_digits : ℕ
end_too_many_digits = 13

abbrev pub end_overflow : ℕ
end_overflow = 14

-- that of an end that isn't shown; of a start it is the status of one number
abbrev pub end_status : TextError → ℕ
end_status refusal.NotDecimal = end_not_decimal
end_status refusal.TooManyDigits = end_too_many_digits
end_status refusal.Overflow = end_overflow
end_status refusal.OutOfMemory = out_of_memory

-- that of a range that isn't written
abbrev pub range_status : RangeTextError → ℕ
range_status (range.Start error) = text_status error
range_status (range.End error) = end_status error
range_status range.Descending = descending
range_status range.OutOfMemory = out_of_memory

-- the ranges of a locale, where one of two equal texts is written, with the approximately sign
abbrev pub style_of : LocaleRanges → PluralStyle
style_of ranges = record {
  style = record { separator = ranges.pattern; fallback = Approximately };
  plural_ranges = ranges.plural_ranges;
}

-- what a formatter writes for a range, if it writes ranges
abbrev pub kept_range : Kept → List ℕ → List ℕ → Option (Result (List Event) RangeTextError)
kept_range (ByWords mode) start end = None
kept_range (BySkeleton form) start end = None
kept_range (WithRanges form ranges) start end = Some (range_events form (style_of ranges) start end)

-- an output holds the text of a range of n bytes at its front if it fits, and else what it held before
abbrev pub HoldsRange : Result (List Event) RangeTextError → List ℕ → List ℕ → ℕ → Type 0
HoldsRange (Ok events) old new n = HoldsIfRoom old new (text_of events) n
HoldsRange (Err error) old new n = ⊥

-- The text of a range is written if it has room, and its length is returned; or nothing is. Out of memory may come in place of both.
abbrev pub RangeOf : Result (List Event) RangeTextError → List ℕ → List ℕ → ℕ → ℕ → Type 0
RangeOf (Ok events) old new n status = IsPut (text_of events) old new n status ⊎ (IsUntouched old new n × (status ≡ out_of_memory))
RangeOf (Err error) old new n status = IsUntouched old new n × ((status ≡ range_status error) ⊎ (status ≡ out_of_memory))

-- the same, where a formatter that writes no ranges has one status for all
abbrev pub RangeIn : Option (Result (List Event) RangeTextError) → List ℕ → List ℕ → ℕ → ℕ → Type 0
RangeIn None old new n status = IsUntouched old new n × (status ≡ no_pattern)
RangeIn (Some written) old new n status = RangeOf written old new n status

-- the range of two texts by a formatter
abbrev pub IsRange : Kept → List ℕ → List ℕ → List ℕ → List ℕ → ℕ → ℕ → Type 0
IsRange kept start end old new n status = RangeIn (kept_range kept start end) old new n status
