-- How ranges are written whose pattern depends on their plural category.
use Rattle.std.specs.Prelude.{List, if◌then◌else◌}
use Rattle.writeable.specs.Events.{Event}
use Rattle.icu_dimension.specs.PluralFormat.{PluralFormat}
use Rattle.icu_ranges.specs.declared.options.RangeIdentityFallback.{RangeIdentityFallback}
use Rattle.icu_ranges.specs.declared.plural_ranges.PluralRange.{PluralRange}
use Rattle.icu_ranges.specs.Ranges.{RangeStyle, is_single, single_of}

-- the separator, what is written where both texts are equal, and the categories of ranges
pub record PluralStyle : Type 0 where
  pub style : RangeStyle
  pub plural_ranges : List PluralRange

-- the first text alone, where both are written as one, or what is written for it with the approximately sign; else what is written
-- for both
abbrev pub first_or : RangeIdentityFallback → List Event → List Event → List Event → List Event → List Event
first_or fallback first second approximate both = if is_single fallback first second then single_of fallback first approximate else both

-- a formatter of single numbers, and how ranges of them are written
pub record PluralRangeFormat (F T : Type 0) : Type 0 where
  pub single : PluralFormat F T
  pub style : PluralStyle
