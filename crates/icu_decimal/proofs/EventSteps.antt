-- The events of digits and of fractions, step by step.
use Rattle.std.proofs.Common.{◌≡◌, ℕ, ◌<◌, List, [], ◌∷◌, ◌++◌, length, refl, sym, arith, codes, Option, Some, None, true, false}
use Rattle.std.proofs.Common.{append-nil}
use Rattle.writeable.specs.Events.{Event, text_events, digit_events}
use Rattle.icu_decimal.specs.Decimal.{DecimalFormat, fraction_events, grouped_events, group_events, separator_events, strategy_of}
use Rattle.icu_decimal_options.specs.Grouping.{is_grouped, cut, joined, secondary_size}
use Rattle.icu_decimal.specs.Part.{in_decimal_part}
use Rattle.icu_decimal.specs.Signed.{Affixes, affixed_events, prefix_events, suffix_events}

-- the events of a fraction with a digit
pub fraction_some : (format : DecimalFormat) (ds : List ℕ) → 0 < length ds →
    fraction_events format ds ≡ in_decimal_part (codes "decimal") (text_events format.symbols.strings.decimal_separator)
    ++ in_decimal_part (codes "fraction") (digit_events format.digits ds)
fraction_some format [] h = absurd (omega arith)
fraction_some format (d ∷ ds) h = refl

-- digits that are not grouped are one group
pub grouped-whole : (format : DecimalFormat) (ds : List ℕ) → is_grouped (length ds) format.symbols.grouping_sizes (strategy_of format.options) ≡ false →
    grouped_events format ds ≡ digit_events format.digits ds
grouped-whole format ds e = rw e (append-nil (digit_events format.digits ds))

-- digits that are grouped are cut
pub grouped-cut : (format : DecimalFormat) (ds : List ℕ) → is_grouped (length ds) format.symbols.grouping_sizes (strategy_of format.options) ≡ true →
    grouped_events format ds ≡ joined (separator_events format)
    (group_events format.digits (cut format.symbols.grouping_sizes.primary (secondary_size format.symbols.grouping_sizes) ds))
grouped-cut format ds e = rw e refl

-- a value between what stands before and after it
pub affixed-between : (affixes : Option Affixes) (es : List Event) → affixed_events affixes es ≡ prefix_events affixes ++ (es ++ suffix_events affixes)
affixed-between None es = sym (append-nil es)
affixed-between (Some affixes) es = refl
