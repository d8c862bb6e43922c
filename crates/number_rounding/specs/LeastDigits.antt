-- How many digits below power 0 a shown significand has at least (UTS 35 Part 3; ICU's number skeletons): by the precision
-- and the significand that is shown, whatever was rounded to it.
use Rattle.std.specs.Prelude.{ℕ, ◌+◌, ◌-◌, Bool, true, false, Some, nat_le, if◌then◌else◌}
use Rattle.fixed_decimal.specs.Size.{finest, magnitude_place}
use Rattle.skeleton_settings.specs.declared.settings.Precision.{Precision}
use Rattle.skeleton_settings.specs.declared.settings.Precision.TheVariants.{Fraction, Significant, Increment, Both, Currency}
use Rattle.skeleton_settings.specs.declared.settings.Priority.{Priority}
use Rattle.skeleton_settings.specs.declared.settings.Priority.TheVariants.{Relaxed, Strict}
use Rattle.number_rounding.specs.Steps.{fraction_place, significant_place}

-- how many of that many significant digits, the first of which stands at place k, stand below power 0
abbrev pub significant_below : ℕ → ℕ → ℕ
significant_below few k = (few + finest) - (k + 1)

-- Of the least counts of both kinds of digits, that of the kind whose step is chosen at place k: the finer step, or the
-- coarser one. Of two equal steps that of significant digits counts as the finer.
abbrev pub chosen_least : Priority → Bool → ℕ → ℕ → ℕ
chosen_least Relaxed is_finer significant fraction = if is_finer then significant else fraction
chosen_least Strict is_finer significant fraction = if is_finer then fraction else significant

-- the least count for a significand of a size
abbrev pub least_digits : Precision → ℕ → ℕ
least_digits (Fraction least most) s = least
least_digits (Significant least most) s = significant_below least (magnitude_place s)
least_digits (Increment increment power least) s = least
least_digits (Currency is_cash) s = 2
least_digits (Both least most few many priority true) s = least
least_digits (Both least most few many priority false) s =
    chosen_least priority (nat_le (significant_place (Some many) (magnitude_place s)) (fraction_place most))
    (significant_below few (magnitude_place s)) least
