-- How fine a precision is: the step at each magnitude, of which a significand is a multiple (UTS 35 Part 3; ICU's number
-- skeletons). Magnitudes are places, as that of a size.
use Rattle.std.specs.Prelude.{ℕ, ◌-◌, ◌^◌, min, max, Option, Some, None, pos, ⊤}
use Rattle.fixed_decimal.specs.declared.increments.RoundingIncrement.{RoundingIncrement}
use Rattle.fixed_decimal.specs.declared.increments.RoundingIncrement.TheVariants.{MultiplesOf1}
use Rattle.fixed_decimal.specs.Size.{finest, place, ten_to}
use Rattle.fixed_decimal.specs.Nearest.{IsMultiple}
use Rattle.fixed_decimal.specs.Increments.{unit_of}
use Rattle.skeleton_settings.specs.declared.settings.Precision.{Precision}
use Rattle.skeleton_settings.specs.declared.settings.Precision.TheVariants.{Fraction, Significant, Increment, Both, Currency}
use Rattle.skeleton_settings.specs.declared.settings.Priority.{Priority}
use Rattle.skeleton_settings.specs.declared.settings.Priority.TheVariants.{Relaxed, Strict}

-- the place of the last of that many digits below power 0; without a greatest count the place of the unit of sizes
abbrev pub fraction_place : Option ℕ → ℕ
fraction_place None = 0
fraction_place (Some most) = finest - most

-- the place of the last of that many significant digits, the first of which stands at place k
abbrev pub significant_place : Option ℕ → ℕ → ℕ
significant_place None k = 0
significant_place (Some most) k = k - (most - 1)

-- how many fraction digits stand for those of a currency that isn't known
abbrev pub unresolved : Option ℕ
unresolved = Some 2

-- of two places that of the finer step, or that of the coarser one
abbrev pub preferred_place : Priority → ℕ → ℕ → ℕ
preferred_place Relaxed a b = min a b
preferred_place Strict a b = max a b

-- The step at place k, never below the unit of sizes: of fraction digits ten to the place of the last one, of significant
-- digits too, of an increment its own unit. Where fraction digits stand beside significant ones it is the smaller or the
-- greater step, as the priority says.
abbrev pub step : Precision → ℕ → ℕ
step (Fraction least most) k = 10 ^ fraction_place most
step (Significant least most) k = 10 ^ significant_place most k
step (Increment increment power least) k = unit_of increment power
step (Currency is_cash) k = 10 ^ fraction_place unresolved
step (Both least most few many priority keeps_least) k = 10 ^ preferred_place priority (fraction_place most) (significant_place (Some many) k)

-- the place of that step, and its increment: the step is the increment times ten to the place
abbrev pub step_place : Precision → ℕ → ℕ
step_place (Fraction least most) k = fraction_place most
step_place (Significant least most) k = significant_place most k
step_place (Increment increment power least) k = place power
step_place (Currency is_cash) k = fraction_place unresolved
step_place (Both least most few many priority keeps_least) k = preferred_place priority (fraction_place most) (significant_place (Some many) k)

abbrev pub increment_of : Precision → RoundingIncrement
increment_of (Fraction least most) = MultiplesOf1
increment_of (Significant least most) = MultiplesOf1
increment_of (Increment increment power least) = increment
increment_of (Currency is_cash) = MultiplesOf1
increment_of (Both least most few many priority keeps_least) = MultiplesOf1

-- 1 is a multiple of the increment, if there is one; so are then all powers of ten from 1 on
abbrev pub DividesOne : Precision → Type 0
DividesOne (Fraction least most) = ⊤
DividesOne (Significant least most) = ⊤
DividesOne (Increment increment power least) = IsMultiple (unit_of increment power) (ten_to (pos 0))
DividesOne (Currency is_cash) = ⊤
DividesOne (Both least most few many priority keeps_least) = ⊤
