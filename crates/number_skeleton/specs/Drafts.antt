-- What tokens set together.
use Rattle.std.specs.Prelude.{ℕ, ℤ, pos, negsuc, Bool, false, true, ◌+◌, ◌&&◌, nat_lt, Option, Some, None, option_map}
use Rattle.std.specs.Option.{is_some, option_or}
use Rattle.fixed_decimal.specs.declared.increments.RoundingIncrement.{RoundingIncrement}
use Rattle.fixed_decimal.specs.declared.increments.RoundingIncrement.TheVariants as increment
use Rattle.fixed_decimal.specs.declared.modes.SignedRoundingMode.TheVariants as mode
use Rattle.fixed_decimal.specs.declared.modes.UnsignedRoundingMode.TheVariants as unsigned_mode
use Rattle.fixed_decimal.specs.declared.signs.SignDisplay.TheVariants as sign
use Rattle.number_skeleton.specs.declared.draft.Digits.{Digits}
use Rattle.number_skeleton.specs.declared.draft.Signs.{Signs}
use Rattle.number_skeleton.specs.declared.fault.Setting.{Setting}
use Rattle.number_skeleton.specs.declared.fault.Setting.TheVariants as setting
use Rattle.skeleton_settings.specs.declared.settings.Notation.{Notation}
use Rattle.skeleton_settings.specs.declared.settings.Notation.TheVariants as notation
use Rattle.skeleton_settings.specs.declared.settings.Precision.{Precision}
use Rattle.skeleton_settings.specs.declared.settings.Precision.TheVariants as precision
use Rattle.skeleton_settings.specs.declared.settings.UnitWidth.TheVariants as width
use Rattle.skeleton_settings.specs.Settings.{SkeletonData, nothing}
use Rattle.number_skeleton.specs.Data.{DraftData}

-- what either of two drafts sets
abbrev pub merged : DraftData → DraftData → DraftData
merged d e = record {
  notation = option_or e.notation d.notation;
  unit = option_or e.unit d.unit;
  width = option_or e.width d.width;
  digits = option_or e.digits d.digits;
  mode = option_or e.mode d.mode;
  integer_digits = option_or e.integer_digits d.integer_digits;
  scale = option_or e.scale d.scale;
  grouping = option_or e.grouping d.grouping;
  system = option_or e.system d.system;
  signs = option_or e.signs d.signs;
  decimal = option_or e.decimal d.decimal;
}

-- it is set already
abbrev pub is_set : DraftData → Setting → Bool
is_set d setting.Notation = is_some d.notation
is_set d setting.Unit = is_some d.unit
is_set d setting.Width = is_some d.width
is_set d setting.Precision = is_some d.digits
is_set d setting.Mode = is_some d.mode
is_set d setting.IntegerWidth = is_some d.integer_digits
is_set d setting.Scale = is_some d.scale
is_set d setting.Grouping = is_some d.grouping
is_set d setting.System = is_some d.system
is_set d setting.Sign = is_some d.signs
is_set d setting.Decimal = is_some d.decimal

-- what is set, or this
abbrev pub or_else : {A : Type 0} → Option A → A → A
or_else None x = x
or_else (Some y) x = y

abbrev pub digits_precision : Digits → Precision
digits_precision digits = digits.precision

abbrev pub hides_zeros : Option Digits → Bool
hides_zeros None = false
hides_zeros (Some digits) = digits.hides_zeros_of_whole

abbrev pub default_signs : Signs
default_signs = record { display = sign.Auto; is_accounting = false }

-- the settings, with defaults
abbrev pub finished : DraftData → SkeletonData
finished d = record {
  notation = or_else d.notation notation.Simple;
  unit = or_else d.unit nothing;
  width = or_else d.width width.Short;
  precision = option_map digits_precision d.digits;
  hides_zeros_of_whole = hides_zeros d.digits;
  mode = or_else d.mode (mode.Unsigned unsigned_mode.HalfEven);
  integer_digits = or_else d.integer_digits 1;
  scale = or_else d.scale (pos 0);
  grouping = d.grouping;
  system = d.system;
  sign = (or_else d.signs default_signs).display;
  is_accounting = (or_else d.signs default_signs).is_accounting;
}

-- how many fraction digits an increment needs at least to divide 1
abbrev pub places_of : RoundingIncrement → ℕ
places_of increment.MultiplesOf1 = 0
places_of increment.MultiplesOf2 = 1
places_of increment.MultiplesOf5 = 1
places_of increment.MultiplesOf25 = 2

-- 1 is no multiple of an increment times ten to the power
abbrev pub has_no_multiple : RoundingIncrement → ℤ → Bool
has_no_multiple increment (pos n) = nat_lt 0 (n + places_of increment)
has_no_multiple increment (negsuc n) = nat_lt (n + 1) (places_of increment)

abbrev pub is_compact : Option Notation → Bool
is_compact None = false
is_compact (Some notation.Simple) = false
is_compact (Some notation.CompactShort) = true
is_compact (Some notation.CompactLong) = true

-- it is such an increment
abbrev pub is_no_divisor : Precision → Bool
is_no_divisor (precision.Increment increment power least) = has_no_multiple increment power
is_no_divisor (precision.Fraction least most) = false
is_no_divisor (precision.Significant least most) = false
is_no_divisor (precision.Both least most few many priority keeps_least) = false
is_no_divisor (precision.Currency is_cash) = false

abbrev pub are_no_divisor : Option Digits → Bool
are_no_divisor None = false
are_no_divisor (Some digits) = is_no_divisor digits.precision

-- in compact notation 1 is no multiple of the increment
abbrev pub is_increment_of_compact : DraftData → Bool
is_increment_of_compact d = is_compact d.notation && are_no_divisor d.digits
