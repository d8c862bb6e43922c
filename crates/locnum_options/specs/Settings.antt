-- The form of numbers: by a skeleton, or by the options for numbers.
use Rattle.std.specs.Prelude.{◌≡◌, ℕ, Bool, false, not, ◌&&◌, List, Option, Some, None, Result, Ok, Err, codes, option_map}
use Rattle.std.specs.Prelude.{if◌then◌else◌}
use Rattle.number_formatters.specs.Settings.{FormSettings}
use Rattle.number_formatters.specs.Skeleton.{settings_of}
use Rattle.number_formatters.specs.declared.skeleton.Unsupported.{Unsupported}
use Rattle.number_skeleton.specs.Data.{read}
use Rattle.number_skeleton.specs.Tokens.{skeleton_of}
use Rattle.number_skeleton.specs.declared.fault.SkeletonFault.{SkeletonFault}
use Rattle.skeleton_settings.specs.declared.settings.Precision.{Precision}
use Rattle.skeleton_settings.specs.declared.settings.Precision.TheVariants.{Fraction}
use Rattle.skeleton_settings.specs.declared.settings.Skeleton.{Skeleton}
use Rattle.locnum_options.specs.Beside.{option_beside}
use Rattle.locnum_options.specs.Given.{flag_of, text_of}
use Rattle.locnum_options.specs.Integer.{integer_given}
use Rattle.locnum_options.specs.Kinds.{◌>>=◌, kind_given}
use Rattle.locnum_options.specs.Precision.{precision_given}
use Rattle.locnum_options.specs.Rounding.{is_compact_kind, judged_mode, mode_given}
use Rattle.locnum_options.specs.Scale.{scale_given}
use Rattle.locnum_options.specs.Words.{system_given, grouping_given, sign_given}
use Rattle.locnum_options.specs.declared.beside.NumberOption.{NumberOption}
use Rattle.locnum_options.specs.declared.fault.OptionFault.{OptionFault}
use Rattle.locnum_options.specs.declared.fault.OptionFault.TheVariants as fault
use Rattle.locnum_options.specs.declared.given.Given.{Given}

-- This was read of the text of the skeleton that is given, if one is; the name of a unit is lent from the text.
abbrev pub IsReadOf : Given → Option (Result Skeleton SkeletonFault) → Type 0
IsReadOf given skeleton = option_map read skeleton ≡ option_map skeleton_of (text_of given (codes "skeleton"))

-- no fraction digit is cut off: integer digits are asked for, and neither a currency nor the style says how fine numbers are
unfoldable pub is_unlimited : Given → Bool → Bool
is_unlimited given compact = flag_of given (codes "integer") && not (flag_of given (codes "currency")) && not compact

-- how fine numbers are, which an option says first
abbrev pub precision_or_unlimited : Option Precision → Bool → Option Precision
precision_or_unlimited (Some precision) unlimited = Some precision
precision_or_unlimited None unlimited = if unlimited then Some (Fraction 0 None) else None

-- the form of numbers that the options for numbers ask for, or the first fault
unfoldable pub number_settings : List ℕ → Given → Result FormSettings OptionFault
number_settings locale given = do
  system ← system_given (text_of given (codes "system"))
  grouping ← grouping_given (text_of given (codes "grouping"))
  precision ← precision_given given
  mode ← mode_given (text_of given (codes "round"))
  integer_digits ← integer_given (text_of given (codes "integer"))
  scale ← scale_given given
  sign ← sign_given (text_of given (codes "sign"))
  kind ← kind_given given
  mode ← judged_mode given (is_compact_kind kind) precision mode
  Ok (record {
    locale = locale;
    system = system;
    grouping = grouping;
    precision = precision_or_unlimited precision (is_unlimited given (is_compact_kind kind));
    mode = mode;
    hides_zeros_of_whole = false;
    integer_digits = integer_digits;
    scale = scale;
    sign = sign;
    kind = kind;
  })

-- no option for numbers stands beside the skeleton
abbrev pub alone : Option NumberOption → Result Skeleton SkeletonFault → Result Skeleton OptionFault
alone (Some option) skeleton = Err (fault.BesideSkeleton option)
alone None (Ok skeleton) = Ok skeleton
alone None (Err error) = Err (fault.Skeleton error)

-- what forms have of the skeleton
abbrev pub supported : Result FormSettings Unsupported → Result FormSettings OptionFault
supported (Ok settings) = Ok settings
supported (Err part) = Err (fault.Unsupported part)

-- the form of numbers that the skeleton asks for, or the first fault
unfoldable pub skeleton_settings : List ℕ → Result Skeleton SkeletonFault → Given → Result FormSettings OptionFault
skeleton_settings locale result given = do
  skeleton ← alone (option_beside given) result
  supported (settings_of locale skeleton)

-- by the skeleton where one is given, else by the options for numbers
unfoldable pub settings_given : List ℕ → Option (Result Skeleton SkeletonFault) → Given → Result FormSettings OptionFault
settings_given locale (Some skeleton) given = skeleton_settings locale skeleton given
settings_given locale None given = number_settings locale given
