-- The power of ten by which numbers are multiplied.
use Rattle.std.specs.Prelude.{ℕ, ℤ, pos, Bool, List, ◌++◌, Option, Some, None, Result, Ok, Err, codes, if◌then◌else◌}
use Rattle.number_skeleton.specs.Tokens.{skeleton_of}
use Rattle.number_skeleton.specs.declared.fault.SkeletonFault.{SkeletonFault}
use Rattle.skeleton_settings.specs.Settings.{SkeletonData}
use Rattle.locnum_options.specs.Given.{flag_of, text_of}
use Rattle.locnum_options.specs.Precision.{is_number_text}
use Rattle.locnum_options.specs.Words.{ok_or}
use Rattle.locnum_options.specs.declared.fault.OptionFault.{OptionFault}
use Rattle.locnum_options.specs.declared.fault.OptionFault.TheVariants as fault
use Rattle.locnum_options.specs.declared.given.Given.{Given}

-- the power that a skeleton sets
abbrev pub scale_set : Result SkeletonData SkeletonFault → Option ℤ
scale_set (Ok skeleton) = Some skeleton.scale
scale_set (Err fault) = None

-- the power of a text as number skeletons have it
unfoldable pub scale_read : List ℕ → Option ℤ
scale_read text = scale_set (skeleton_of (codes "scale/" ++ text))

-- the power of a text
unfoldable pub scale_named : List ℕ → Result ℤ OptionFault
scale_named text = if is_number_text text then ok_or (scale_read text) fault.Scale else Err fault.Scale

-- the power without the option: percents are hundredths, permilles are thousandths
abbrev pub default_scale : Bool → Bool → ℤ
default_scale is_percent is_permille = if is_percent then pos 2 else (if is_permille then pos 3 else pos 0)

-- the power by the option's text, or else by whether percents or permilles are asked for
abbrev pub scale_by : Option (List ℕ) → Bool → Bool → Result ℤ OptionFault
scale_by (Some text) is_percent is_permille = scale_named text
scale_by None is_percent is_permille = Ok (default_scale is_percent is_permille)

-- the power of ten by which numbers are multiplied
unfoldable pub scale_given : Given → Result ℤ OptionFault
scale_given given = scale_by (text_of given (codes "scale")) (flag_of given (codes "percent")) (flag_of given (codes "permille"))
