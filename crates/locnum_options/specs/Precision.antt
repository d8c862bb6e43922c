-- How fine numbers are: fraction digits, significant digits, or multiples of an increment.
use Rattle.std.specs.Prelude.{ℕ, ◌==◌, Bool, ◌&&◌, ◌||◌, nat_le, List, ◌++◌, Option, Some, None, Result, Ok, Err, codes}
use Rattle.std.specs.Prelude.{if◌then◌else◌}
use Rattle.std.specs.List.{list_all}
use Rattle.number_skeleton.specs.Tokens.{skeleton_of}
use Rattle.number_skeleton.specs.declared.fault.SkeletonFault.{SkeletonFault}
use Rattle.skeleton_settings.specs.Settings.{SkeletonData}
use Rattle.skeleton_settings.specs.declared.settings.Precision.{Precision}
use Rattle.skeleton_settings.specs.declared.settings.Precision.TheVariants.{Fraction, Significant}
use Rattle.locnum_options.specs.Counts.{counts_named}
use Rattle.locnum_options.specs.Given.{flag_of, text_of}
use Rattle.locnum_options.specs.Kinds.{◌>>=◌}
use Rattle.locnum_options.specs.Words.{ok_or}
use Rattle.locnum_options.specs.declared.counts.Counts.{Counts}
use Rattle.locnum_options.specs.declared.fault.OptionFault.{OptionFault}
use Rattle.locnum_options.specs.declared.fault.OptionFault.TheVariants as fault
use Rattle.locnum_options.specs.declared.given.Given.{Given}

-- fraction digits between two counts; not given by default
unfoldable pub fraction_given : Option (List ℕ) → Result (Option Precision) OptionFault
fraction_given None = Ok None
fraction_given (Some text) = do
  counts ← ok_or (counts_named text) fault.Fraction
  Ok (Some (Fraction counts.least (Some counts.most)))

-- significant digits between two counts, the least of which is 1 or more
unfoldable pub significant_of : Counts → Result Precision OptionFault
significant_of counts = if counts.least == 0 then Err fault.Significant else Ok (Significant counts.least (Some counts.most))

-- significant digits between two counts; not given by default
unfoldable pub significant_given : Option (List ℕ) → Result (Option Precision) OptionFault
significant_given None = Ok None
significant_given (Some text) = do
  counts ← ok_or (counts_named text) fault.Significant
  precision ← significant_of counts
  Ok (Some precision)

-- a digit or a point
abbrev pub is_number_byte : ℕ → Bool
is_number_byte byte = byte == 46 || (nat_le 48 byte && nat_le byte 57)

-- a text of digits and points alone
unfoldable pub is_number_text : List ℕ → Bool
is_number_text text = list_all is_number_byte text

-- the precision that a skeleton sets, if it sets one
abbrev pub precision_set : Result SkeletonData SkeletonFault → Option Precision
precision_set (Ok skeleton) = skeleton.precision
precision_set (Err fault) = None

-- the increment of a text as number skeletons have it
unfoldable pub increment_read : List ℕ → Option Precision
increment_read text = precision_set (skeleton_of (codes "precision-increment/" ++ text))

-- the increment of a text
unfoldable pub increment_named : List ℕ → Result Precision OptionFault
increment_named text = if is_number_text text then ok_or (increment_read text) fault.Increment else Err fault.Increment

-- multiples of an increment; not given by default
unfoldable pub increment_given : Option (List ℕ) → Result (Option Precision) OptionFault
increment_given None = Ok None
increment_given (Some text) = do
  precision ← increment_named text
  Ok (Some precision)

-- more than one of the options that say how fine numbers are
unfoldable pub are_several : Given → Bool
are_several given =
    (flag_of given (codes "fraction")
    && (flag_of given (codes "significant") || flag_of given (codes "increment") || flag_of given (codes "cash")))
    || (flag_of given (codes "significant") && (flag_of given (codes "increment") || flag_of given (codes "cash")))
    || (flag_of given (codes "increment") && flag_of given (codes "cash"))

-- the first precision that there is
abbrev pub first_precision : Option Precision → Option Precision → Option Precision
first_precision None other = other
first_precision (Some precision) other = Some precision

-- the first precision that an option says; each of them is in order
unfoldable pub precision_named : Given → Result (Option Precision) OptionFault
precision_named given = do
  fraction ← fraction_given (text_of given (codes "fraction"))
  significant ← significant_given (text_of given (codes "significant"))
  increment ← increment_given (text_of given (codes "increment"))
  Ok (first_precision fraction (first_precision significant increment))

-- how fine numbers are, which one option says; by default as the kind has it
unfoldable pub precision_given : Given → Result (Option Precision) OptionFault
precision_given given = do
  precision ← precision_named given
  if are_several given then Err fault.Precisions else Ok precision
