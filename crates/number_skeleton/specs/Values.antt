-- What a stem and its options set.
use Rattle.std.specs.Prelude.{ℕ, Bool, true, false, ◌+◌, ◌&&◌, ◌==◌, List, Option, Some, None, Result, Ok, Err, codes, nat_eq, nat_lt}
use Rattle.std.specs.Prelude.{drop, get_or, length, if◌then◌else◌}
use Rattle.std.specs.Cmp.Lexicographic.{pointwise}
use Rattle.number_skeleton.specs.declared.fault.FaultKind.{FaultKind}
use Rattle.number_skeleton.specs.declared.fault.FaultKind.TheVariants.{TooManyDigits, BadOption}
use Rattle.number_skeleton.specs.declared.fault.SkeletonFault.{SkeletonFault}
use Rattle.skeleton_settings.specs.declared.settings.Precision.{Precision}
use Rattle.skeleton_settings.specs.declared.settings.Precision.TheVariants as precision
use Rattle.skeleton_settings.specs.declared.settings.Priority.{Priority}
use Rattle.skeleton_settings.specs.declared.settings.Priority.TheVariants as priority
use Rattle.number_skeleton.specs.declared.stems.Counts.{Counts}
use Rattle.number_skeleton.specs.declared.stems.Stem.{Stem}
use Rattle.number_skeleton.specs.declared.stems.Stem.TheVariants as stem
use Rattle.number_skeleton.specs.declared.values.Beside.{Beside}
use Rattle.number_skeleton.specs.declared.values.Limits.{Limits}
use Rattle.number_skeleton.specs.Bytes.{is_wild, run_len}
use Rattle.skeleton_settings.specs.Settings.{nothing, percent, permille, currency}
use Rattle.number_skeleton.specs.Data.{DraftData}
use Rattle.number_skeleton.specs.Fragments.{only_notation, only_unit, only_width, only_digits, only_mode, only_integer_digits, only_scale, only_grouping}
use Rattle.number_skeleton.specs.Fragments.{only_system, only_signs, only_decimal, percent_times_hundred}
use Rattle.number_skeleton.specs.Numbers.{scale_of, increment_of}
use Rattle.number_skeleton.specs.Options.{PieceData, ended, option_at, letters_of, unit_of, system_of, integer_digits_of}
use Rattle.number_skeleton.specs.Results.{◌>>=◌, fault, located}

-- a count of digits at a stem
abbrev pub small : ℕ → ℕ → Result ℕ SkeletonFault
small start count = if nat_lt 999 count then fault TooManyDigits start else Ok count

abbrev pub small_most : ℕ → Option ℕ → Result (Option ℕ) SkeletonFault
small_most start None = Ok None
small_most start (Some most) = small start most >>= λ n. Ok (Some n)

-- the counts of a stem
unfoldable pub limits_of : ℕ → Counts → Result Limits SkeletonFault
limits_of start counts = do
  least ← small start counts.least
  most ← small_most start counts.most
  Ok (record { least = least; most = most })

-- fraction digits, significant ones, any, and both
abbrev pub fraction : Limits → Precision
fraction limits = precision.Fraction limits.least limits.most

abbrev pub significant : Limits → Precision
significant limits = precision.Significant limits.least limits.most

abbrev pub unlimited : Precision
unlimited = precision.Fraction 0 None

abbrev pub both : Limits → Beside → Precision
both limits beside = precision.Both limits.least limits.most beside.few beside.many beside.priority beside.keeps_least

-- that many significant digits
abbrev pub beside_counts : ℕ → ℕ → Priority → Bool → Result Beside FaultKind
beside_counts few many priority keeps_least =
    if nat_lt 999 many then Err TooManyDigits
    else Ok (record { few = few; many = many; priority = priority; keeps_least = keeps_least })

-- what stands behind that many `@` and that many `#`: nothing, a wild byte, `r` or `s`
abbrev pub beside_end : ℕ → ℕ → List ℕ → Result Beside FaultKind
beside_end few hashes end =
    if few == 0 then Err BadOption
    else if length end == 0 then (if few == 1 then beside_counts 1 (1 + hashes) priority.Strict true else Err BadOption)
    else if nat_lt 1 (length end) then Err BadOption
    else if is_wild (get_or end 0 0) && hashes == 0 then beside_counts 1 few priority.Relaxed true
    else if get_or end 0 0 == 114 then beside_counts few (few + hashes) priority.Relaxed false
    else if get_or end 0 0 == 115 then beside_counts few (few + hashes) priority.Strict false
    else Err BadOption

-- the significant digits of an option
unfoldable pub beside_of : List ℕ → Result Beside FaultKind
beside_of word =
    let few = run_len 64 word in
    let hashes = run_len 35 (drop few word) in
    beside_end few hashes (drop hashes (drop few word))

-- `w`
abbrev pub is_w : PieceData → Bool
is_w piece = pointwise nat_eq piece.word (codes "w")

-- a precision, and `/w` or nothing
unfoldable pub digits_at : ℕ → List ℕ → Precision → Result DraftData SkeletonFault
digits_at at options p =
    if length options == 0 then Ok (only_digits p false)
    else option_at at options >>= λ piece.
    if is_w piece then ended piece.next piece.rest (only_digits p true)
    else fault BadOption piece.at

-- fraction digits, and significant ones or none, and `/w` or nothing
unfoldable pub fraction_at : ℕ → List ℕ → Limits → Result DraftData SkeletonFault
fraction_at at options limits =
    if length options == 0 then Ok (only_digits (fraction limits) false)
    else option_at at options >>= λ piece.
    if is_w piece then ended piece.next piece.rest (only_digits (fraction limits) true)
    else located piece.at (beside_of piece.word) >>= λ beside. digits_at piece.next piece.rest (both limits beside)

-- the option that a stem needs
unfoldable pub currency_at : ℕ → List ℕ → Result DraftData SkeletonFault
currency_at at options = do
  piece ← option_at at options
  letters ← located piece.at (letters_of piece.word)
  ended piece.next piece.rest (only_unit (currency letters))

unfoldable pub unit_at : ℕ → List ℕ → Result DraftData SkeletonFault
unit_at at options = do
  piece ← option_at at options
  unit ← located piece.at (unit_of piece.word)
  ended piece.next piece.rest (only_unit unit)

unfoldable pub system_at : ℕ → List ℕ → Result DraftData SkeletonFault
system_at at options = do
  piece ← option_at at options
  name ← located piece.at (system_of piece.word)
  ended piece.next piece.rest (only_system name)

unfoldable pub integer_at : ℕ → List ℕ → Result DraftData SkeletonFault
integer_at at options = do
  piece ← option_at at options
  count ← located piece.at (integer_digits_of piece.word)
  ended piece.next piece.rest (only_integer_digits count)

unfoldable pub scale_at : ℕ → List ℕ → Result DraftData SkeletonFault
scale_at at options = do
  piece ← option_at at options
  power ← located piece.at (scale_of piece.word)
  ended piece.next piece.rest (only_scale power)

unfoldable pub increment_at : ℕ → List ℕ → Result DraftData SkeletonFault
increment_at at options = do
  piece ← option_at at options
  p ← located piece.at (increment_of piece.word)
  digits_at piece.next piece.rest p

-- What a stem and its options set. The stem begins at the first of the two places, and ends at the second.
unfoldable pub value_of : ℕ → ℕ → List ℕ → Stem → Result DraftData SkeletonFault
value_of start at options (stem.Notation n) = ended at options (only_notation n)
value_of start at options stem.BaseUnit = ended at options (only_unit nothing)
value_of start at options stem.Percent = ended at options (only_unit percent)
value_of start at options stem.Permille = ended at options (only_unit permille)
value_of start at options stem.PercentTimesHundred = ended at options percent_times_hundred
value_of start at options stem.Currency = currency_at at options
value_of start at options stem.UnitName = unit_at at options
value_of start at options (stem.Width w) = ended at options (only_width w)
value_of start at options stem.Unlimited = digits_at at options unlimited
value_of start at options (stem.Fraction counts) = limits_of start counts >>= fraction_at at options
value_of start at options (stem.Significant counts) = limits_of start counts >>= λ limits. digits_at at options (significant limits)
value_of start at options (stem.CurrencyPrecision is_cash) = digits_at at options (precision.Currency is_cash)
value_of start at options stem.Increment = increment_at at options
value_of start at options (stem.Mode m) = ended at options (only_mode m)
value_of start at options (stem.IntegerZeros n) = small start n >>= λ count. ended at options (only_integer_digits count)
value_of start at options stem.IntegerWidth = integer_at at options
value_of start at options stem.Scale = scale_at at options
value_of start at options (stem.Grouping g) = ended at options (only_grouping g)
value_of start at options stem.Latin = ended at options (only_system (codes "latn"))
value_of start at options stem.System = system_at at options
value_of start at options (stem.Sign s) = ended at options (only_signs s)
value_of start at options stem.DecimalAuto = ended at options only_decimal
