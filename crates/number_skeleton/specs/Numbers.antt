-- Numbers of scales and increments.
use Rattle.std.specs.Prelude.{ℕ, ℤ, pos, ◌-ℤ◌, Bool, ◌+◌, ◌-◌, ◌||◌, ◌&&◌, ◌==◌, nat_lt, List, Option, Some, None, Result, Ok}
use Rattle.std.specs.Prelude.{Err, drop, get_or, length}
use Rattle.std.specs.Prelude.{if◌then◌else◌}
use Rattle.std.specs.List.{prefix_len, list_all}
use Rattle.fixed_decimal.specs.declared.increments.RoundingIncrement.{RoundingIncrement}
use Rattle.fixed_decimal.specs.declared.increments.RoundingIncrement.TheVariants as increment
use Rattle.number_skeleton.specs.declared.fault.FaultKind.{FaultKind}
use Rattle.number_skeleton.specs.declared.fault.FaultKind.TheVariants.{BadOption, LeftOut, TooManyDigits}
use Rattle.number_skeleton.specs.declared.fault.Thing.TheVariants as thing
use Rattle.number_skeleton.specs.declared.numbers.Leading.{Leading}
use Rattle.number_skeleton.specs.declared.numbers.Number.{Number}
use Rattle.number_skeleton.specs.declared.numbers.Number.TheVariants as number
use Rattle.skeleton_settings.specs.declared.settings.Precision.{Precision}
use Rattle.skeleton_settings.specs.declared.settings.Precision.TheVariants as precision
use Rattle.number_skeleton.specs.Bytes.{is_digit, run_len}
use Rattle.number_skeleton.specs.Results.{◌>>=◌}

-- digits, or digits with a point in front of the last ones
unfoldable pub is_number : List ℕ → Bool
is_number word =
    let whole = prefix_len is_digit word in
    let rest = drop whole word in
    if length rest == 0 then nat_lt 0 whole
    else get_or rest 0 0 == 46 && nat_lt 1 (length rest) && list_all is_digit (drop 1 rest)

-- how many digits stand behind the point of a number
unfoldable pub fraction_len : List ℕ → ℕ
fraction_len word = length (drop 1 (drop (prefix_len is_digit word) word))

-- a zero, or the point
abbrev pub is_filler : ℕ → Bool
is_filler b = b == 48 || b == 46

-- how many zeros, and the point, stand at the front of a word
unfoldable pub filler_len : List ℕ → ℕ
filler_len word = prefix_len is_filler word

-- how many zeros stand in a word of zeros with a point among them, or without one
unfoldable pub zeros_in : List ℕ → ℕ
zeros_in word =
    let front = run_len 48 word in
    front + run_len 48 (drop 1 (drop front word))

-- an increment, and how many bytes it takes, the point among them
abbrev pub leads : RoundingIncrement → ℕ → Leading
leads increment bytes = record { increment = increment; bytes = bytes }

-- the increment that begins with 2
abbrev pub leading_two : ℕ → ℕ → Leading
leading_two second third =
    if second == 53 then leads increment.MultiplesOf25 2
    else if second == 46 && third == 53 then leads increment.MultiplesOf25 3
    else leads increment.MultiplesOf2 1

-- the increment that a word begins with
unfoldable pub leading_increment : List ℕ → Option Leading
leading_increment word =
    if get_or word 0 0 == 49 then Some (leads increment.MultiplesOf1 1)
    else if get_or word 0 0 == 50 then Some (leading_two (get_or word 1 0) (get_or word 2 0))
    else if get_or word 0 0 == 53 then Some (leads increment.MultiplesOf5 1)
    else None

-- behind the increment stand zeros alone
abbrev pub step_behind : Option Leading → List ℕ → ℕ → Number
step_behind None rest fraction = number.Other
step_behind (Some leading) rest fraction =
    let tail = drop leading.bytes rest in
    if filler_len tail == length tail then number.Step leading.increment (zeros_in tail) fraction else number.Other

-- what the digits of a number are of which this part stands behind the first zeros
unfoldable pub step_of : List ℕ → ℕ → Number
step_of rest fraction = step_behind (leading_increment rest) rest fraction

-- what a number without a sign is
unfoldable pub unsigned_number : List ℕ → Result Number FaultKind
unsigned_number word =
    if is_number word then
    (if length (drop (filler_len word) word) == 0 then Ok number.Zero
    else Ok (step_of (drop (filler_len word) word) (fraction_len word)))
    else Err BadOption

-- what a number is
unfoldable pub number_of : List ℕ → Result Number FaultKind
number_of word =
    if get_or word 0 0 == 43 || get_or word 0 0 == 45 then (if is_number (drop 1 word) then Ok number.Other else Err BadOption)
    else unsigned_number word

-- the power of ten of a number's last digit but zeros is past 999 in size
abbrev pub is_far : ℕ → ℕ → Bool
is_far zeros fraction = nat_lt 999 (zeros - fraction) || nat_lt 999 (fraction - zeros)

-- the power of ten of a number's last digit but zeros
abbrev pub power_of : ℕ → ℕ → ℤ
power_of zeros fraction = pos zeros -ℤ pos fraction

-- a scale is a power of ten
abbrev pub scale_from : Number → Result ℤ FaultKind
scale_from number.Zero = Err (LeftOut thing.Scale)
scale_from number.Other = Err (LeftOut thing.Scale)
scale_from (number.Step increment.MultiplesOf1 zeros fraction) = if is_far zeros fraction then Err TooManyDigits else Ok (power_of zeros fraction)
scale_from (number.Step increment.MultiplesOf2 zeros fraction) = Err (LeftOut thing.Scale)
scale_from (number.Step increment.MultiplesOf5 zeros fraction) = Err (LeftOut thing.Scale)
scale_from (number.Step increment.MultiplesOf25 zeros fraction) = Err (LeftOut thing.Scale)

unfoldable pub scale_of : List ℕ → Result ℤ FaultKind
scale_of word = number_of word >>= scale_from

-- an increment is 1, 2, 5 or 25 times a power of ten, and its fraction digits are the least count
abbrev pub increment_from : Number → Result Precision FaultKind
increment_from number.Zero = Err BadOption
increment_from number.Other = Err (LeftOut thing.Increment)
increment_from (number.Step increment zeros fraction) =
    if is_far zeros fraction || nat_lt 999 fraction then Err TooManyDigits
    else Ok (precision.Increment increment (power_of zeros fraction) fraction)

unfoldable pub increment_of : List ℕ → Result Precision FaultKind
increment_of word = number_of word >>= increment_from
