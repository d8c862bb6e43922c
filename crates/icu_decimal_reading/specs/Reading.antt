-- What the text of a plain number is read as, and at which byte a text is no number.
use Rattle.std.specs.Prelude.{◌≡◌, ◌≢◌, ◌⊎◌, ℕ, ◌+◌, Bool, true, false, ◌==◌, ◌&&◌, nat_le}
use Rattle.std.specs.Prelude.{nat_lt, max, List, [], ◌∷◌, length}
use Rattle.std.specs.Prelude.{Option, Some, None, is_some, Result, Ok, Err, if◌then◌else◌}
use Rattle.std.specs.Char.{len_utf8}
use Rattle.std.specs.List.{filter_map}
use Rattle.fixed_decimal.specs.declared.signs.Sign.{Sign}
use Rattle.fixed_decimal.specs.declared.signs.Sign.TheVariants.{Negative, Positive, None as NoSign}
use Rattle.fixed_decimal.specs.declared.signed.Decimal.{Decimal}
use Rattle.fixed_decimal.specs.Unsigned.{Unsigned, IsUnsigned}
use Rattle.writeable.specs.Events.{characters}
use Rattle.icu_decimal_options.specs.declared.options.GroupingStrategy.TheVariants.{Never}
use Rattle.icu_decimal.specs.Decimal.{DecimalFormat, decimal_events}
use Rattle.icu_decimal.specs.Laws.{plain_under}
use Rattle.icu_decimal_reading.specs.declared.digits.Run.{Run}
use Rattle.icu_decimal_reading.specs.declared.error.NotRead.{NotRead}
use Rattle.icu_decimal_reading.specs.declared.error.NotRead.TheVariants.{NoNumber, OutOfMemory}

-- the same format without groups
abbrev pub ungrouped : DecimalFormat → DecimalFormat
ungrouped f = plain_under f.symbols f.digits (Some Never)

-- the characters with which a formatter writes a decimal
abbrev pub written : DecimalFormat → Sign → Unsigned → List ℕ
written f sign u = characters (decimal_events f sign u)

-- the characters are the formatter's text of the decimal, with its groups or with none
abbrev pub IsTextOf : DecimalFormat → List ℕ → Sign → Unsigned → Type 0
IsTextOf f cs sign u = (cs ≡ written f sign u) ⊎ (cs ≡ written (ungrouped f) sign u)

-- the characters are the formatter's text of no decimal, neither with its groups nor with none
abbrev pub IsNoText : DecimalFormat → List ℕ → Type 0
IsNoText f cs = (sign : Sign) (u : Unsigned) → IsUnsigned u → ¬ (IsTextOf f cs sign u)

-- no decimal is written in these characters, with just the formatter's groups
abbrev pub IsNotWritten : DecimalFormat → List ℕ → Type 0
IsNotWritten f cs = (sign : Sign) (u : Unsigned) → IsUnsigned u → cs ≢ written f sign u

-- where an error is that a text is no number, this holds
abbrev pub IfNoNumber : Type 0 → NotRead → Type 0
IfNoNumber P (NoNumber byte) = P
IfNoNumber P OutOfMemory = Unit {0}

-- where an error is that a text is no number, it names this byte
abbrev pub IsAt : ℕ → NotRead → Type 0
IsAt n (NoNumber byte) = byte ≡ n
IsAt n OutOfMemory = Unit {0}

-- what was read, with the greater of two bytes where it is no number
abbrev pub no_nearer : ℕ → Result Decimal NotRead → Result Decimal NotRead
no_nearer n (Ok d) = Ok d
no_nearer n (Err (NoNumber byte)) = Err (NoNumber (max n byte))
no_nearer n (Err OutOfMemory) = Err OutOfMemory

-- ---- the numbers that the digits of a text make

-- the value of a character, if it is one of the digits, of which the first has the value n
abbrev pub value_from : ℕ → List ℕ → ℕ → Option ℕ
value_from n [] c = None
value_from n (d ∷ ds) c = if d == c then Some n else value_from (n + 1) ds c

-- the value of a character, if it is one of the digits 0 to 9
abbrev pub value_of : List ℕ → ℕ → Option ℕ
value_of digits c = value_from 0 digits c

-- the values of those characters that are digits, in order
abbrev pub values : List ℕ → List ℕ → List ℕ
values digits cs = filter_map (value_of digits) cs

-- the last run before any character
abbrev pub no_run : Run
no_run = record { count = 0; is_open = false }

-- the last run once a further character is seen: a digit goes on with an open run, or begins another; any other character ends it
abbrev pub run_past : Bool → Run → Run
run_past true run = record { count = if run.is_open then run.count + 1 else 1; is_open = true }
run_past false run = record { count = run.count; is_open = false }

-- the last run once some characters are seen
abbrev pub run_behind : List ℕ → Run → List ℕ → Run
run_behind digits run [] = run
run_behind digits run (c ∷ cs) = run_behind digits (run_past (is_some (value_of digits c)) run) cs

-- how many digits the last run of digits has
abbrev pub last_run : List ℕ → List ℕ → ℕ
last_run digits cs = (run_behind digits no_run cs).count

-- whether so many digits are a decimal's, with so many of them behind its separator
abbrev pub is_decimal : ℕ → ℕ → Bool
is_decimal count scale = nat_lt scale count && (nat_le count (scale + 32768) && nat_le scale 32768)

-- the number with these digits, so many of them behind the separator
abbrev pub number_of : List ℕ → ℕ → Unsigned
number_of digits scale = record { digits = digits; scale = scale }

-- ---- the byte at which a text is no number

-- how many bytes take the characters with which both begin
abbrev pub alike : List ℕ → List ℕ → ℕ
alike [] ds = 0
alike (c ∷ cs) [] = 0
alike (c ∷ cs) (d ∷ ds) = if c == d then len_utf8 c + alike cs ds else 0

-- the first byte at which characters differ from each text of the number: without a sign, with a minus and with a plus
abbrev pub differs_from : DecimalFormat → List ℕ → Unsigned → ℕ
differs_from f cs u = max (max (alike cs (written f NoSign u)) (alike cs (written f Negative u))) (alike cs (written f Positive u))

-- the same of the number that the digits of the characters make, so many of them behind the separator; 0 if they make none
abbrev pub differs_scaled : DecimalFormat → List ℕ → ℕ → ℕ
differs_scaled f cs scale =
    if is_decimal (length (values f.digits cs)) scale then differs_from f cs (number_of (values f.digits cs) scale) else 0

-- the same of both numbers: the whole one, and the one with the last run of digits behind the separator
abbrev pub differs_written : DecimalFormat → List ℕ → ℕ
differs_written f cs = max (differs_scaled f cs 0) (differs_scaled f cs (last_run f.digits cs))

-- The byte of a fault: the first at which the text differs from each text, with the formatter's groups or with none, of a
-- number that its digits make. It is the length of the text, if the text only ends too early.
abbrev pub fault_byte : DecimalFormat → List ℕ → ℕ
fault_byte f cs = max (differs_written f cs) (differs_written (ungrouped f) cs)
