-- Errors of the two ends of a range.
use Rattle.std.specs.Prelude.{Result, Ok, Err}
use Rattle.decimal_lines.specs.declared.single_text.TextError.{TextError}
use Rattle.decimal_lines.specs.declared.single_text.TextError.TheVariants.{NotDecimal, TooManyDigits, Overflow, OutOfMemory}
use Rattle.number_ranges.specs.declared.error.RangeTextError.{RangeTextError}
use Rattle.number_ranges.specs.declared.error.RangeTextError.TheVariants.{Start, End, OutOfMemory as NoMemory}

-- an error of the start
abbrev pub start_error : TextError → RangeTextError
start_error NotDecimal = Start NotDecimal
start_error TooManyDigits = Start TooManyDigits
start_error Overflow = Start Overflow
start_error OutOfMemory = NoMemory

-- an error of the end
abbrev pub end_error : TextError → RangeTextError
end_error NotDecimal = End NotDecimal
end_error TooManyDigits = End TooManyDigits
end_error Overflow = End Overflow
end_error OutOfMemory = NoMemory

-- a result of one end, with its error as that of the range
abbrev pub reported : {A : Type 0} → (TextError → RangeTextError) → Result A TextError → Result A RangeTextError
reported wrap (Ok x) = Ok x
reported wrap (Err error) = Err (wrap error)

-- what is made of a result, if it is one
infixl 10 ◌>>=◌
abbrev pub ◌>>=◌ : {A B : Type 0} → Result A RangeTextError → (A → Result B RangeTextError) → Result B RangeTextError
(Ok x) >>= next = next x
(Err error) >>= next = Err error
