-- The line that says that a number was rounded: from what, to what, and by what.
use Rattle.std.specs.Prelude.{◌≡◌, ℕ, pos, Bool, not, ◌==◌, List, [], ◌++◌, length, Option, Some, None, Result, Ok, Err}
use Rattle.std.specs.Prelude.{codes, decimal, if◌then◌else◌}
use Rattle.std.specs.Borrow.{Bor}
use Rattle.std.specs.Int.{int_max}
use Rattle.fixed_decimal.specs.declared.signs.Sign.{Sign}
use Rattle.fixed_decimal.specs.Modes.{IsLeastFrom}
use Rattle.fixed_decimal.specs.Padding.{IsExactWith}
use Rattle.fixed_decimal.specs.Size.{magnitude, size}
use Rattle.fixed_decimal.specs.Text.{digits_text, fraction_text, sign_text}
use Rattle.fixed_decimal.specs.Unsigned.{Unsigned, IsUnsigned, fraction, high, integer}
use Rattle.decimal_lines.specs.declared.single_text.TextError.{TextError}
use Rattle.locnum_explain.specs.declared.settings.DigitsBy.{DigitsBy}
use Rattle.locnum_explain.specs.declared.settings.DigitsBy.TheVariants.{Option as ByOption, Currency, Cash, Compact as ByStyle, Given}
use Rattle.locnum_explain.specs.declared.settings.Settings.{Settings}

-- a decimal in full
unfoldable pub decimal_text : Sign → Unsigned → List ℕ
decimal_text sign d = sign_text sign ++ digits_text (integer d) ++ fraction_text (fraction d)

-- the word behind that many
abbrev pub digits_word : ℕ → List ℕ
digits_word n = if n == 1 then codes " digit" else codes " digits"

-- that many digits
unfoldable pub counted_digits : ℕ → List ℕ
counted_digits n = decimal n ++ digits_word n

-- an option with its text
unfoldable pub option_text : List ℕ → List ℕ → List ℕ
option_text name text = codes "--" ++ name ++ codes " " ++ text

-- what says which digits are written: an option with its text, that many digits of a currency, a currency in cash, or the style
abbrev pub digits_reason : DigitsBy → ℕ → List ℕ
digits_reason (ByOption name text) n = option_text name.now text.now
digits_reason (Currency code) n = counted_digits n ++ codes " of " ++ code.now
digits_reason (Cash code) n = codes "cash of " ++ code.now
digits_reason ByStyle n = codes "no fraction digit, or two significant digits"
digits_reason Given n = counted_digits n

-- the option for the mode of rounding, if it is given
abbrev pub mode_text : Option (Bor (List ℕ)) → List ℕ
mode_text None = []
mode_text (Some text) = codes ", " ++ option_text (codes "round") text.now

-- what says to what a number is rounded: which digits are written, and the mode if it is given
unfoldable pub reason_text : Settings → ℕ → List ℕ
reason_text settings n = digits_reason settings.digits n ++ mode_text settings.mode

-- a decimal with just the digits that its number needs: no zeros before it but at power 0, and none at its end below power 0
pub record IsShortest (d shortest : Unsigned) : Type 0 where
  pub size_is : size shortest ≡ size d
  pub high_is : high shortest ≡ int_max (pos 0) (magnitude (size d))
  pub scale_is : IsLeastFrom (IsExactWith (size d)) 0 shortest.scale
  pub is_decimal : IsUnsigned shortest

-- whether a number was rounded: the size that is written isn't the size that was read
abbrev pub is_rounded : Unsigned → Unsigned → Bool
is_rounded read written = not (size read == size written)

-- the number that is rounded, and the one that is written for it
unfoldable pub rounded_text : Sign × Unsigned → Sign × Unsigned → List ℕ
rounded_text read written = decimal_text read.0 read.1 ++ codes " to " ++ decimal_text written.0 written.1

-- the line of these, with what says to what the number is rounded
unfoldable pub rounded_line : Settings → Sign × Unsigned → Sign × Unsigned → List ℕ
rounded_line settings read written =
    codes "  rounded    " ++ rounded_text read written ++ codes ": " ++ reason_text settings (length (fraction written.1)) ++ codes "\n"

-- that line, where the number was rounded
abbrev pub rounding_lines : Settings → Result (Sign × Unsigned) TextError → Sign × Unsigned → List ℕ
rounding_lines settings (Ok read) written = if is_rounded read.1 written.1 then rounded_line settings read written else []
rounding_lines settings (Err error) written = []
