-- The text form of a decimal, as a relation between a text's bytes and what they spell (ICU4X `Decimal::try_from_str`,
-- without exponents): an optional sign, then digits with an optional point and digits, or a point and digits.
use Rattle.std.specs.Prelude.{◌≡◌, ℕ, ◌+◌, ◌-◌, ◌<◌, List, [], ◌∷◌, ◌++◌, length, map}
use Rattle.fixed_decimal.specs.declared.signs.Sign.{Sign}
use Rattle.fixed_decimal.specs.declared.signs.Sign.TheVariants.{None, Negative, Positive}
use Rattle.fixed_decimal.specs.Unsigned.{Unsigned, AreDigits, IsWithinLimits}

-- the byte of a plus sign
abbrev pub plus_sign : ℕ
plus_sign = 43

-- the byte of a minus sign
abbrev pub minus_sign : ℕ
minus_sign = 45

-- the byte of the point
abbrev pub point : ℕ
point = 46

-- the byte of the digit 0
abbrev pub digit_zero : ℕ
digit_zero = 48

-- how a sign is written
abbrev pub sign_text : Sign → List ℕ
sign_text None = []
sign_text Negative = minus_sign ∷ []
sign_text Positive = plus_sign ∷ []

-- how digits are written
abbrev pub digits_text : List ℕ → List ℕ
digits_text ds = map (λ d. digit_zero + d) ds

-- the values of written digits
abbrev pub digit_values : List ℕ → List ℕ
digit_values bytes = map (λ c. c - digit_zero) bytes

-- how a fraction is written: a point and its digits; nothing where it has no digits
abbrev pub fraction_text : List ℕ → List ℕ
fraction_text [] = []
fraction_text (d ∷ ds) = point ∷ digits_text (d ∷ ds)

-- the text is the digits before the point and then, where there are any after it, the point and these; at least one digit
-- is written
pub record IsNumeral (text before after : List ℕ) : Type 0 where
  pub spelled : text ≡ digits_text before ++ fraction_text after
  pub some_digit : 0 < length before + length after
  pub before_digits : AreDigits before
  pub after_digits : AreDigits after

-- the digits at power 0 and above: those before the point, or the digit 0 where the text begins with the point
abbrev pub integer_of : List ℕ → List ℕ
integer_of [] = 0 ∷ []
integer_of (d ∷ ds) = d ∷ ds

-- the text spells the number, without a sign
pub record IsNumber (text : List ℕ) (d : Unsigned) : Type 0 where
  pub before : List ℕ
  pub after : List ℕ
  pub spelled : IsNumeral text before after
  pub digits : d.digits ≡ integer_of before ++ after
  pub scale : d.scale ≡ length after

-- the text spells the sign and the number, each written digit at its power
pub record Reads (text : List ℕ) (sign : Sign) (d : Unsigned) : Type 0 where
  pub numeral : List ℕ
  pub before : List ℕ
  pub after : List ℕ
  pub signed : text ≡ sign_text sign ++ numeral
  pub spelled : IsNumeral numeral before after
  pub digits : d.digits ≡ integer_of before ++ after
  pub scale : d.scale ≡ length after

-- the text spells no decimal
abbrev pub ReadsNothing : List ℕ → Type 0
ReadsNothing text = (sign : Sign) (d : Unsigned) → ¬ (Reads text sign d)

-- the text spells a decimal that needs a power past the limits
abbrev pub ReadsPastLimits : List ℕ → Type 0
ReadsPastLimits text = (sign : Sign) × (d : Unsigned) × Reads text sign d × ¬ (IsWithinLimits d)
