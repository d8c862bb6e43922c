-- The canonical text of settings.
use Rattle.std.specs.Prelude.{ℕ, ℤ, zero, suc, Bool, true, false, ◌-◌, ◌==◌, List, [], ◌∷◌, ◌++◌, Option, Some, None, codes, nat_eq}
use Rattle.std.specs.Prelude.{option_map}
use Rattle.std.specs.Prelude.{if◌then◌else◌}
use Rattle.std.specs.Borrow.{Bor}
use Rattle.std.specs.Char.{encode_utf8}
use Rattle.std.specs.Cmp.Lexicographic.{pointwise}
use Rattle.fixed_decimal.specs.declared.increments.RoundingIncrement.{RoundingIncrement}
use Rattle.fixed_decimal.specs.declared.increments.RoundingIncrement.TheVariants as increment
use Rattle.fixed_decimal.specs.declared.modes.SignedRoundingMode.{SignedRoundingMode}
use Rattle.fixed_decimal.specs.declared.modes.SignedRoundingMode.TheVariants as mode
use Rattle.fixed_decimal.specs.declared.modes.UnsignedRoundingMode.TheVariants as unsigned_mode
use Rattle.fixed_decimal.specs.declared.signs.SignDisplay.{SignDisplay}
use Rattle.fixed_decimal.specs.declared.signs.SignDisplay.TheVariants as sign
use Rattle.fixed_decimal.specs.Rounding.{zeros_at, scale_at}
use Rattle.skeleton_settings.specs.declared.settings.CurrencyLetters.{CurrencyLetters}
use Rattle.skeleton_settings.specs.declared.settings.Grouping.{Grouping}
use Rattle.skeleton_settings.specs.declared.settings.Grouping.TheVariants as grouping
use Rattle.skeleton_settings.specs.declared.settings.Notation.{Notation}
use Rattle.skeleton_settings.specs.declared.settings.Notation.TheVariants as notation
use Rattle.skeleton_settings.specs.declared.settings.Precision.{Precision}
use Rattle.skeleton_settings.specs.declared.settings.Precision.TheVariants as precision
use Rattle.skeleton_settings.specs.declared.settings.Priority.{Priority}
use Rattle.skeleton_settings.specs.declared.settings.Priority.TheVariants as priority
use Rattle.skeleton_settings.specs.declared.settings.UnitWidth.{UnitWidth}
use Rattle.skeleton_settings.specs.declared.settings.UnitWidth.TheVariants as width
use Rattle.skeleton_settings.specs.Settings.{SkeletonData, UnitData, nothing, percent, permille, currency, named, name_data}

-- that many equal bytes
unfoldable pub repeated : ℕ → ℕ → List ℕ
repeated zero b = []
repeated (suc n) b = b ∷ repeated n b

-- a token behind others
unfoldable pub spaced : List ℕ → List ℕ → List ℕ
spaced [] token = token
spaced (b ∷ bs) token = b ∷ bs ++ 32 ∷ token

-- a token behind others, if there is one
abbrev pub put : List ℕ → Option (List ℕ) → List ℕ
put out None = out
put out (Some token) = spaced out token

-- the bytes of a word, if there is one
abbrev pub word_data : Option (Bor (List ℕ)) → Option (List ℕ)
word_data word = option_map name_data word

-- the token of a notation; none of the default, here and below
abbrev pub notation_text : Notation → Option (List ℕ)
notation_text notation.Simple = None
notation_text notation.CompactShort = Some (codes "compact-short")
notation_text notation.CompactLong = Some (codes "compact-long")

-- the token of a unit
abbrev pub currency_text : CurrencyLetters → List ℕ
currency_text c = codes "currency/" ++ (encode_utf8 c.first ++ (encode_utf8 c.second ++ encode_utf8 c.third))

abbrev pub unit_text : UnitData → Option (List ℕ)
unit_text nothing = None
unit_text percent = Some (codes "percent")
unit_text permille = Some (codes "permille")
unit_text (currency c) = Some (currency_text c)
unit_text (named name) = Some (codes "unit/" ++ name)

-- that many equal bytes, and that many others
abbrev pub counts_text : ℕ → ℕ → ℕ → ℕ → List ℕ
counts_text digit least other more = repeated least digit ++ repeated more other

-- the token of fraction digits
abbrev pub fraction_text : ℕ → Option ℕ → List ℕ
fraction_text zero None = codes "precision-unlimited"
fraction_text (suc least) None = codes "." ++ counts_text 48 (suc least) 42 1
fraction_text least (Some zero) = codes "precision-integer"
fraction_text least (Some (suc most)) = codes "." ++ counts_text 48 least 35 (suc most - least)

-- the token of significant digits
abbrev pub significant_text : ℕ → Option ℕ → List ℕ
significant_text least None = counts_text 64 least 42 1
significant_text least (Some most) = counts_text 64 least 35 (most - least)

-- the option of significant digits
abbrev pub priority_letter : Priority → ℕ
priority_letter priority.Relaxed = 114
priority_letter priority.Strict = 115

abbrev pub beside_text : ℕ → ℕ → Priority → Bool → List ℕ
beside_text few many priority.Relaxed true = counts_text 64 many 42 1
beside_text few many priority.Strict true = counts_text 64 1 35 (many - 1)
beside_text few many priority false = counts_text 64 few 35 (many - few) ++ priority_letter priority ∷ []

-- the digits of an increment, and how many they are
abbrev pub increment_digits : RoundingIncrement → List ℕ
increment_digits increment.MultiplesOf1 = codes "1"
increment_digits increment.MultiplesOf2 = codes "2"
increment_digits increment.MultiplesOf5 = codes "5"
increment_digits increment.MultiplesOf25 = codes "25"

abbrev pub increment_len : RoundingIncrement → ℕ
increment_len increment.MultiplesOf1 = 1
increment_len increment.MultiplesOf2 = 1
increment_len increment.MultiplesOf5 = 1
increment_len increment.MultiplesOf25 = 2

-- the point and that many zeros, if there are any
abbrev pub point_zeros : ℕ → List ℕ
point_zeros zero = []
point_zeros (suc n) = codes "." ++ repeated (suc n) 48

-- the number up to the last digit of an increment, which stands that many places behind the point
abbrev pub behind_zeros : RoundingIncrement → ℕ → List ℕ
behind_zeros increment below = codes "0." ++ (repeated (below - increment_len increment) 48 ++ increment_digits increment)

abbrev pub behind_point : RoundingIncrement → ℕ → List ℕ
behind_point increment.MultiplesOf1 below = behind_zeros increment.MultiplesOf1 below
behind_point increment.MultiplesOf2 below = behind_zeros increment.MultiplesOf2 below
behind_point increment.MultiplesOf5 below = behind_zeros increment.MultiplesOf5 below
behind_point increment.MultiplesOf25 (suc zero) = codes "2.5"
behind_point increment.MultiplesOf25 below = behind_zeros increment.MultiplesOf25 below

-- An increment times ten to a power, with that many fraction digits. The power is `above`, or where this is 0 `below` less than 0.
abbrev pub number_text : RoundingIncrement → ℕ → ℕ → ℕ → List ℕ
number_text increment above zero least = increment_digits increment ++ (repeated above 48 ++ point_zeros least)
number_text increment above (suc below) least = behind_point increment (suc below) ++ repeated (least - suc below) 48

-- the token of the digits of a currency
abbrev pub currency_digits_text : Bool → List ℕ
currency_digits_text true = codes "precision-currency-cash"
currency_digits_text false = codes "precision-currency-standard"

-- the token of a precision
abbrev pub precision_text : Precision → List ℕ
precision_text (precision.Fraction least most) = fraction_text least most
precision_text (precision.Significant least most) = significant_text least most
precision_text (precision.Increment increment power least) = codes "precision-increment/" ++ number_text increment (zeros_at power) (scale_at power) least
precision_text (precision.Both least most few many priority keeps_least) = fraction_text least most ++ (codes "/" ++ beside_text few many priority keeps_least)
precision_text (precision.Currency is_cash) = currency_digits_text is_cash

-- the option that hides zeros
abbrev pub hides_text : Bool → List ℕ
hides_text true = codes "/w"
hides_text false = []

abbrev pub digits_text : Option Precision → Bool → Option (List ℕ)
digits_text None hides = None
digits_text (Some p) hides = Some (precision_text p ++ hides_text hides)

-- the token of a rounding mode
abbrev pub mode_text : SignedRoundingMode → Option (List ℕ)
mode_text (mode.Unsigned unsigned_mode.HalfEven) = None
mode_text (mode.Unsigned unsigned_mode.Expand) = Some (codes "rounding-mode-up")
mode_text (mode.Unsigned unsigned_mode.Trunc) = Some (codes "rounding-mode-down")
mode_text (mode.Unsigned unsigned_mode.HalfExpand) = Some (codes "rounding-mode-half-up")
mode_text (mode.Unsigned unsigned_mode.HalfTrunc) = Some (codes "rounding-mode-half-down")
mode_text mode.Ceil = Some (codes "rounding-mode-ceiling")
mode_text mode.Floor = Some (codes "rounding-mode-floor")
mode_text mode.HalfCeil = Some (codes "rounding-mode-half-ceiling")
mode_text mode.HalfFloor = Some (codes "rounding-mode-half-floor")

-- the token of grouping
abbrev pub grouping_text : Option Grouping → Option (List ℕ)
grouping_text None = None
grouping_text (Some grouping.Off) = Some (codes "group-off")
grouping_text (Some grouping.Min2) = Some (codes "group-min2")
grouping_text (Some grouping.Auto) = Some (codes "group-auto")
grouping_text (Some grouping.OnAligned) = Some (codes "group-on-aligned")
grouping_text (Some grouping.Thousands) = Some (codes "group-thousands")

-- the token of the least count of integer digits
abbrev pub integer_text : ℕ → Option (List ℕ)
integer_text n = if n == 1 then None else Some (codes "integer-width/*" ++ repeated n 48)

-- the token of a numbering system
abbrev pub system_text : Option (List ℕ) → Option (List ℕ)
system_text None = None
system_text (Some name) = if pointwise nat_eq name (codes "latn") then Some (codes "latin") else Some (codes "numbering-system/" ++ name)

-- the token of a width
abbrev pub width_text : UnitWidth → Option (List ℕ)
width_text width.Narrow = Some (codes "unit-width-narrow")
width_text width.Short = None
width_text width.FullName = Some (codes "unit-width-full-name")
width_text width.IsoCode = Some (codes "unit-width-iso-code")
width_text width.Hidden = Some (codes "unit-width-hidden")

-- the token of signs
abbrev pub sign_text : SignDisplay → Bool → Option (List ℕ)
sign_text sign.Auto false = None
sign_text sign.Always false = Some (codes "sign-always")
sign_text sign.Never false = Some (codes "sign-never")
sign_text sign.ExceptZero false = Some (codes "sign-except-zero")
sign_text sign.Negative false = Some (codes "sign-negative")
sign_text sign.Auto true = Some (codes "sign-accounting")
sign_text sign.Always true = Some (codes "sign-accounting-always")
sign_text sign.Never true = Some (codes "sign-never")
sign_text sign.ExceptZero true = Some (codes "sign-accounting-except-zero")
sign_text sign.Negative true = Some (codes "sign-accounting-negative")

-- the token of a power of ten, by how far it is above and below 0
abbrev pub scale_number : ℕ → ℕ → Option (List ℕ)
scale_number zero zero = None
scale_number (suc above) below = Some (codes "scale/" ++ number_text increment.MultiplesOf1 (suc above) below below)
scale_number zero (suc below) = Some (codes "scale/" ++ number_text increment.MultiplesOf1 zero (suc below) (suc below))

abbrev pub scale_text : ℤ → Option (List ℕ)
scale_text power = scale_number (zeros_at power) (scale_at power)

-- the canonical text of settings
unfoldable pub canonical_of : SkeletonData → List ℕ
canonical_of s =
    put (put (put (put (put (put (put (put (put (put []
    (notation_text s.notation))
    (unit_text s.unit))
    (digits_text s.precision s.hides_zeros_of_whole))
    (mode_text s.mode))
    (grouping_text s.grouping))
    (integer_text s.integer_digits))
    (system_text s.system))
    (width_text s.width))
    (sign_text s.sign s.is_accounting))
    (scale_text s.scale)
