-- The patterns of the three signs (UTS 35 Part 3, Number Patterns, Explicit Plus Signs), with a space between the currency
-- symbol and the number where one is wanted (Currency Formatting, currency spacing).
use Rattle.std.specs.Prelude.{ℕ, ◌-◌, List, [], ◌∷◌, ◌++◌, Bool, true, false, ◌&&◌, ◌||◌, not, Option, Some, None}
use Rattle.std.specs.Prelude.{map, length, slice_get, chars, if◌then◌else◌}
use Rattle.std.specs.List.{list_all, list_any}
use Rattle.ucd_category.specs.GeneralCategory.{general_category}
use Rattle.ucd_category.specs.GeneralCategoryGroup.{in_group}
use Rattle.ucd_category.specs.declared.GeneralCategory.{GeneralCategory}
use Rattle.ucd_category.specs.declared.GeneralCategory.TheVariants.{DecimalNumber}
use Rattle.ucd_category.specs.declared.GeneralCategoryGroup.TheVariants.{Symbol, Separator}
use Rattle.fixed_decimal.specs.declared.signs.Sign.{Sign}
use Rattle.fixed_decimal.specs.declared.signs.Sign.TheVariants.{None as NoSign, Negative, Positive}
use Rattle.icu_dimension_data.specs.declared.affix_token.AffixToken.{AffixToken}
use Rattle.icu_dimension_data.specs.declared.affix_token.AffixToken.TheVariants.{Character, CurrencySymbol, MinusSign, PlusSign}
use Rattle.icu_dimension_data.specs.Patterns.{Affixes, PatternText}

-- the texts for the tokens; that of the percent sign also stands for the per mille sign
pub record Texts : Type 0 where
  pub minus_sign : List ℕ
  pub plus_sign : List ℕ
  pub percent_sign : List ℕ
  pub currency : List ℕ

-- what stands around numbers without a sign, with a minus and with a plus, and the texts in it
pub record Signed : Type 0 where
  pub none : Affixes
  pub minus : Affixes
  pub plus : Affixes
  pub texts : Texts

-- the minus sign
abbrev pub is_minus : AffixToken → Bool
is_minus MinusSign = true
is_minus _ = false

-- a minus sign stands somewhere
abbrev pub has_minus : Affixes → Bool
has_minus a = list_any is_minus a.before || list_any is_minus a.after

-- the plus sign in the place of the minus sign
abbrev pub plus_for : AffixToken → AffixToken
plus_for MinusSign = PlusSign
plus_for t = t

-- with the plus sign in place of each minus sign
abbrev pub with_plus : Affixes → Affixes
with_plus a = record { before = map plus_for a.before; after = map plus_for a.after }

-- with a sign in front
abbrev pub led_by : AffixToken → Affixes → Affixes
led_by sign a = record { before = sign ∷ a.before; after = a.after }

-- the second subpattern, or where there is none the minus sign and the first
abbrev pub minus_by : Affixes → Option Affixes → Affixes
minus_by first None = led_by MinusSign first
minus_by first (Some second) = second

-- what stands around negative numbers
abbrev pub minus_affixes : PatternText → Affixes
minus_affixes p = minus_by p.first p.second

-- what stands around negative numbers, with the plus sign in place of the minus sign; if no minus sign stands there, the
-- plus sign and the first subpattern
abbrev pub plus_affixes : PatternText → Affixes
plus_affixes p = if has_minus (minus_affixes p) then with_plus (minus_affixes p) else led_by PlusSign p.first

-- a character that needs no space between it and a number: a symbol or a separator (general categories S and Z)
abbrev pub stands_apart : ℕ → Bool
stands_apart c = in_group Symbol (general_category c) || in_group Separator (general_category c)

-- a space is inserted between digits and a text that has this character on their side, if it has any
abbrev pub needs_space : Option ℕ → Bool
needs_space None = false
needs_space (Some c) = not (stands_apart c)

-- the general category Nd
abbrev pub is_decimal_number : GeneralCategory → Bool
is_decimal_number DecimalNumber = true
is_decimal_number _ = false

-- a digit beside which a space may be inserted: `[:digit:]`, the general category Nd
abbrev pub is_digit : ℕ → Bool
is_digit c = is_decimal_number (general_category c)

-- numbers with these ten digits begin and end with such a digit
abbrev pub are_digits : List ℕ → Bool
are_digits digits = list_all is_digit digits

-- the first character of a text
abbrev pub first_character : List ℕ → Option ℕ
first_character text = slice_get (chars text) 0

-- its last character
abbrev pub last_character : List ℕ → Option ℕ
last_character text = slice_get (chars text) (length (chars text) - 1)

-- the currency symbol
abbrev pub is_symbol : Option AffixToken → Bool
is_symbol (Some CurrencySymbol) = true
is_symbol _ = false

-- U+00A0, which breaks no line
abbrev pub no_break_space : AffixToken
no_break_space = Character 160

-- before the number: where spaces are inserted at all, one behind a symbol that stands directly before it and needs one
abbrev pub spaced_before : Bool → List ℕ → List AffixToken → List AffixToken
spaced_before inserted currency ts =
    if is_symbol (slice_get ts (length ts - 1)) && (needs_space (last_character currency) && inserted)
    then ts ++ no_break_space ∷ []
    else ts

-- after the number: one before a symbol that stands directly behind it and needs one
abbrev pub spaced_after : Bool → List ℕ → List AffixToken → List AffixToken
spaced_after inserted currency ts =
    if is_symbol (slice_get ts 0) && (needs_space (first_character currency) && inserted) then no_break_space ∷ ts else ts

-- on both sides of the number
abbrev pub spaced : Bool → List ℕ → Affixes → Affixes
spaced inserted currency a = record { before = spaced_before inserted currency a.before; after = spaced_after inserted currency a.after }

-- the patterns of the three signs around numbers with these ten digits, with these texts in them
abbrev pub resolved : List ℕ → PatternText → Texts → Signed
resolved digits p texts = record {
  none = spaced (are_digits digits) texts.currency p.first;
  minus = spaced (are_digits digits) texts.currency (minus_affixes p);
  plus = spaced (are_digits digits) texts.currency (plus_affixes p);
  texts = texts;
}

-- what stands around numbers of a sign
abbrev pub affixes_of : Signed → Sign → Affixes
affixes_of s NoSign = s.none
affixes_of s Negative = s.minus
affixes_of s Positive = s.plus
