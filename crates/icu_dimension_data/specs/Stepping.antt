-- Reading a pattern character by character (UTS 35 Part 3, Number Patterns): what a character adds to the pattern, and the
-- first fault. Two apostrophes are one, in a quote and outside.
use Rattle.std.specs.Prelude.{ℕ, Bool, true, false, ◌==◌, ◌&&◌, ◌||◌, nat_le, Option, Some, None, Result, Ok, Err, if◌then◌else◌}
use Rattle.icu_dimension_data.specs.declared.affix_token.AffixToken.{AffixToken}
use Rattle.icu_dimension_data.specs.declared.affix_token.AffixToken.TheVariants.{Character, CurrencySymbol, MinusSign, PlusSign, PercentSign}
use Rattle.icu_dimension_data.specs.declared.error.PatternFault.{PatternFault}
use Rattle.icu_dimension_data.specs.declared.error.PatternFault.TheVariants.{NoNumber, TwoNumbers, UnclosedQuote, ThirdSubpattern, Reserved as ReservedAt}
use Rattle.icu_dimension_data.specs.declared.stepping.Quoting.{Quoting}
use Rattle.icu_dimension_data.specs.declared.stepping.Quoting.TheVariants.{Outside, AfterSymbol, Opened, Inside, Ended}
use Rattle.icu_dimension_data.specs.declared.stepping.Section.{Section}
use Rattle.icu_dimension_data.specs.declared.stepping.Section.TheVariants.{Before, Number, After}
use Rattle.icu_dimension_data.specs.declared.stepping.State.{State}
use Rattle.icu_dimension_data.specs.declared.stepping.Added.TheVariants.{Nothing, Token, Subpattern}
use Rattle.icu_dimension_data.specs.declared.stepping.Step.{Step}
use Rattle.icu_dimension_data.specs.declared.stepping.Kind.{Kind}
use Rattle.icu_dimension_data.specs.declared.stepping.Kind.TheVariants.{Quote, Separator, Number as NumberKind, Symbol, Token as TokenKind, Reserved}

-- characters by their names
abbrev pub apostrophe : ℕ
apostrophe = 39

abbrev pub semicolon : ℕ
semicolon = 59

abbrev pub number_sign : ℕ
number_sign = 35

abbrev pub zero_digit : ℕ
zero_digit = 48

abbrev pub comma : ℕ
comma = 44

abbrev pub full_stop : ℕ
full_stop = 46

abbrev pub currency_sign : ℕ
currency_sign = 164

abbrev pub hyphen : ℕ
hyphen = 45

abbrev pub plus : ℕ
plus = 43

abbrev pub percent : ℕ
percent = 37

abbrev pub one_digit : ℕ
one_digit = 49

abbrev pub nine_digit : ℕ
nine_digit = 57

abbrev pub at_sign : ℕ
at_sign = 64

abbrev pub letter_e : ℕ
letter_e = 69

abbrev pub asterisk : ℕ
asterisk = 42

abbrev pub per_mille : ℕ
per_mille = 8240

-- a character of which a number part is a run
abbrev pub is_number : ℕ → Bool
is_number c = c == number_sign || (c == zero_digit || (c == comma || c == full_stop))

-- a character with a meaning that isn't supported: rounding to a digit, significant digits, an exponent, padding, per mille
abbrev pub is_reserved : ℕ → Bool
is_reserved c = (nat_le one_digit c && nat_le c nine_digit) || (c == at_sign || (c == letter_e || (c == asterisk || c == per_mille)))

-- what an unquoted character is
abbrev pub kind_of : ℕ → Kind
kind_of c =
    if c == apostrophe then Quote
    else (if c == semicolon then Separator
    else (if is_number c then NumberKind
    else (if c == currency_sign then Symbol
    else (if c == hyphen then TokenKind MinusSign
    else (if c == plus then TokenKind PlusSign
    else (if c == percent then TokenKind PercentSign
    else (if is_reserved c then Reserved
    else TokenKind (Character c))))))))

-- before the first character
abbrev pub start : State
start = record { quoting = Outside; section = Before; in_second = false }

-- a token that follows the number part stands behind it
abbrev pub section_after : Section → Section
section_after Before = Before
section_after Number = After
section_after After = After

-- a token more
abbrev pub with_token : State → Quoting → AffixToken → Step
with_token s q t = record { state = record { quoting = q; section = section_after s.section; in_second = s.in_second }; added = Token t }

-- a character that adds nothing
abbrev pub silent : State → Quoting → Step
silent s q = record { state = record { quoting = q; section = s.section; in_second = s.in_second }; added = Nothing }

-- the second subpattern begins
abbrev pub second_begins : Step
second_begins = record { state = record { quoting = Outside; section = Before; in_second = true }; added = Subpattern }

-- a semicolon at a byte, behind a section of the first or the second subpattern
abbrev pub separated_in : Section → Bool → ℕ → Result Step PatternFault
separated_in Before second at = Err (NoNumber at)
separated_in Number second at = if second then Err (ThirdSubpattern at) else Ok second_begins
separated_in After second at = if second then Err (ThirdSubpattern at) else Ok second_begins

-- a semicolon at a byte: the subpattern has to have its number part, and to be the first
abbrev pub separated : State → ℕ → Result Step PatternFault
separated s at = separated_in s.section s.in_second at

-- the number part goes on
abbrev pub in_number : State → Step
in_number s = record { state = record { quoting = Outside; section = Number; in_second = s.in_second }; added = Nothing }

-- a character of the number part at a byte, behind a section
abbrev pub number_in : State → Section → ℕ → Result Step PatternFault
number_in s Before at = Ok (in_number s)
number_in s Number at = Ok (in_number s)
number_in s After at = Err (TwoNumbers at)

-- a character of the number part at a byte: it has to touch the others
abbrev pub with_number : State → ℕ → Result Step PatternFault
with_number s at = number_in s s.section at

-- `¤` at a byte: not behind another, which would mean the currency's code or its name
abbrev pub symbol_after : State → Quoting → ℕ → Result Step PatternFault
symbol_after s AfterSymbol at = Err (ReservedAt at)
symbol_after s q at = Ok (with_token s AfterSymbol CurrencySymbol)

-- `¤` at a byte
abbrev pub with_symbol : State → ℕ → Result Step PatternFault
with_symbol s at = symbol_after s s.quoting at

-- an unquoted character at a byte
abbrev pub unquoted_step : State → ℕ → Kind → Result Step PatternFault
unquoted_step s at Quote = Ok (silent s (Opened at))
unquoted_step s at Separator = separated s at
unquoted_step s at NumberKind = with_number s at
unquoted_step s at Symbol = with_symbol s at
unquoted_step s at (TokenKind t) = Ok (with_token s Outside t)
unquoted_step s at Reserved = Err (ReservedAt at)

-- a character at a byte, by how the characters before it are quoted
abbrev pub step_in : State → Quoting → ℕ → ℕ → Result Step PatternFault
step_in s Outside at c = unquoted_step s at (kind_of c)
step_in s AfterSymbol at c = unquoted_step s at (kind_of c)
step_in s (Opened opening) at c = if c == apostrophe then Ok (with_token s Outside (Character c)) else Ok (with_token s (Inside opening) (Character c))
step_in s (Inside opening) at c = if c == apostrophe then Ok (silent s (Ended opening)) else Ok (with_token s (Inside opening) (Character c))
step_in s (Ended opening) at c = if c == apostrophe then Ok (with_token s (Inside opening) (Character c)) else unquoted_step s at (kind_of c)

-- a character at a byte
abbrev pub step : State → ℕ → ℕ → Result Step PatternFault
step s at c = step_in s s.quoting at c

-- the text ends at a byte in a section: the number part has to be there
abbrev pub missing_number : Section → ℕ → Option PatternFault
missing_number Before end = Some (NoNumber end)
missing_number Number end = None
missing_number After end = None

-- the text ends at a byte: no quote may be open, and the number part has to be there
abbrev pub fault_at_end : Quoting → Section → ℕ → Option PatternFault
fault_at_end (Opened opening) section end = Some (UnclosedQuote opening)
fault_at_end (Inside opening) section end = Some (UnclosedQuote opening)
fault_at_end Outside section end = missing_number section end
fault_at_end AfterSymbol section end = missing_number section end
fault_at_end (Ended opening) section end = missing_number section end

-- the fault of a text that ends at a byte
abbrev pub end_fault : State → ℕ → Option PatternFault
end_fault s end = fault_at_end s.quoting s.section end
