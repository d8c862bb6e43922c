-- The tokens of a condition, each with the place of its first byte.
use Rattle.std.specs.Prelude.{ℕ, ◌+◌, ◌*◌, ◌-◌, List, [], ◌∷◌, ◌==◌, ◌&&◌, ◌||◌, Bool, length, not, codes, map, nat_eq, nat_le}
use Rattle.std.specs.Prelude.{if◌then◌else◌}
use Rattle.std.specs.List.{take_while}
use Rattle.std.specs.Cmp.Lexicographic.{pointwise}
use Rattle.icu_plurals_conditions.specs.declared.condition.Operand.TheVariants.{N, I, V, W, F, T, C, E}
use Rattle.icu_plurals_conditions.specs.declared.lexer.Token.{Token}
use Rattle.icu_plurals_conditions.specs.declared.lexer.Token.TheVariants.{Letter, And, Or, Number, Percent, Equals, NotEquals, Comma, Dots, Unknown}

-- What is spelled: a word of lower-case letters, a run of digits, `!=`, `..`, or any other byte by itself.
pub data SpelledToken : Type 0 where
  word : List ℕ → SpelledToken
  digits : List ℕ → SpelledToken
  sign : ℕ → SpelledToken
  differs : SpelledToken
  dots : SpelledToken

-- bytes of ASCII by their names
abbrev pub letter_a : ℕ
letter_a = 97

abbrev pub letter_z : ℕ
letter_z = 122

abbrev pub digit_zero : ℕ
digit_zero = 48

abbrev pub digit_nine : ℕ
digit_nine = 57

abbrev pub space : ℕ
space = 32

abbrev pub tab : ℕ
tab = 9

abbrev pub point : ℕ
point = 46

abbrev pub exclamation_mark : ℕ
exclamation_mark = 33

abbrev pub equals_sign : ℕ
equals_sign = 61

abbrev pub at_sign : ℕ
at_sign = 64

abbrev pub percent_sign : ℕ
percent_sign = 37

abbrev pub comma : ℕ
comma = 44

abbrev pub letter_n : ℕ
letter_n = 110

abbrev pub letter_i : ℕ
letter_i = 105

abbrev pub letter_v : ℕ
letter_v = 118

abbrev pub letter_w : ℕ
letter_w = 119

abbrev pub letter_f : ℕ
letter_f = 102

abbrev pub letter_t : ℕ
letter_t = 116

abbrev pub letter_c : ℕ
letter_c = 99

abbrev pub letter_e : ℕ
letter_e = 101

-- a lower-case letter of ASCII
abbrev pub is_letter : ℕ → Bool
is_letter b = nat_le letter_a b && nat_le b letter_z

-- a digit of ASCII
abbrev pub is_digit : ℕ → Bool
is_digit b = nat_le digit_zero b && nat_le b digit_nine

-- a space or a tab
abbrev pub is_space : ℕ → Bool
is_space b = b == space || b == tab

-- a letter at place p makes one word with a word that begins just after it
abbrev pub onto_word : ℕ → ℕ → List (ℕ × SpelledToken) → List (ℕ × SpelledToken)
onto_word p b [] = (p, word (b ∷ [])) ∷ []
onto_word p b ((q, word w) ∷ ts) = if q == p + 1 then (p, word (b ∷ w)) ∷ ts else (p, word (b ∷ [])) ∷ (q, word w) ∷ ts
onto_word p b ((q, digits w) ∷ ts) = (p, word (b ∷ [])) ∷ (q, digits w) ∷ ts
onto_word p b ((q, sign s) ∷ ts) = (p, word (b ∷ [])) ∷ (q, sign s) ∷ ts
onto_word p b ((q, differs) ∷ ts) = (p, word (b ∷ [])) ∷ (q, differs) ∷ ts
onto_word p b ((q, dots) ∷ ts) = (p, word (b ∷ [])) ∷ (q, dots) ∷ ts

-- a digit at place p makes one run with digits that begin just after it
abbrev pub onto_digits : ℕ → ℕ → List (ℕ × SpelledToken) → List (ℕ × SpelledToken)
onto_digits p b [] = (p, digits (b ∷ [])) ∷ []
onto_digits p b ((q, digits w) ∷ ts) = if q == p + 1 then (p, digits (b ∷ w)) ∷ ts else (p, digits (b ∷ [])) ∷ (q, digits w) ∷ ts
onto_digits p b ((q, word w) ∷ ts) = (p, digits (b ∷ [])) ∷ (q, word w) ∷ ts
onto_digits p b ((q, sign s) ∷ ts) = (p, digits (b ∷ [])) ∷ (q, sign s) ∷ ts
onto_digits p b ((q, differs) ∷ ts) = (p, digits (b ∷ [])) ∷ (q, differs) ∷ ts
onto_digits p b ((q, dots) ∷ ts) = (p, digits (b ∷ [])) ∷ (q, dots) ∷ ts

-- the byte at place p before the tokens that follow it: spaces and tabs are none, words and runs of digits are maximal
abbrev pub onto : ℕ → ℕ → List (ℕ × SpelledToken) → List (ℕ × SpelledToken)
onto p b ts = if is_space b then ts else (if is_letter b then onto_word p b ts else (if is_digit b then onto_digits p b ts else (p, sign b) ∷ ts))

-- what is spelled from place p on
unfoldable pub spelled_from : ℕ → List ℕ → List (ℕ × SpelledToken)
spelled_from p [] = []
spelled_from p (b ∷ []) = onto p b []
spelled_from p (b ∷ c ∷ bs) =
    if b == point && c == point then (p, dots) ∷ spelled_from (p + 2) bs
    else (if b == exclamation_mark && c == equals_sign then (p, differs) ∷ spelled_from (p + 2) bs
    else onto p b (spelled_from (p + 1) (c ∷ bs)))

-- any byte but `@`
abbrev pub is_read : ℕ → Bool
is_read b = not (b == at_sign)

-- the part of a text that is read: what stands before its samples, which begin with `@`
abbrev pub part_of : List ℕ → List ℕ
part_of text = take_while is_read text

-- the number that digits spell, after a number of which the digits before them are
abbrev pub decimal_from : ℕ → List ℕ → ℕ
decimal_from n [] = n
decimal_from n (b ∷ bs) = decimal_from (n * 10 + (b - digit_zero)) bs

-- the operand of a letter
abbrev pub letter_token : ℕ → Token
letter_token b =
    if b == letter_n then Letter N
    else (if b == letter_i then Letter I
    else (if b == letter_v then Letter V
    else (if b == letter_w then Letter W
    else (if b == letter_f then Letter F
    else (if b == letter_t then Letter T
    else (if b == letter_c then Letter C
    else (if b == letter_e then Letter E
    else Unknown)))))))

-- the operand of a word of one letter
abbrev pub operand_token : List ℕ → Token
operand_token [] = Unknown
operand_token (b ∷ []) = letter_token b
operand_token (b ∷ c ∷ bs) = Unknown

-- `and`, `or`, or an operand; every other word can stand nowhere
abbrev pub word_token : List ℕ → Token
word_token w =
    if pointwise nat_eq w (codes "and") then And
    else (if pointwise nat_eq w (codes "or") then Or
    else operand_token w)

-- a value has at most eighteen digits; a longer run can stand nowhere
abbrev pub number_token : List ℕ → Token
number_token w = if nat_le (length w) 18 then Number (decimal_from 0 w) else Unknown

-- every byte that begins no token can stand nowhere
abbrev pub sign_token : ℕ → Token
sign_token b = if b == percent_sign then Percent else (if b == equals_sign then Equals else (if b == comma then Comma else Unknown))

-- the token of what is spelled
abbrev pub token_of : SpelledToken → Token
token_of (word w) = word_token w
token_of (digits w) = number_token w
token_of (sign b) = sign_token b
token_of differs = NotEquals
token_of dots = Dots

-- the tokens from place p on, with their places
unfoldable pub tokens_from : ℕ → List ℕ → List (ℕ × Token)
tokens_from p text = map (λ t. (t.0, token_of t.1)) (spelled_from p text)
