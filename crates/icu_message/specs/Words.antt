-- Words of a text, byte by byte.
use Rattle.std.specs.Prelude.{ℕ, ◌-◌, Bool, true, false, ◌==◌, ◌&&◌, ◌||◌, nat_le, List, [], ◌∷◌, take, drop}
use Rattle.icu_message.specs.declared.piece.Word.{Word}

-- white space
abbrev pub is_space : ℕ → Bool
is_space b = b == 32 || (b == 9 || (b == 10 || b == 13))

-- an ASCII digit
abbrev pub is_digit : ℕ → Bool
is_digit b = nat_le 48 b && nat_le b 57

-- an ASCII letter, a digit or `_`
abbrev pub is_word : ℕ → Bool
is_word b = (nat_le 48 b && nat_le b 57) || ((nat_le 65 b && nat_le b 90) || ((nat_le 97 b && nat_le b 122) || b == 95))

-- the word's bytes in its text
abbrev pub word_in : List ℕ → Word → List ℕ
word_in text w = take (w.end - w.start) (drop w.start text)

-- equal bytes
abbrev pub same_bytes : List ℕ → List ℕ → Bool
same_bytes [] [] = true
same_bytes [] (y ∷ ys) = false
same_bytes (x ∷ xs) [] = false
same_bytes (x ∷ xs) (y ∷ ys) = x == y && same_bytes xs ys

-- equal words of a text
abbrev pub same_words : List ℕ → Word → Word → Bool
same_words text v w = same_bytes (word_in text v) (word_in text w)

-- a brace is among the bytes
abbrev pub has_brace : List ℕ → Bool
has_brace [] = false
has_brace (b ∷ bs) = (b == 123 || b == 125) || has_brace bs

-- `other`
abbrev pub other : List ℕ
other = 111 ∷ 116 ∷ 104 ∷ 101 ∷ 114 ∷ []

-- the word `other`
abbrev pub is_other : List ℕ → Word → Bool
is_other text w = same_bytes (word_in text w) other

-- digits alone
abbrev pub all_digits : List ℕ → Bool
all_digits [] = true
all_digits (b ∷ bs) = is_digit b && all_digits bs

-- letters, digits and `_` alone
abbrev pub all_word : List ℕ → Bool
all_word [] = true
all_word (b ∷ bs) = is_word b && all_word bs
