-- Pieces of a word.
use Rattle.std.specs.Prelude.{ℕ, Bool, ◌||◌, ◌&&◌, ◌==◌, not, nat_le, List}
use Rattle.std.specs.List.{prefix_len}

-- this byte
abbrev pub is_byte : ℕ → ℕ → Bool
is_byte byte other = other == byte

-- `+` or `*`
abbrev pub is_wild : ℕ → Bool
is_wild b = b == 43 || b == 42

-- a decimal digit
abbrev pub is_digit : ℕ → Bool
is_digit b = nat_le 48 b && nat_le b 57

-- a small letter or a digit
abbrev pub is_lower : ℕ → Bool
is_lower b = (nat_le 97 b && nat_le b 122) || is_digit b

-- any byte but a slash
abbrev pub is_inner : ℕ → Bool
is_inner b = not (b == 47)

-- how often a byte stands at the front of a word
unfoldable pub run_len : ℕ → List ℕ → ℕ
run_len byte word = prefix_len (is_byte byte) word

-- how many bytes stand before the first slash
unfoldable pub piece_len : List ℕ → ℕ
piece_len text = prefix_len is_inner text
