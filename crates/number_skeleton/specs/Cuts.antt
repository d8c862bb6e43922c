-- Tokens between blanks.
use Rattle.std.specs.Prelude.{ℕ, ◌+◌, ◌-◌, ◌||◌, ◌&&◌, ◌==◌, suc, zero, List, [], ◌∷◌, nat_le, nat_lt, take, get_or}
use Rattle.std.specs.Prelude.{if◌then◌else◌}

-- the length of the blank that these three bytes begin with, of the eleven characters of Pattern_White_Space, or zero
abbrev pub blank_of : ℕ → ℕ → ℕ → ℕ
blank_of a b c =
    if (nat_le 9 a && nat_le a 13) || a == 32 then 1
    else if a == 194 && b == 133 then 2
    else if a == 226 && b == 128 && (c == 142 || c == 143 || c == 168 || c == 169) then 3
    else 0

-- the length of the blank that a text begins with, or zero
unfoldable pub blank_len : List ℕ → ℕ
blank_len text = blank_of (get_or text 0 0) (get_or text 1 0) (get_or text 2 0)

-- how many bytes stand before the first blank
unfoldable pub token_len : List ℕ → ℕ
token_len [] = 0
token_len (b ∷ bs) = if nat_lt 0 (blank_len (b ∷ bs)) then 0 else 1 + token_len bs

-- The runs without a blank, each with its byte; that many bytes are passed over first, which belong to what was found.
unfoldable pub tokens_from : ℕ → ℕ → List ℕ → List (ℕ × List ℕ)
tokens_from at skip [] = []
tokens_from at (suc skip) (b ∷ bs) = tokens_from (at + 1) skip bs
tokens_from at zero (b ∷ bs) =
    if nat_lt 0 (blank_len (b ∷ bs)) then tokens_from (at + 1) (blank_len (b ∷ bs) - 1) bs
    else (at, take (token_len (b ∷ bs)) (b ∷ bs)) ∷ tokens_from (at + 1) (token_len bs) bs
