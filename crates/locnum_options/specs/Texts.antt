-- Numbers in options, and texts that are cut at a byte.
use Rattle.std.specs.Prelude.{ℕ, ◌+◌, ◌-◌, ◌*◌, ◌^◌, ◌||◌, ◌==◌, nat_lt, List, [], ◌∷◌, Option, Some, None, if◌then◌else◌}

-- goes on with what was found, if anything was
infixl 10 ◌>>=◌
abbrev pub ◌>>=◌ : {A B : Type 0} → Option A → (A → Option B) → Option B
None >>= f = None
(Some x) >>= f = f x

-- a number with a digit more; none where the byte is no digit, or from 2 to the power 64 on
abbrev pub with_digit : ℕ → ℕ → Option ℕ
with_digit number byte =
    if nat_lt byte 48 || nat_lt 57 byte then None
    else if nat_lt (number * 10 + (byte - 48)) (2 ^ 64) then Some (number * 10 + (byte - 48))
    else None

-- the number with these digits behind others
unfoldable pub number_from : ℕ → List ℕ → Option ℕ
number_from number [] = Some number
number_from number (byte ∷ bytes) = do
  more ← with_digit number byte
  number_from more bytes

-- the number that a text of digits is
unfoldable pub number_named : List ℕ → Option ℕ
number_named [] = None
number_named (byte ∷ bytes) = number_from 0 (byte ∷ bytes)

-- a byte more in front of what stands before a cut
abbrev pub onto_cut : ℕ → Option (List ℕ × List ℕ) → Option (List ℕ × List ℕ)
onto_cut b None = None
onto_cut b (Some (before, behind)) = Some (b ∷ before, behind)

-- what stands before the first such byte, and behind it
unfoldable pub cut_at : ℕ → List ℕ → Option (List ℕ × List ℕ)
cut_at byte [] = None
cut_at byte (b ∷ bs) = if b == byte then Some ([], bs) else onto_cut b (cut_at byte bs)

-- a byte more in front of the first of some parts
abbrev pub onto_part : ℕ → List (List ℕ) → List (List ℕ)
onto_part b [] = []
onto_part b (part ∷ parts) = (b ∷ part) ∷ parts

-- what stands before, between and behind all such bytes
unfoldable pub parts_of : ℕ → List ℕ → List (List ℕ)
parts_of byte [] = [] ∷ []
parts_of byte (b ∷ bs) = if b == byte then [] ∷ parts_of byte bs else onto_part b (parts_of byte bs)
