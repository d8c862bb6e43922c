-- The last character of a text.
use Rattle.std.proofs.Common.{◌≡◌, ℕ, ◌-◌, List, [], ◌∷◌, length, Option, Some, None, refl, ap, ◌∙◌, arith}
use Rattle.std.specs.List.{last_or}
use Rattle.std.specs.Prelude.{slice_get}

-- the last item of a list that isn't empty is that at its last place
pub last_or-cons : (o : Option ℕ) (x : ℕ) (xs : List ℕ) → last_or o (x ∷ xs) ≡ slice_get (x ∷ xs) (length xs)
last_or-cons o x [] = refl
last_or-cons o x (y ∷ ys) = last_or-cons (Some x) y ys

-- the last item of a list, or none
pub last_or-none : (xs : List ℕ) → last_or None xs ≡ slice_get xs (length xs - 1)
last_or-none [] = refl
last_or-none (x ∷ xs) = last_or-cons None x xs ∙ ap (slice_get (x ∷ xs)) (omega arith)
