-- Tokens behind others, piece by piece.
use Rattle.std.proofs.Common.{◌≡◌, ℕ, suc, zero, ◌+◌, ◌<◌, List, [], ◌∷◌, ◌++◌, length, refl, ap, arith, append_assoc}
use Rattle.std.proofs.lemmas.List.{append-nil}
use Rattle.skeleton_settings.specs.Canonical.{spaced, repeated}

-- more of a token
pub spaced_more : (out xs ys : List ℕ) → spaced out xs ++ ys ≡ spaced out (xs ++ ys)
unfolding spaced
spaced_more [] xs ys = refl
spaced_more (b ∷ bs) xs ys = append_assoc (b ∷ bs) (32 ∷ xs) ys

-- a token in front
pub spaced_first : (out token : List ℕ) → length out ≡ 0 → out ++ token ≡ spaced out token
unfolding spaced
spaced_first [] token h = refl
spaced_first (b ∷ bs) token h = absurd (omega arith)

-- a token behind others
pub spaced_next : (out token : List ℕ) → 0 < length out → (out ++ 32 ∷ []) ++ token ≡ spaced out token
unfolding spaced
spaced_next [] token h = absurd (omega arith)
spaced_next (b ∷ bs) token h = append_assoc (b ∷ bs) (32 ∷ []) token

-- none, and one more
pub repeated_none : (b : ℕ) → repeated 0 b ≡ []
unfolding repeated
repeated_none b = refl

pub repeated_more : (n b : ℕ) → repeated (n + 1) b ≡ repeated n b ++ b ∷ []
unfolding repeated
repeated_more zero b = refl
repeated_more (suc n) b = let e : suc n + 1 ≡ suc (n + 1) = omega arith in rw e (ap (λ (bs : List ℕ). b ∷ bs) (repeated_more n b))

-- nothing more
pub spaced_all : (out xs : List ℕ) → spaced out (xs ++ []) ≡ spaced out xs
spaced_all out xs = ap (spaced out) (append-nil xs)

-- three letters
pub letters_spelled : (out word f s t : List ℕ) → ((spaced out word ++ f) ++ s) ++ t ≡ spaced out (word ++ (f ++ (s ++ t)))
letters_spelled out word f s t =
    rw (
      spaced_more out word f,
      spaced_more out (word ++ f) s,
      spaced_more out ((word ++ f) ++ s) t,
      append_assoc (word ++ f) s t,
      append_assoc word f (s ++
          t),
    ) refl
