-- Spaces around a text that isn't all spaces, and what follows them, are determined.
use Rattle.std.proofs.Common.{◌≡◌, ◌≢◌, ◌⊎◌, inl, inr, ℕ, refl, sym, ap, ◌∙◌, List, [], ◌∷◌, ◌++◌, Bool, true, false}
use Rattle.std.proofs.Common.{◌+◌, ◌==◌, arith, if◌then◌else◌}
use Rattle.std.proofs.lemmas.List.{append_cancel_left}
use Rattle.icu_decimal.proofs.Runs.{Begins}

-- a character stands in a text
abbrev pub Has : ℕ → List ℕ → Type 0
Has c [] = ⊥
Has c (x ∷ xs) = (x ≡ c) ⊎ Has c xs

-- so it stands in longer texts
pub has_before : (c : ℕ) (xs ys : List ℕ) → Has c xs → Has c (xs ++ ys)
has_before c [] ys h = absurd h
has_before c (x ∷ xs) ys (inl is) = inl is
has_before c (x ∷ xs) ys (inr h) = inr (has_before c xs ys h)

-- also behind others
pub has_after : (c : ℕ) (xs ys : List ℕ) → Has c ys → Has c (xs ++ ys)
has_after c [] ys h = h
has_after c (x ∷ xs) ys h = inr (has_after c xs ys h)

-- a space, or nothing
abbrev pub spaces : Bool → List ℕ
spaces true = 32 ∷ []
spaces false = []

-- any character but a space
abbrev pub IsNoSpace : ℕ → Type 0
IsNoSpace c = c ≢ 32

-- a text with some other character than spaces isn't itself behind a space
no_shift : (c : ℕ) → IsNoSpace c → (xs ys zs : List ℕ) → Has c xs → 32 ∷ (xs ++ ys) ≡ xs ++ zs → ⊥
no_shift c seen [] ys zs h e = h
no_shift c seen (x ∷ xs) ys zs (inl is) e =
    let heads : 32 ≡ x = cc in
    seen (sym is ∙ sym heads)
no_shift c seen (x ∷ xs) ys zs (inr h) e =
    let heads : 32 ≡ x = cc in
    let tails : x ∷ (xs ++ ys) ≡ xs ++ zs = cc in
    no_shift c seen xs ys zs h (ap (λ d. d ∷ (xs ++ ys)) heads ∙ tails)

-- spaces in front of texts that begin with none are as many
spaces_tell : (a b : Bool) (ps qs : List ℕ) → Begins IsNoSpace ps → Begins IsNoSpace qs → spaces a ++ ps ≡ spaces b ++ qs → ps ≡ qs
spaces_tell true true ps qs hp hq e = cc
spaces_tell false false ps qs hp hq e = e
spaces_tell true false ps [] hp hq e = cc
spaces_tell true false ps (q ∷ qs) hp hq e = let heads : 32 ≡ q = cc in absurd (hq (sym heads))
spaces_tell false true [] qs hp hq e = cc
spaces_tell false true (p ∷ ps) qs hp hq e = let heads : p ≡ 32 = cc in absurd (hp heads)

-- what follows a text with spaces around it is determined
pub spaced_tells : (c : ℕ) → IsNoSpace c → (xs : List ℕ) → Has c xs → (before back after next : Bool) (ps qs : List ℕ) → Begins IsNoSpace ps →
    Begins IsNoSpace qs
    → spaces before ++ (xs ++ (spaces after ++ ps)) ≡ spaces back ++ (xs ++ (spaces next ++ qs)) → ps ≡ qs
spaced_tells c seen xs h true true after next ps qs hp hq e =
    let tails : xs ++ (spaces after ++ ps) ≡ xs ++ (spaces next ++ qs) = cc in
    spaces_tell after next ps qs hp hq (append_cancel_left xs (spaces after ++ ps) (spaces next ++ qs) tails)
spaced_tells c seen xs h false false after next ps qs hp hq e =
    spaces_tell after next ps qs hp hq (append_cancel_left xs (spaces after ++ ps) (spaces next ++ qs) e)
spaced_tells c seen xs h true false after next ps qs hp hq e =
    absurd (no_shift c seen xs (spaces after ++ ps) (spaces next ++ qs) h e)
spaced_tells c seen xs h false true after next ps qs hp hq e =
    absurd (no_shift c seen xs (spaces next ++ qs) (spaces after ++ ps) h (sym e))

-- how many characters aren't spaces
abbrev pub no_spaces : List ℕ → ℕ
no_spaces [] = 0
no_spaces (c ∷ cs) = (if c == 32 then 0 else 1) + no_spaces cs

-- of two texts together, those of both
pub no_spaces-append : (xs ys : List ℕ) → no_spaces (xs ++ ys) ≡ no_spaces xs + no_spaces ys
no_spaces-append [] ys = omega arith
no_spaces-append (c ∷ cs) ys = let more = no_spaces-append cs ys in omega (arith, more)

-- of spaces none
pub no_spaces-spaces : (b : Bool) → no_spaces (spaces b) ≡ 0
no_spaces-spaces true = refl
no_spaces-spaces false = refl
