-- Where the texts of locales are cut.
use Rattle.std.proofs.Common.{◌≡◌, ℕ, suc, ◌+◌, ◌<◌, List, [], ◌∷◌, ◌++◌, length, get_or, take, drop, true, false}
use Rattle.std.proofs.Common.{refl, sym, ap, append_assoc, arith}
use Rattle.std.proofs.Math.Seq.{drop-cons, take-suc}
use Rattle.std.proofs.lemmas.List.{append-nil}
use Rattle.locnum_options.specs.Locale.{before_mark, is_mark, is_separator, onto_subtag, subtags_of}

-- the next number
plus-one : (n : ℕ) → n + 1 ≡ suc n
plus-one n = omega arith

-- a byte more that is no mark
before_mark-more : (b : ℕ) (bs : List ℕ) → is_mark b ≡ false → before_mark (b ∷ bs) ≡ b ∷ before_mark bs
unfolding before_mark
before_mark-more b bs h = rw h refl

-- a mark
before_mark-end : (b : ℕ) (bs : List ℕ) → is_mark b ≡ true → before_mark (b ∷ bs) ≡ []
unfolding before_mark
before_mark-end b bs h = rw h refl

-- the bytes so far stand before the first mark
pub before_mark-step : (bs : List ℕ) (n : ℕ) → n < length bs → is_mark (get_or bs n 0) ≡ false →
    take n bs ++ before_mark (drop n bs) ≡ take (n + 1) bs ++ before_mark (drop (n + 1) bs)
before_mark-step bs n l h = rw (plus-one n, drop-cons bs n 0 l, before_mark-more (get_or bs n 0) (drop (suc n) bs) h, take-suc bs n 0 l)
    (sym (append_assoc (take n bs) (get_or bs n 0 ∷ []) (before_mark (drop (suc n) bs))))

-- the bytes so far are all before the first mark
pub before_mark-here : (bs : List ℕ) (n : ℕ) → n < length bs → is_mark (get_or bs n 0) ≡ true →
    take n bs ++ before_mark (drop n bs) ≡ take n bs
before_mark-here bs n l h = rw (drop-cons bs n 0 l, before_mark-end (get_or bs n 0) (drop (suc n) bs) h) (append-nil (take n bs))

-- bytes in front of the first of some subtags
abbrev pub onto_first : List ℕ → List (List ℕ) → List (List ℕ)
onto_first bs [] = []
onto_first bs (subtag ∷ subtags) = (bs ++ subtag) ∷ subtags

-- nothing in front
pub onto_first-none : (subtags : List (List ℕ)) → onto_first [] subtags ≡ subtags
onto_first-none [] = refl
onto_first-none (subtag ∷ subtags) = refl

-- a byte more in front
onto_first-more : (front : List ℕ) (b : ℕ) (subtags : List (List ℕ)) →
    onto_first front (onto_subtag b subtags) ≡ onto_first (front ++ b ∷ []) subtags
onto_first-more front b [] = refl
onto_first-more front b (subtag ∷ subtags) = ap (λ s. s ∷ subtags) (sym (append_assoc front (b ∷ []) subtag))

-- a byte of the first subtag
subtags_of-more : (b : ℕ) (bs : List ℕ) → is_separator b ≡ false → subtags_of (b ∷ bs) ≡ onto_subtag b (subtags_of bs)
unfolding subtags_of
subtags_of-more b bs h = rw h refl

-- a separator
subtags_of-end : (b : ℕ) (bs : List ℕ) → is_separator b ≡ true → subtags_of (b ∷ bs) ≡ [] ∷ subtags_of bs
unfolding subtags_of
subtags_of-end b bs h = rw h refl

-- the bytes so far are in front of the first subtag
pub subtags_of-step : (bs : List ℕ) (n : ℕ) → n < length bs → is_separator (get_or bs n 0) ≡ false →
    onto_first (take n bs) (subtags_of (drop n bs)) ≡ onto_first (take (n + 1) bs) (subtags_of (drop (n + 1) bs))
subtags_of-step bs n l h = rw (plus-one n, drop-cons bs n 0 l, subtags_of-more (get_or bs n 0) (drop (suc n) bs) h, take-suc bs n 0 l)
    (onto_first-more (take n bs) (get_or bs n 0) (subtags_of (drop (suc n) bs)))

-- the bytes so far are the first subtag
pub subtags_of-here : (bs : List ℕ) (n : ℕ) → n < length bs → is_separator (get_or bs n 0) ≡ true →
    onto_first (take n bs) (subtags_of (drop n bs)) ≡ take n bs ∷ subtags_of (drop (n + 1) bs)
subtags_of-here bs n l h = rw (plus-one n, drop-cons bs n 0 l, subtags_of-end (get_or bs n 0) (drop (suc n) bs) h)
    (ap (λ s. s ∷ subtags_of (drop (suc n) bs)) (append-nil (take n bs)))

-- all the bytes are one subtag
pub subtags_of-last : (bs : List ℕ) → onto_first bs (subtags_of []) ≡ bs ∷ []
unfolding subtags_of
subtags_of-last bs = ap (λ s. s ∷ []) (append-nil bs)
