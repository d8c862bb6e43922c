-- Where a text is split at the first mark in it.
use Rattle.std.proofs.Common.{◌≡◌, ℕ, zero, suc, ◌+◌, ◌≤◌, ◌<◌, false, List, [], ◌∷◌, ◌++◌, length, take, drop, Option}
use Rattle.std.proofs.Common.{Some, None, option_map, refl, sym, arith, eqb, Bor, inl, inr}
use Rattle.std.specs.List.{starts_with}
use Rattle.std.specs.Option.{MatchOption}
use Rattle.std.specs.Str.Pattern.{FindsText, LacksTextAt, SplitsAroundMatch}
use Rattle.std.proofs.lemmas.Bool.{cases_Bool}
use Rattle.std.proofs.lemmas.Bool.Decides.{Decides-eqb}
use Rattle.std.proofs.lemmas.Slice.Eq.{starts_is}
use Rattle.icu_dimension_tables.specs.NamePlaceholders.{split_at}

-- a text without the mark at its start
not_start : (mark s : List ℕ) → LacksTextAt mark s 0 → starts_with eqb s mark ≡ false
not_start mark s h = elim (cases_Bool (starts_with eqb s mark)) [
  | inl t ↦ absurd (h (drop (length mark) s) ((starts_is Decides-eqb s mark _ refl).0 t))
  | inr f ↦ f
]

-- a text without it anywhere isn't split
split_none : (mark s : List ℕ) → ((i : ℕ) → i ≤ length s → LacksTextAt mark s i) → split_at mark s ≡ None
unfolding split_at
split_none mark [] h = refl
split_none mark (b ∷ bs) h =
    let first = not_start mark (b ∷ bs) (h 0 (omega arith)) in
    let rest = split_none mark bs (λ i le. h (suc i) (omega (arith, le))) in
    rw (first, rest) refl

-- and one with it is split at the first
split_some : (mark s : List ℕ) (i j : ℕ) → 0 < length mark → ((k : ℕ) → k < i → LacksTextAt mark s k) → drop i s ≡ mark ++ drop j s
    → j ≡ i + length mark → split_at mark s ≡ Some (take i s, drop j s)
unfolding split_at
split_some [] s i j some before split ends = absurd (omega (arith, some))
split_some (m ∷ ms) [] zero j some before split ends = absurd cc
split_some (m ∷ ms) [] (suc i) j some before split ends = absurd cc
split_some (m ∷ ms) (b ∷ bs) zero j some before split ends =
    let starts = (starts_is Decides-eqb (b ∷ bs) (m ∷ ms) _ refl).1 (drop j (b ∷ bs)) split in
    let at : j ≡ length (m ∷ ms) = omega (arith, ends) in
    rw (starts, at) refl
split_some (m ∷ ms) (b ∷ bs) (suc i) zero some before split ends = absurd (omega (arith, ends))
split_some (m ∷ ms) (b ∷ bs) (suc i) (suc j) some before split ends =
    let first = not_start (m ∷ ms) (b ∷ bs) (before 0 (omega arith)) in
    let rest = split_some (m ∷ ms) bs i j some (λ k lt. before (suc k) (omega (arith, lt))) split (omega (arith, ends)) in
    rw (first, rest) refl

-- std's split around the first mark is that of the definition
pub split_where_found : (mark text : List ℕ) (r : Option (Bor (List ℕ) × Bor (List ℕ))) → 0 < length mark
    → MatchOption r (FindsText mark text None) (λ x. SplitsAroundMatch (FindsText mark) text x.0.now x.1.now)
    → option_map (λ p. (p.0.now, p.1.now)) r ≡ split_at mark text
split_where_found mark text None some h = sym (split_none mark text h)
split_where_found mark text (Some x) some h =
    rw (h.3, h.4) (sym (split_some mark text h.0 h.1 some h.2.0 h.2.1.split h.2.1.ends))
