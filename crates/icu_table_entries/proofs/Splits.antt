-- Where a text is split at its first `{0}`.
use Rattle.std.proofs.Common.{◌≡◌, ℕ, zero, suc, ◌+◌, ◌≤◌, ◌<◌, true, false, List, [], ◌∷◌, ◌++◌, length, take, drop, Option}
use Rattle.std.proofs.Common.{Some, None, option_map, refl, sym, ap, ◌∙◌, arith, codes, eqb, Bor, inl, inr, get_or, length-append}
use Rattle.std.specs.List.{starts_with}
use Rattle.std.specs.Option.{MatchOption}
use Rattle.std.specs.Str.{IsCharBoundary, IsUtf8}
use Rattle.std.specs.Str.Pattern.{FindsText, LacksTextAt, SplitsAroundMatch}
use Rattle.std.proofs.lemmas.Bool.{cases_Bool}
use Rattle.std.proofs.lemmas.List.{get_or-append-add}
use Rattle.std.proofs.lemmas.Bool.Decides.{Decides-eqb}
use Rattle.std.proofs.lemmas.Slice.Eq.{starts_is}
use Rattle.std.proofs.lemmas.Str.{IsCharBoundary-start}
use Rattle.icu_pattern.specs.Patterns.{is_boundary}
use Rattle.icu_pattern.proofs.Boundaries.{is_boundary_of}
use Rattle.icu_table_entries.specs.Spelling.{split_at_placeholder}

-- how a placeholder is spelled
abbrev mark : List ℕ
mark = codes "{0}"

-- a text without it at its start
not_start : (s : List ℕ) → LacksTextAt mark s 0 → starts_with eqb s mark ≡ false
not_start s h = elim (cases_Bool (starts_with eqb s mark)) [ inl t ↦ absurd (h (drop 3 s) ((starts_is Decides-eqb s mark _ refl).0 t)) | inr f ↦ f ]

-- a text without it anywhere isn't split
split_none : (s : List ℕ) → ((i : ℕ) → i ≤ length s → LacksTextAt mark s i) → split_at_placeholder s ≡ None
unfolding split_at_placeholder
split_none [] h = refl
split_none (b ∷ bs) h =
    let first = not_start (b ∷ bs) (h 0 (omega arith)) in
    let rest = split_none bs (λ i le. h (suc i) (omega (arith, le))) in
    rw (first, rest) refl

-- and one with it is split at the first
split_some : (s : List ℕ) (i j : ℕ) → ((k : ℕ) → k < i → LacksTextAt mark s k) → drop i s ≡ mark ++ drop j s → j ≡ i + 3 →
    split_at_placeholder s ≡ Some (take i s, drop j s)
unfolding split_at_placeholder
split_some [] zero j before split ends = absurd cc
split_some [] (suc i) j before split ends = absurd cc
split_some (b ∷ bs) zero j before split ends =
    let starts = (starts_is Decides-eqb (b ∷ bs) mark _ refl).1 (drop j (b ∷ bs)) split in
    let three : j ≡ 3 = omega (arith, ends) in
    rw (starts, three) refl
split_some (b ∷ bs) (suc i) zero before split ends = absurd (omega (arith, ends))
split_some (b ∷ bs) (suc i) (suc j) before split ends =
    let first = not_start (b ∷ bs) (before 0 (omega arith)) in
    let rest = split_some bs i j (λ k lt. before (suc k) (omega (arith, lt))) split (omega (arith, ends)) in
    rw (first, rest) refl

-- std's split around the first `{0}` is that of the definition
pub split_where_found : (text : List ℕ) (r : Option (Bor (List ℕ) × Bor (List ℕ)))
    → MatchOption r (FindsText (codes "{0}") text None) (λ x. SplitsAroundMatch (FindsText (codes "{0}")) text x.0.now x.1.now)
    → option_map (λ p. (p.0.now, p.1.now)) r ≡ split_at_placeholder text
split_where_found text None h = sym (split_none text h)
split_where_found text (Some x) h = rw (h.3, h.4) (sym (split_some text h.0 h.1 h.2.0 h.2.1.split h.2.1.ends))

-- between two texts that stand together a pattern may have its placeholder
pub boundary_between : (before after : List ℕ) → IsUtf8 after → is_boundary (before ++ after) (length before) ≡ true
boundary_between before after valid = sym (is_boundary_of (before ++ after) (length before) true (λ _. between, λ _. refl))
  where
    between : IsCharBoundary (before ++ after) (length before)
    between =
        let long : length (before ++ after) ≡ length before + length after = length-append before after in
        let here : length before ≡ length before + 0 = omega arith in
        let same : get_or (before ++ after) (length before) 0 ≡ get_or after 0 0 =
        ap (λ k. get_or (before ++ after) k 0) here ∙ get_or-append-add before after 0 0 in
        let start = IsCharBoundary-start after valid in
        (omega (arith, long), λ within high. rw same (start.1 (omega (arith, long, within)) (rw same at high)))
