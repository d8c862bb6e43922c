-- Where a text is a range pattern by the tests of the definition.
use Rattle.std.proofs.Common.{◌≡◌, ◌≢◌, ℕ, zero, suc, ◌+◌, ◌-◌, ◌<◌, true, false, arith}
use Rattle.std.proofs.Common.{List, [], ◌∷◌, ◌++◌, length, take, drop, get_or}
use Rattle.std.proofs.Common.{Result, Ok, Err, refl, sym, ap, ◌∙◌, inl, inr, length-append}
use Rattle.std.specs.Prelude.{codes, nat_eq, not, ◌==◌}
use Rattle.std.specs.Cmp.Lexicographic.{pointwise}
use Rattle.std.proofs.lemmas.Bool.{and_parts, cases_Bool, eqb-true, eq-eqb}
use Rattle.icu_ranges.specs.Separator.{IsRangePattern, Lacks, Separator, separator_of}
use Rattle.icu_ranges.proofs.PatternCuts.{bytes_same, bytes_true}
use Rattle.icu_range_tables.specs.RangePatterns.{has_bytes, inner_of, is_range_pattern, lacks, range_pattern_of}
use Rattle.icu_table_entries.specs.Named.{refused}
use Rattle.icu_table_entries.specs.declared.error.EntryFault.TheVariants.{BadRangePattern}
use Rattle.icu_table_entries.specs.declared.error.Position.{Position}

-- a byte that differs
not_equal : (a b : ℕ) → not (a == b) ≡ true → a ≡ b → ⊥
not_equal a b e same = let h : nat_eq a b ≡ true = eq-eqb a b same in let k = rw h at e in absurd cc

-- and one that is told to
differs : (a b : ℕ) → a ≢ b → not (a == b) ≡ true
differs a b h = elim (cases_Bool (a == b)) [
  | inl e ↦ absurd (h (eqb-true a b e))
  | inr e ↦ rw e refl
]

-- what the test says of each byte
lacks_each : (byte : ℕ) (bs : List ℕ) → lacks byte bs ≡ true → Lacks byte bs
lacks_each byte [] e i lt = absurd (omega arith)
lacks_each byte (b ∷ bs) e zero lt = not_equal b byte (and_parts _ _ e).0
lacks_each byte (b ∷ bs) e (suc i) lt = lacks_each byte bs (and_parts _ _ e).1 i (omega arith)

-- and what each byte says of the test
each_lacks : (byte : ℕ) (bs : List ℕ) → Lacks byte bs → lacks byte bs ≡ true
each_lacks byte [] h = refl
each_lacks byte (b ∷ bs) h =
    let first = differs b byte (h 0 (omega arith)) in
    let rest = each_lacks byte bs (λ i lt. h (suc i) (omega arith)) in
    rw (first, rest) refl

-- a beginning
take_front : (xs ys : List ℕ) → take (length xs) (xs ++ ys) ≡ xs
take_front [] ys = refl
take_front (x ∷ xs) ys = ap (λ t. x ∷ t) (take_front xs ys)

-- the separator is what is left without the two places
inner_is : (text s : List ℕ) → text ≡ codes "{0}" ++ (s ++ codes "{1}") → inner_of text ≡ s
inner_is text s e =
    let n : length text - 6 ≡ length s = omega (arith, ap length e, length-append s (codes "{1}")) in
    let d : drop 3 text ≡ s ++ codes "{1}" = ap (drop 3) e in
    ap (λ k. take k (drop 3 text)) n ∙ ap (take (length s)) d ∙ take_front s (codes "{1}")

-- some bytes
has_some : (s : List ℕ) → s ≢ [] → has_bytes s ≡ true
has_some [] h = absurd (h refl)
has_some (b ∷ bs) h = differs (suc (length bs)) 0 (λ e. omega arith)

some_has : (s : List ℕ) → has_bytes s ≡ true → s ≢ []
some_has [] e = λ _. absurd cc
some_has (b ∷ bs) e = λ none. absurd cc

-- a range pattern passes the tests
passes : (text s : List ℕ) → IsRangePattern text s → is_range_pattern text s ≡ true
passes text s p =
    let places : pointwise nat_eq text (codes "{0}" ++ (s ++ codes "{1}")) ≡ true =
    ap (λ t. pointwise nat_eq text t) (sym p.places) ∙ bytes_same text in
    let some = has_some s p.some in
    let opening = each_lacks 123 s p.no_opening_brace in
    let closing = each_lacks 125 s p.no_closing_brace in
    rw (places, some, opening, closing) refl

-- what passes them is one
passed : (text s : List ℕ) → is_range_pattern text s ≡ true → IsRangePattern text s
passed text s e =
    let places = and_parts (pointwise nat_eq text (codes "{0}" ++ (s ++ codes "{1}"))) _ e in
    let some = and_parts (has_bytes s) _ places.1 in
    let braces = and_parts (lacks 123 s) (lacks 125 s) some.1 in
    record {
      places = bytes_true text _ places.0;
      some = some_has s some.0;
      no_opening_brace = lacks_each 123 s braces.0;
      no_closing_brace = lacks_each 125 s braces.1;
    }

-- a pattern that is read is that of the definition
pub pattern_read : (position : Position) (text s : List ℕ) (p : Separator) → IsRangePattern text s → p ≡ separator_of s →
    range_pattern_of position text ≡ Ok p
unfolding range_pattern_of
pattern_read position text s p h e =
    let inner = inner_is text s h.places in
    let good : is_range_pattern text (inner_of text) ≡ true = ap (is_range_pattern text) inner ∙ passes text s h in
    rw (good, e) (ap (λ t. Ok (separator_of t)) inner)

-- a text that is rejected is rejected by the definition
pub pattern_rejected : (position : Position) (text : List ℕ) → ((s : List ℕ) → ¬ (IsRangePattern text s)) →
    range_pattern_of position text ≡ refused position BadRangePattern
unfolding range_pattern_of
pattern_rejected position text h = elim (cases_Bool (is_range_pattern text (inner_of text))) [
  | inl good ↦ absurd (h (inner_of text) (passed text (inner_of text) good))
  | inr bad ↦ rw bad refl
]
