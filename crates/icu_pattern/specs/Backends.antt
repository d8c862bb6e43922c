-- Lemmas on what the backends of patterns accept, and on the equality of patterns. They stand here and not in proofs/
-- because the impls of `PatternBackend` and of the comparisons cite them.
use Rattle.std.specs.Prelude.{◌≡◌, true, ℕ, ◌≤◌, ◌<◌, List, Option, Some, None, IfSome, IsSome, IsTrue, refl, is_none, length, slice_index}
use Rattle.std.specs.Cmp.{IsEquivalence}
use Rattle.std.specs.Cmp.Lexicographic.{options_equiv}
use Rattle.std.specs.Option.{option_map_or}
use Rattle.std.specs.Str.{IsCharBoundary}
use Rattle.std.proofs.Common.{arith, inl, inr}
use Rattle.std.proofs.lemmas.Bool.{leb-true, ltb-true, and_parts, or_cases}
use Rattle.std.proofs.lemmas.Cmp.{and_equiv, on_equiv, nat_eq_equiv, nat_list_eq_equiv}
use Rattle.icu_pattern.specs.Patterns.{PatternText, PlaceholderFits, is_boundary, has_fitting_placeholder, has_no_placeholder, placeholder_alone, same_pattern}

-- where the test passes, the text may be cut at byte k
pub IsCharBoundary-tested : (text : List ℕ) (k : ℕ) → is_boundary text k ≡ true → IsCharBoundary text k
IsCharBoundary-tested text k e =
    let p = and_parts _ _ e in (
      leb-true _ _ p.0,
      λ within high. elim (or_cases _ _ p.1) [
        | inl l ↦ absurd (let m : length text ≤ k = leb-true _ _ l in omega arith)
        | inr r ↦ elim (or_cases _ _ r) [ inl l ↦ absurd (let m : slice_index text k < 128 = ltb-true _ _ l in omega arith) | inr l ↦ leb-true _ _ l ]
      ],
    )

-- what passes the test of `SinglePlaceholder` has no placeholder, or one that fits
pub PlaceholderFits-tested : (p : PatternText) → IsTrue (has_fitting_placeholder p) → PlaceholderFits p
PlaceholderFits-tested p h = go p.literal p.placeholder h
  where
    go : (literal : List ℕ) (placeholder : Option ℕ) → IsTrue (option_map_or (is_boundary literal) placeholder true)
        → IfSome placeholder (λ k. IsCharBoundary literal k)
    go literal None h = tt
    go literal (Some k) h = IsCharBoundary-tested literal k h

-- what passes the test of `NoPlaceholder` has no placeholder, and so fits
pub PlaceholderFits-without : (p : PatternText) → IsTrue (has_no_placeholder p) → PlaceholderFits p
PlaceholderFits-without p h = go p.literal p.placeholder h
  where
    go : (literal : List ℕ) (placeholder : Option ℕ) → IsTrue (is_none placeholder) → IfSome placeholder (λ k. IsCharBoundary literal k)
    go literal None h = tt
    go literal (Some k) h = absurd (cc)

-- `SinglePlaceholder` accepts the placeholder alone
pub placeholder_alone-fits : (p : PatternText) → IsTrue (has_fitting_placeholder p) → IsSome p.placeholder
    → IsTrue (has_fitting_placeholder placeholder_alone)
placeholder_alone-fits p h s = refl

-- `NoPlaceholder` accepts no pattern with a placeholder, so the law on the placeholder alone asks nothing of it
pub placeholder_alone-without : (p : PatternText) → IsTrue (has_no_placeholder p) → IsSome p.placeholder → IsTrue (has_no_placeholder placeholder_alone)
placeholder_alone-without p h s = absurd (go p.placeholder h s)
  where
    go : (placeholder : Option ℕ) → IsTrue (is_none placeholder) → IsSome placeholder → ⊥
    go None h s = absurd (cc)
    go (Some k) h s = absurd (cc)

-- the equality of patterns is an equivalence
pub same_pattern_equiv : IsEquivalence same_pattern
same_pattern_equiv = and_equiv (on_equiv (λ (p : PatternText). p.placeholder) (options_equiv nat_eq_equiv))
    (on_equiv (λ (p : PatternText). p.literal) nat_list_eq_equiv)
