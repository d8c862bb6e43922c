-- Where a text may be cut.
use Rattle.std.proofs.Common.{◌≡◌, ℕ, Bool, true, false, ◌↔◌, IsTrue, List, length, slice_index, leb, ltb, refl, sym, ap, ◌++◌, append-nil}
use Rattle.std.proofs.Common.{◌∙◌, inl, inr}
use Rattle.std.specs.Str.{IsCharBoundary}
use Rattle.std.proofs.lemmas.Bool.{cases_Bool, le-leb, lt-leb, lt-ltb, le-ltb, cases_lt}
use Rattle.icu_pattern.specs.Backends.{IsCharBoundary-tested}
use Rattle.writeable.specs.Events.{Event}
use Rattle.icu_pattern.specs.Patterns.{is_boundary, placeholder_alone, interpolated}
use Rattle.writeable.proofs.EventLemmas.{text_events-nil}

is_boundary-passed : (text : List ℕ) (k : ℕ) → IsCharBoundary text k → is_boundary text k ≡ true
is_boundary-passed text k h =
    let a : leb k (length text) ≡ true = le-leb _ _ h.0 in
    elim (cases_lt k (length text)) [
      | inr le ↦ let b : leb (length text) k ≡ true = le-leb _ _ le in rw (a, b) refl
      | inl lt ↦
          let b : leb (length text) k ≡ false = lt-leb _ _ lt in
          elim (cases_lt (slice_index text k) 128) [
            | inl low ↦ let c : ltb (slice_index text k) 128 ≡ true = lt-ltb _ _ low in rw (a, b, c) refl
            | inr high ↦ let c : ltb (slice_index text k) 128 ≡ false = le-ltb _ _ high in let d : leb 192 (slice_index text k) ≡ true =
                le-leb _ _ (h.1 lt high) in rw (a, b, c, d) refl
          ]
    ]

-- a `bool` that determines whether a text may be cut at byte k equals the test
pub is_boundary_of : (text : List ℕ) (k : ℕ) (b : Bool) → (IsTrue b ↔ IsCharBoundary text k) → b ≡ is_boundary text k
is_boundary_of text k true h = sym (is_boundary-passed text k (h.0 refl))
is_boundary_of text k false h = elim (cases_Bool (is_boundary text k)) [ inl t ↦ h.1 (IsCharBoundary-tested text k t) ∙ sym t | inr f ↦ sym f ]

-- the pattern that is a placeholder alone writes a value as it is
pub interpolated_alone : (es : List Event) → interpolated placeholder_alone es ≡ es
interpolated_alone es = ap (λ (l : List Event). l ++ (es ++ l)) text_events-nil ∙ append-nil es
