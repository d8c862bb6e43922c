use Rattle.std.proofs.Common.{◌≡◌, ℕ, zero, suc, ◌<◌, ◌≤◌, arith, refl, sym, ap, ◌∙◌, subst, List, ◌∷◌, ◌++◌, length, All}
use Rattle.std.proofs.Common.{Contains, chars, slice_index_or, false, ◌==◌}
use Rattle.std.specs.Str.{IsUtf8}
use Rattle.std.specs.Str.Iter.{chars_rest}
use Rattle.std.specs.Char.{encode_utf8}
use Rattle.std.proofs.lemmas.Bool.{eq-eqb, eqb-true}
use Rattle.std.proofs.lemmas.List.{nil_from_length}
use Rattle.std.proofs.lemmas.Str.{chars_past_char, chars-nil, IsUtf8-past_char}
use Rattle.icu_decimal_readable.proofs.readable.has_no_digit.Invariants.{Goes}
use Rattle.icu_decimal_readable.proofs.readable.has_no_digit.Goals as goal

all_more : (P : ℕ → Type 0) (x : ℕ) (xs : List ℕ) → P x → All P xs → All P (x ∷ xs)
all_more P x xs h hs zero d l = h
all_more P x xs h hs (suc k) d l = hs k d (omega arith)

all_rest : (P : ℕ → Type 0) (x : ℕ) (xs : List ℕ) → All P (x ∷ xs) → All P xs
all_rest P x xs h k d l = h (suc k) d (omega arith)

goes_on : (digits bytes rest next : List ℕ) (c : ℕ) → Goes digits bytes rest → rest ≡ encode_utf8 c ++ next → ¬ (Contains digits c) →
    Goes digits bytes next
goes_on digits bytes rest next c g e other =
    let step = chars_past_char rest next c g.utf8 e in
    record {
      utf8 = IsUtf8-past_char rest next c g.utf8 e;
      on = λ h. all_rest (λ x. ¬ (Contains digits x)) c (chars next) (subst (All (λ x. ¬ (Contains digits x))) step (g.on h));
      back = λ h. g.back (subst (All (λ x. ¬ (Contains digits x))) (sym step) (all_more (λ x. ¬ (Contains digits x)) c (chars next) other h));
    }

begins : (digits bytes rest : List ℕ) → IsUtf8 bytes → rest ≡ bytes → Goes digits bytes rest
begins digits bytes rest utf8 e = subst (Goes digits bytes) (sym e) (record { utf8 = utf8; on = λ h. h; back = λ h. h })

-- a digit at the front refutes that there is none
found : (digits bytes rest next : List ℕ) (c : ℕ) → Goes digits bytes rest → rest ≡ encode_utf8 c ++ next → Contains digits c →
    All (λ x. ¬ (Contains digits x)) (chars bytes) → ⊥
found digits bytes rest next c g e has h = subst (All (λ x. ¬ (Contains digits x))) (chars_past_char rest next c g.utf8 e) (g.on h) 0 c (omega arith) has

ends : (digits bytes rest : List ℕ) → Goes digits bytes rest → length rest ≡ 0 → All (λ x. ¬ (Contains digits x)) (chars bytes)
ends digits bytes rest g e = g.back (subst (All (λ x. ¬ (Contains digits x))) (sym (ap chars (nil_from_length rest e) ∙ chars-nil))
    (λ k d l. absurd (omega arith)))

not_among : (digits : List ℕ) (c : ℕ) → ((k d : ℕ) → 0 ≤ k → k < length digits → (slice_index_or digits k d == c) ≡ false) →
    ¬ (Contains digits c)
not_among digits c h (k, l, is) =
    let differs = h k c (omega arith) l in
    let same = eq-eqb (slice_index_or digits k c) c is in
    cc

pub loop-c-init : goal.loop-c-init
loop-c-init c =
    let e : chars_rest c.into_iter-c-iterator.result ≡ c.args.text.now =
    ap chars_rest c.into_iter-c-iterator.ensures.into_iter_gives ∙ c.chars-c-items.ensures.rest in
    (tt, tt, begins c.args.digits.now c.args.text.now _ c.utf8.text e)

pub loop-c-preserved : goal.loop-c-preserved
loop-c-preserved c = (
  tt,
  tt,
  goes_on c.args.digits.now c.args.text.now _ _ c.in-Some.c c.loop-c.invariant.2 c.in-Some.ensures.steps.0
      (not_among c.args.digits.now c.in-Some.c c.if-contains.ensures.cases),
)

pub returns-then-contains : goal.returns-then-contains
returns-then-contains c =
    let has = c.if-contains.ensures.cases in (
      λ e. cc,
      λ all. absurd (found c.args.digits.now c.args.text.now _ _ c.in-Some.c c.loop-c.invariant.2 c.in-Some.ensures.steps.0
          (has.0, has.1, eqb-true _ _ (has.2 c.in-Some.c)) all),
    )

pub returns : goal.returns
returns c = (λ e. ends c.args.digits.now c.args.text.now _ c.loop-c.invariant.2 c.in-None.ensures.steps.0.0, λ all. refl)
