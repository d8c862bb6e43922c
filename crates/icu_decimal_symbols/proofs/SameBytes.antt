-- Symbols are the same exactly where their bytes are.
use Rattle.std.proofs.Common.{◌≡◌, ℕ, true, false, List, [], ◌∷◌, refl, sym, ap, ◌∙◌, inl, inr}
use Rattle.std.specs.Prelude.{nat_eq}
use Rattle.std.specs.Cmp.Lexicographic.{pointwise}
use Rattle.std.proofs.lemmas.Bool.{cases_Bool, and_parts, eqb-true, eq-eqb}
use Rattle.icu_decimal_symbols.specs.Symbols.{texts_of, same_texts}
use Rattle.icu_decimal_symbols.specs.SymbolBytes.{packed, texts_in, IsSymbolBytes}
use Rattle.icu_decimal_symbols.proofs.SymbolPacking.{written}

bytes_true : (a b : List ℕ) → pointwise nat_eq a b ≡ true → a ≡ b
bytes_true [] [] e = refl
bytes_true [] (y ∷ ys) e = absurd cc
bytes_true (x ∷ xs) [] e = absurd cc
bytes_true (x ∷ xs) (y ∷ ys) e =
    let p = and_parts (nat_eq x y) (pointwise nat_eq xs ys) e in
    let h : x ≡ y = eqb-true _ _ p.0 in
    let t : xs ≡ ys = bytes_true xs ys p.1 in
    cc

texts_true : (a b : List (List ℕ)) → pointwise (pointwise nat_eq) a b ≡ true → a ≡ b
texts_true [] [] e = refl
texts_true [] (y ∷ ys) e = absurd cc
texts_true (x ∷ xs) [] e = absurd cc
texts_true (x ∷ xs) (y ∷ ys) e =
    let p = and_parts (pointwise nat_eq x y) (pointwise (pointwise nat_eq) xs ys) e in
    let h : x ≡ y = bytes_true x y p.0 in
    let t : xs ≡ ys = texts_true xs ys p.1 in
    cc

bytes_same : (a : List ℕ) → pointwise nat_eq a a ≡ true
bytes_same [] = refl
bytes_same (x ∷ xs) = let h : nat_eq x x ≡ true = eq-eqb x x refl in let t = bytes_same xs in rw (h, t) refl

texts_same : (a : List (List ℕ)) → pointwise (pointwise nat_eq) a a ≡ true
texts_same [] = refl
texts_same (x ∷ xs) = let h = bytes_same x in let t = texts_same xs in rw (h, t) refl

-- symbols have the same bytes exactly where they have the same texts
pub same_bytes : (a b : List ℕ) → IsSymbolBytes a → IsSymbolBytes b → pointwise nat_eq a b ≡ same_texts (texts_in a) (texts_in b)
same_bytes a b ha hb =
    elim (cases_Bool (pointwise nat_eq a b)) [
      | inl t ↦ t ∙ sym (ap (λ (x : List ℕ). pointwise (pointwise nat_eq) (texts_of (texts_in a)) (texts_of (texts_in x))) (sym (bytes_true a b t))
          ∙ texts_same (texts_of (texts_in a)))
      | inr f ↦ elim (cases_Bool (pointwise (pointwise nat_eq) (texts_of (texts_in a)) (texts_of (texts_in b)))) [
        | inl t ↦ absurd (let e : a ≡ b = sym (written a ha.counted ha.whole) ∙ ap packed (texts_true (texts_of (texts_in a)) (texts_of (texts_in b)) t)
            ∙ written b hb.counted hb.whole in
            let g : pointwise nat_eq a b ≡ true = ap (λ (x : List ℕ). pointwise nat_eq a x) (sym e) ∙ bytes_same a in
            let x : true ≡ false = sym g ∙ f in cc)
        | inr g ↦ f ∙ sym g
      ]
    ]
