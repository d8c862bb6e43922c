-- Entries of compact money that repeat the texts of the one before under another exponent.
use Rattle.std.proofs.Common.{◌≡◌, ℕ, ◌+◌, ◌-◌, ◌<◌, ◌≤◌, ◌==◌, List, [], ◌∷◌, length, length-drop, drop, get_or, Option}
use Rattle.std.proofs.Common.{Some, None}
use Rattle.std.proofs.Common.{Bool, true, false, ◌&&◌, if◌then◌else◌, refl, sym, ap, ap₂, ◌∙◌, arith}
use Rattle.std.specs.Prelude.{not, nat_eq, option_map}
use Rattle.std.specs.Borrow.{Bor}
use Rattle.std.specs.Cmp.Lexicographic.{pointwise}
use Rattle.std.specs.Option.{option_eq}
use Rattle.std.proofs.lemmas.Bool.Decides.{nat_tests}
use Rattle.icu_dimension_tables.specs.CurrencyCompact.{first_repeated, repeats}
use Rattle.icu_plurals.specs.Elements.{Elements, same_elements, without_explicit_one}
use Rattle.icu_table_entries.specs.PatternTexts.{texts_lent}
use Rattle.icu_tables.proofs.Maps.{entries_from}
use Rattle.icu_tables.specs.declared.compact.ListedEntry.{ListedEntry}

-- whether two lent texts are the same
abbrev same_text : Bor (List ℕ) → Bor (List ℕ) → Bool
same_text x y = pointwise nat_eq x.now y.now

same_option : (x y : Option (Bor (List ℕ))) →
    option_eq same_text x y ≡ option_eq (pointwise nat_eq) (option_map (λ (s : Bor (List ℕ)). s.now) x) (option_map (λ (s : Bor (List ℕ)). s.now) y)
same_option None None = refl
same_option None (Some y) = refl
same_option (Some x) None = refl
same_option (Some x) (Some y) = refl

both : {p q r s : Bool} → p ≡ q → r ≡ s → (p && r) ≡ (q && s)
both e f = ap₂ (λ (x y : Bool). x && y) e f

-- texts are the same as they are lent
same_lent : (a b : Elements (Bor (List ℕ))) →
    same_elements same_text (without_explicit_one a) b ≡ same_elements (pointwise nat_eq) (without_explicit_one (texts_lent a)) (texts_lent b)
same_lent a b =
    both (same_option a.explicit_zero b.explicit_zero) (both (same_option None b.explicit_one) (both (same_option a.zero b.zero)
    (both (same_option a.one b.one) (both (same_option a.two b.two) (both (same_option a.few b.few) (both (same_option a.many b.many) refl))))))

-- under another exponent the texts decide
pub repeats_by_texts : (before e : ListedEntry) (a b : Elements (Bor (List ℕ))) → texts_lent a ≡ before.texts → texts_lent b ≡ e.texts →
    (before.exponent ≡ e.exponent → ⊥) → same_elements same_text (without_explicit_one a) b ≡ repeats before e
repeats_by_texts before e a b is are differ =
    let test : not (before.exponent == e.exponent) ≡ true = grind (arith, nat_tests, differ) in
    let texts = same_elements (pointwise nat_eq) (without_explicit_one before.texts) e.texts in
    same_lent a b ∙ ap₂ (λ x y. same_elements (pointwise nat_eq) (without_explicit_one x) y) is are ∙ sym (ap (λ (t : Bool). t && texts) test)

-- the entries from the one before an index on
from_before : (es : List ListedEntry) (i : ℕ) (before e : ListedEntry) → 0 < i → before ≡ get_or es (i - 1) before → e ≡ get_or es i e
    → i < length es
    → drop (i - 1) es ≡ before ∷ e ∷ drop (i + 1) es
from_before es i before e positive is are lt =
    let next : (i - 1) + 1 ≡ i = omega arith in
    entries_from es (i - 1) before is (omega arith) ∙ ap (λ n. before ∷ drop n es) next ∙ ap (λ l. before ∷ l) (entries_from es i e are lt)

module _ (es : List ListedEntry) (i : ℕ) (before e : ListedEntry) (positive : 0 < i) (is : before ≡ get_or es (i - 1) before) (are : e ≡ get_or es i e)
    (lt : i < length es) (so_far : first_repeated (drop (i - 1) es) ≡ first_repeated es) where
  -- an entry that repeats the one before it is the first
  pub repeated_here : true ≡ repeats before e → Some e.log10_type ≡ first_repeated es
  repeated_here h =
      let rest = first_repeated (e ∷ drop (i + 1) es) in
      ap (λ (t : Bool). if t then Some e.log10_type else rest) h
      ∙ ap first_repeated (sym (from_before es i before e positive is are lt)) ∙ so_far

  -- else the entries from it on decide
  pub repeated_later : false ≡ repeats before e → first_repeated (drop ((i + 1) - 1) es) ≡ first_repeated es
  repeated_later h =
      let rest = first_repeated (e ∷ drop (i + 1) es) in
      let next : (i + 1) - 1 ≡ i = omega arith in
      ap (λ n. first_repeated (drop n es)) next ∙ ap first_repeated (entries_from es i e are lt)
      ∙ ap (λ (t : Bool). if t then Some e.log10_type else rest) h
      ∙ ap first_repeated (sym (from_before es i before e positive is are lt)) ∙ so_far

one_alone : (es : List ListedEntry) → length es ≤ 1 → first_repeated es ≡ None
one_alone [] few = refl
one_alone (e ∷ []) few = refl
one_alone (e ∷ f ∷ es) few = absurd (omega arith)

-- behind the last entry none is left
pub repeated_nowhere : (es : List ListedEntry) (i : ℕ) → length es ≤ i → first_repeated (drop (i - 1) es) ≡ first_repeated es →
    None ≡ first_repeated es
repeated_nowhere es i ended so_far = sym (one_alone (drop (i - 1) es) (omega (arith, length-drop (i - 1) es))) ∙ so_far
