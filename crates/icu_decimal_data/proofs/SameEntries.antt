-- Patterns, elements and entries that `==` finds equal are the same.
use Rattle.std.proofs.Common.{◌≡◌, Bool, true, refl, ap, List, [], ◌∷◌, Option, Some, None, nat_eq}
use Rattle.std.specs.Bool.{Decides}
use Rattle.std.specs.Option.{option_eq}
use Rattle.std.specs.Cmp.Lexicographic.{pointwise}
use Rattle.std.proofs.lemmas.Bool.Decides.{Decides-eqb}
use Rattle.std.proofs.lemmas.Slice.Eq.{bytes_eq-Decides}
use Rattle.std.proofs.lemmas.Bool.{and_parts, and_from}
use Rattle.icu_pattern.specs.Patterns.{PatternText, same_pattern}
use Rattle.icu_plurals.specs.Elements.{Elements, same_elements}
use Rattle.icu_decimal_data.specs.CompactTable.{PatternElements, TableEntry}
use Rattle.icu_decimal_data.specs.Kept.{same_patterns}
use Rattle.icu_decimal_data.specs.SameTable.{same_entry, same_table}

module _ {T : Type 0} where
  pub option_eq-Decides : (eq : T → T → Bool) → ((x y : T) → Decides (eq x y) (x ≡ y)) → (a b : Option T) → Decides (option_eq eq a b) (a ≡ b)
  option_eq-Decides eq d None None = (λ _. refl, λ _. refl)
  option_eq-Decides eq d None (Some y) = (λ h. absurd (cc), λ h. absurd (cc))
  option_eq-Decides eq d (Some x) None = (λ h. absurd (cc), λ h. absurd (cc))
  option_eq-Decides eq d (Some x) (Some y) = (λ h. ap Some ((d x y).0 h), λ h. (d x y).1 (cc))

  pub same_elements-Decides : (eq : T → T → Bool) → ((x y : T) → Decides (eq x y) (x ≡ y)) → (a b : Elements T) →
      Decides (same_elements eq a b) (a ≡ b)
  same_elements-Decides eq d a b = (
    λ h.
        let r0 = and_parts (option_eq eq a.explicit_zero b.explicit_zero) _ h in
        let r1 = and_parts (option_eq eq a.explicit_one b.explicit_one) _ r0.1 in
        let r2 = and_parts (option_eq eq a.zero b.zero) _ r1.1 in
        let r3 = and_parts (option_eq eq a.one b.one) _ r2.1 in
        let r4 = and_parts (option_eq eq a.two b.two) _ r3.1 in
        let r5 = and_parts (option_eq eq a.few b.few) _ r4.1 in
        let r6 = and_parts (option_eq eq a.many b.many) _ r5.1 in
        λ i. record {
          explicit_zero = (option_eq-Decides eq d a.explicit_zero b.explicit_zero).0 r0.0 i;
          explicit_one = (option_eq-Decides eq d a.explicit_one b.explicit_one).0 r1.0 i;
          zero = (option_eq-Decides eq d a.zero b.zero).0 r2.0 i;
          one = (option_eq-Decides eq d a.one b.one).0 r3.0 i;
          two = (option_eq-Decides eq d a.two b.two).0 r4.0 i;
          few = (option_eq-Decides eq d a.few b.few).0 r5.0 i;
          many = (option_eq-Decides eq d a.many b.many).0 r6.0 i;
          other = (d a.other b.other).0 r6.1 i;
        },
    λ h.
        and_from _ _ ((option_eq-Decides eq d a.explicit_zero b.explicit_zero).1 (ap (λ (e : Elements T). e.explicit_zero) h))
        (and_from _ _ ((option_eq-Decides eq d a.explicit_one b.explicit_one).1 (ap (λ (e : Elements T). e.explicit_one) h))
        (and_from _ _ ((option_eq-Decides eq d a.zero b.zero).1 (ap (λ (e : Elements T). e.zero) h))
        (and_from _ _ ((option_eq-Decides eq d a.one b.one).1 (ap (λ (e : Elements T). e.one) h))
        (and_from _ _ ((option_eq-Decides eq d a.two b.two).1 (ap (λ (e : Elements T). e.two) h))
        (and_from _ _ ((option_eq-Decides eq d a.few b.few).1 (ap (λ (e : Elements T). e.few) h))
        (and_from _ _ ((option_eq-Decides eq d a.many b.many).1 (ap (λ (e : Elements T). e.many) h))
        ((d a.other b.other).1 (ap (λ (e : Elements T). e.other) h)))))))),
  )

-- patterns are found equal exactly where they are the same
pub same_pattern-Decides : (p q : PatternText) → Decides (same_pattern p q) (p ≡ q)
same_pattern-Decides p q = (
  λ h.
      let r = and_parts (option_eq nat_eq p.placeholder q.placeholder) _ h in
      λ i. record {
        placeholder = (option_eq-Decides nat_eq Decides-eqb p.placeholder q.placeholder).0 r.0 i;
        literal = (bytes_eq-Decides p.literal q.literal).0 r.1 i;
      },
  λ h.
      and_from _ _ ((option_eq-Decides nat_eq Decides-eqb p.placeholder q.placeholder).1 (ap (λ (e : PatternText). e.placeholder) h))
      ((bytes_eq-Decides p.literal q.literal).1 (ap (λ (e : PatternText). e.literal) h)),
)

-- the same of the patterns of an entry
pub same_patterns-Decides : (a b : PatternElements) → Decides (same_patterns a b) (a ≡ b)
same_patterns-Decides = same_elements-Decides same_pattern same_pattern-Decides

-- patterns that are equal are the same
pub the_same : (a b : PatternElements) → same_patterns a b ≡ true → a ≡ b
the_same a b = (same_patterns-Decides a b).0

-- lists are found equal exactly where they are the same, if their elements are
pub pointwise-Decides : {T : Type 0} (eq : T → T → Bool) → ((x y : T) → Decides (eq x y) (x ≡ y)) → (xs ys : List T) →
    Decides (pointwise eq xs ys) (xs ≡ ys)
pointwise-Decides eq d [] [] = (λ _. refl, λ _. refl)
pointwise-Decides eq d [] (y ∷ ys) = (λ h. absurd (cc), λ h. absurd (cc))
pointwise-Decides eq d (x ∷ xs) [] = (λ h. absurd (cc), λ h. absurd (cc))
pointwise-Decides eq d (x ∷ xs) (y ∷ ys) = (
  λ h.
      let r = and_parts (eq x y) _ h in
      λ i. (d x y).0 r.0 i ∷ (pointwise-Decides eq d xs ys).0 r.1 i,
  λ h. and_from _ _ ((d x y).1 (cc)) ((pointwise-Decides eq d xs ys).1 (cc)),
)

-- entries are found equal exactly where they are the same
pub same_entry-Decides : (e f : TableEntry) → Decides (same_entry e f) (e ≡ f)
same_entry-Decides e f = (
  λ h.
      let r0 = and_parts (nat_eq e.log10_type f.log10_type) _ h in
      let r1 = and_parts (nat_eq e.exponent f.exponent) _ r0.1 in
      λ i. record {
        log10_type = (Decides-eqb e.log10_type f.log10_type).0 r0.0 i;
        exponent = (Decides-eqb e.exponent f.exponent).0 r1.0 i;
        elements = (same_patterns-Decides e.elements f.elements).0 r1.1 i;
      },
  λ h.
      and_from _ _ ((Decides-eqb e.log10_type f.log10_type).1 (ap (λ (g : TableEntry). g.log10_type) h))
      (and_from _ _ ((Decides-eqb e.exponent f.exponent).1 (ap (λ (g : TableEntry). g.exponent) h))
      ((same_patterns-Decides e.elements f.elements).1 (ap (λ (g : TableEntry). g.elements) h))),
)

-- tables are equal exactly where they are the same
pub same_table-Decides : (a b : List TableEntry) → Decides (same_table a b) (a ≡ b)
same_table-Decides = pointwise-Decides same_entry same_entry-Decides
