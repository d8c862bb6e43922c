-- What a readable compact text determines.
use Rattle.std.proofs.Common.{◌≡◌, ◌⊎◌, ℕ, refl, sym, ap, ◌∙◌, List, ◌++◌, take, drop, append_assoc, Option, Some, None, IsSome}
use Rattle.std.proofs.Common.{unwrap_or, inl, inr}
use Rattle.std.specs.Str.{chars}
use Rattle.std.proofs.lemmas.Bool.{cases_Bool}
use Rattle.fixed_decimal.specs.declared.signs.Sign.{Sign}
use Rattle.fixed_decimal.specs.Unsigned.{Unsigned}
use Rattle.icu_plurals.specs.Elements.{explicit_value, category_value, is_exactly, selected}
use Rattle.writeable.specs.Events.{Event, characters, text_events, without_parts}
use Rattle.icu_plurals.specs.Operands.{Operands, operands_of}
use Rattle.icu_pattern.specs.Patterns.{PatternText, around}
use Rattle.icu_plurals.specs.Rules.{category_of}
use Rattle.icu_plurals.specs.declared.category.PluralCategory.{PluralCategory}
use Rattle.icu_plurals.specs.declared.category.PluralCategory.TheVariants.{Zero, One, Two, Few, Many, Other}
use Rattle.icu_decimal_data.specs.CompactTable.{PatternElements, TableEntry}
use Rattle.writeable.proofs.EventLemmas.{characters-map_Char}
use Rattle.writeable.proofs.LawLemmas.{characters-without_parts}
use Rattle.icu_decimal.specs.CompactFormat.{CompactFormat, pattern_of, filled_events}
use Rattle.icu_decimal.specs.Decimal.{unsigned_events, signed_events}
use Rattle.icu_decimal_readable.specs.Readable.{Surroundings, affixes, sides_at, sides, surroundings, HasPattern, IsEntryOf, IsPatternBy}
use Rattle.icu_decimal.specs.Readable.{IsReadableCompact}
use Rattle.icu_decimal.specs.ReadableLaws.{IsWrittenBy, CompactTextTells}
use Rattle.icu_decimal.proofs.CharactersShown.{characters-signed, characters-around}
use Rattle.icu_decimal.proofs.DigitsDistinct.{IsOther}
use Rattle.icu_decimal.proofs.Runs.{every-append}
use Rattle.icu_decimal.proofs.TextsDistinct.{AreOthers, are_others, unsigned_tells}

-- an optional value, or another
chosen : (x : Option PatternText) (y : PatternText) → (x ≡ Some (unwrap_or x y)) ⊎ (unwrap_or x y ≡ y)
chosen None y = inr refl
chosen (Some x) y = inl refl

module _ (e : PatternElements) where
  by_category : (category : PluralCategory) → HasPattern e (unwrap_or (category_value e category) e.other)
  by_category Zero = elim (chosen e.zero e.other) [ inl h ↦ inr (inr (inl h)) | inr h ↦ inr (inr (inr (inr (inr (inr (inr (sym h))))))) ]
  by_category One = elim (chosen e.one e.other) [ inl h ↦ inr (inr (inr (inl h))) | inr h ↦ inr (inr (inr (inr (inr (inr (inr (sym h))))))) ]
  by_category Two = elim (chosen e.two e.other) [ inl h ↦ inr (inr (inr (inr (inl h)))) | inr h ↦ inr (inr (inr (inr (inr (inr (inr (sym h))))))) ]
  by_category Few = elim (chosen e.few e.other) [ inl h ↦ inr (inr (inr (inr (inr (inl h))))) | inr h ↦ inr (inr (inr (inr (inr (inr (inr (sym h))))))) ]
  by_category Many = elim (chosen e.many e.other) [
    | inl h ↦ inr (inr (inr (inr (inr (inr (inl h))))))
    | inr h ↦
        inr (inr (inr (inr (inr (inr (inr (sym h)))))))
  ]
  by_category Other = inr (inr (inr (inr (inr (inr (inr refl))))))

  -- an explicit value, or that of the category
  explicit_or : (x : Option PatternText) (category : PluralCategory) → ((p : PatternText) → x ≡ Some p → HasPattern e p) →
      HasPattern e (unwrap_or x (unwrap_or (category_value e category) e.other))
  explicit_or None category of = by_category category
  explicit_or (Some p) category of = of p refl

  -- the pattern that operands pick is one of the entry
  pub selected_is : (o : Operands) (category : PluralCategory) → HasPattern e (selected e o category)
  selected_is o category = explicit_or (explicit_value e o) category (λ p h. explicit p h)
    where
      explicit : (p : PatternText) → explicit_value e o ≡ Some p → HasPattern e p
      explicit p h = elim (cases_Bool (is_exactly 0 o)) [
        | inl zero_is ↦ let same : explicit_value e o ≡ e.explicit_zero = rw zero_is refl in inl (sym same ∙ h)
        | inr not_zero ↦ elim (cases_Bool (is_exactly 1 o)) [
          | inl one_is ↦ let same : explicit_value e o ≡ e.explicit_one = rw (not_zero, one_is) refl in inr (inl (sym same ∙ h))
          | inr not_one ↦ let none : explicit_value e o ≡ None = rw (not_zero, not_one) refl in absurd cc
        ]
      ]

-- the pattern of an entry is one of its patterns
pattern_is : (f : CompactFormat) (by : Option TableEntry) (significand : Unsigned) → IsEntryOf f.table by →
    IsPatternBy f.table by (pattern_of f by significand)
pattern_is f None significand h = refl
pattern_is f (Some e) significand h = (h, selected_is e.elements (operands_of significand 0) (category_of f.rules (operands_of significand 0)))

characters-with_placeholder : (placeholder : Option ℕ) (literal : List ℕ) (es : List Event) → IsSome placeholder →
    characters (around literal placeholder es) ≡ (sides_at placeholder literal).before ++ (characters es ++ (sides_at placeholder literal).after)
characters-with_placeholder None literal es some = cc
characters-with_placeholder (Some n) literal es some = characters-around (text_events (take n literal)) es (text_events (drop n literal))
    (chars (take n literal))
    (chars (drop n literal)) (characters-map_Char (chars (take n literal))) (characters-map_Char (chars (drop n literal)))

regroup : (a b c d e : List ℕ) → a ++ ((b ++ (c ++ d)) ++ e) ≡ (a ++ b) ++ (c ++ (d ++ e))
regroup a b c d e = simp append_assoc

module _ (f : CompactFormat) (sign : Sign) (by : Option TableEntry) (significand : Unsigned) where
  -- what stands around the significand
  abbrev pub around_it : Surroundings
  around_it = surroundings f.decimal.symbols.strings sign (pattern_of f by significand)

  -- the significand's own characters
  abbrev pub inside : List ℕ
  inside = characters (unsigned_events f.decimal significand)

  -- events between the affixes of the sign, with the characters of the number in its pattern
  between : (es : List Event) → IsSome (pattern_of f by significand).placeholder → characters es ≡ characters (filled_events f by significand)
      → characters (signed_events f.decimal.symbols sign es) ≡ around_it.before ++ (inside ++ around_it.after)
  between es some same =
      let a = affixes f.decimal.symbols.strings sign in
      let p = pattern_of f by significand in
      characters-signed f.decimal sign es
      ∙ ap (λ l. a.before ++ (l ++ a.after)) (same ∙ characters-with_placeholder p.placeholder p.literal (unsigned_events f.decimal significand) some)
      ∙ regroup a.before (sides p).before inside (sides p).after a.after

  -- the characters of a number that is written by an entry, in either way
  pub characters-written : (es : List Event) → IsSome (pattern_of f by significand).placeholder → IsWrittenBy f sign by significand es →
      characters es ≡ around_it.before ++ (inside ++ around_it.after)
  characters-written es some (inl shown) = ap characters shown
      ∙ between (without_parts (filled_events f by significand)) some (characters-without_parts (filled_events f by significand))
  characters-written es some (inr given) = ap characters given ∙ between (filled_events f by significand) some refl

  -- no digit stands around it
  pub around_others : IsReadableCompact f → IsEntryOf f.table by → AreOthers f.decimal around_it
  around_others h k =
      let outer = are_others f.decimal (affixes f.decimal.symbols.strings sign) (h.plain_readable.affixes_free sign) in
      let inner = are_others f.decimal (sides (pattern_of f by significand))
      (h.table_readable.sides_free by (pattern_of f by significand) (pattern_is f by significand k)) in
      record {
        before = every-append (IsOther f.decimal) (affixes f.decimal.symbols.strings sign).before (sides (pattern_of f by significand)).before outer.before
            inner.before;
        after = every-append (IsOther f.decimal) (sides (pattern_of f by significand)).after (affixes f.decimal.symbols.strings sign).after inner.after
            outer.after;
      }

-- equal compact texts of a readable formatter have equal signs, significands and exponents
pub compact_tells : CompactTextTells
compact_tells f s t by to c d es fs h hby hto hc hd wx wy e =
    let kx = pattern_is f by c hby in
    let ky = pattern_is f to d hto in
    let distinct = unsigned_tells f.decimal (around_it f s by c) (around_it f t to d) c d h.plain_readable
    (around_others f s by c h hby) (around_others f t to d h hto) hc hd
    (sym (characters-written f s by c es (h.table_readable.has_placeholder by (pattern_of f by c) kx) wx) ∙ e
    ∙ characters-written f t to d fs (h.table_readable.has_placeholder to (pattern_of f to d) ky) wy) in
    let both = h.table_readable.distinct s t by to (pattern_of f by c) (pattern_of f to d) kx ky distinct.0 in
    (both.0, distinct.1, both.1)
