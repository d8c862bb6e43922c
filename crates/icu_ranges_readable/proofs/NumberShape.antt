-- The characters of a number are digits, with separators in their gaps.
use Rattle.std.proofs.Common.{◌≡◌, ◌≢◌, ◌⊎◌, inl, inr, ℕ, refl, sym, ap, ◌∙◌, subst}
use Rattle.std.proofs.Common.{List, [], ◌∷◌, ◌++◌, append_assoc, append-nil, map}
use Rattle.std.specs.Str.{chars}
use Rattle.fixed_decimal.specs.Unsigned.{Unsigned, IsUnsigned, fraction}
use Rattle.writeable.specs.Events.{characters}
use Rattle.icu_decimal.specs.Decimal.{DecimalFormat, unsigned_events}
use Rattle.icu_decimal.proofs.CharactersShown.{digit_characters, groups_of, characters-unsigned}
use Rattle.icu_decimal.proofs.DigitsDistinct.{IsDigitOf, IsOther, fraction_characters, group_characters}
use Rattle.icu_decimal.proofs.Runs.{Every, Runs, every_of_all, fraction_text}
use Rattle.icu_decimal_options.specs.Grouping.{joined, joined_after}
use Rattle.icu_decimal_readable.specs.Readable.{IsReadable}
use Rattle.icu_ranges_readable.proofs.Numerals.{Tail, text, IsGap, IsNumeral}
use Rattle.icu_ranges_readable.proofs.Numerals.Tail.{end, digit, gap}

-- digits, and then more
abbrev pub digits_then : List ℕ → Tail → Tail
digits_then [] t = t
digits_then (x ∷ xs) t = digit x (digits_then xs t)

-- a separator and digits; nothing without digits
abbrev pub fraction_tail : List ℕ → List ℕ → Tail
fraction_tail decimal [] = end
fraction_tail decimal (x ∷ xs) = gap decimal x (digits_then xs end)

-- groups with a separator before each, which may be empty, and then more
abbrev pub groups_then : List ℕ → List (List ℕ) → Tail → Tail
groups_then group [] t = t
groups_then group ([] ∷ gs) t = groups_then group gs t
groups_then [] ((x ∷ g) ∷ gs) t = digit x (digits_then g (groups_then [] gs t))
groups_then (s ∷ group) ((x ∷ g) ∷ gs) t = gap (s ∷ group) x (digits_then g (groups_then (s ∷ group) gs t))

-- the characters of digits and more
text-digits : (xs : List ℕ) (t : Tail) → text (digits_then xs t) ≡ xs ++ text t
text-digits [] t = refl
text-digits (x ∷ xs) t = ap (λ l. x ∷ l) (text-digits xs t)

-- those of a fraction
text-fraction : (decimal xs : List ℕ) → text (fraction_tail decimal xs) ≡ fraction_text decimal xs
text-fraction decimal [] = refl
text-fraction decimal (x ∷ xs) = ap (λ l. decimal ++ (x ∷ l)) (text-digits xs end ∙ append-nil xs)

-- D: a digit; N: any other character; G: a separator
module _ (D N : ℕ → Type 0) (G : List ℕ → Type 0) where
  -- those of groups and more
  text-groups : (group : List ℕ) (gs : List (List ℕ)) (t : Tail) → Runs D gs →
      text (groups_then group gs t) ≡ joined_after group gs ++ text t
  text-groups group [] t h = refl
  text-groups group ([] ∷ gs) t h = absurd h
  text-groups [] ((x ∷ g) ∷ gs) t h =
      ap (λ l. x ∷ l) (text-digits g (groups_then [] gs t) ∙ ap (λ l. g ++ l) (text-groups [] gs t h.2)
      ∙ sym (append_assoc g (joined_after [] gs) (text t)))
  text-groups (s ∷ group) ((x ∷ g) ∷ gs) t h =
      ap (λ l. (s ∷ group) ++ (x ∷ l)) (text-digits g (groups_then (s ∷ group) gs t) ∙ ap (λ l. g ++ l) (text-groups (s ∷ group) gs t h.2)
      ∙ sym (append_assoc g (joined_after (s ∷ group) gs) (text t)))
      ∙ sym (append_assoc (s ∷ group) (x ∷ (g ++ joined_after (s ∷ group) gs)) (text t))

  -- digits and a numeral are a numeral
  is-digits : (xs : List ℕ) (t : Tail) → Every D xs → IsNumeral D N G t → IsNumeral D N G (digits_then xs t)
  is-digits [] t h ht = ht
  is-digits (x ∷ xs) t h ht = (h.0, is-digits xs t h.1 ht)

  -- a fraction is one
  is-fraction : (decimal xs : List ℕ) → IsGap D N G decimal → Every D xs → IsNumeral D N G (fraction_tail decimal xs)
  is-fraction decimal [] hd h = tt
  is-fraction decimal (x ∷ xs) hd h = (hd, h.0, is-digits xs end h.1 tt)

  -- groups and a numeral are one
  is-groups : (group : List ℕ) (gs : List (List ℕ)) (t : Tail) → G group → Every N group → Runs D gs → IsNumeral D N G t →
      IsNumeral D N G (groups_then group gs t)
  is-groups group [] t hg none h ht = ht
  is-groups group ([] ∷ gs) t hg none h ht = absurd h
  is-groups [] ((x ∷ g) ∷ gs) t hg none h ht = (h.0, is-digits g (groups_then [] gs t) h.1 (is-groups [] gs t hg none h.2 ht))
  is-groups (s ∷ group) ((x ∷ g) ∷ gs) t hg none h ht = (
    record { is = hg; some = λ e. cc; none = none },
    h.0,
    is-digits g (groups_then (s ∷ group) gs t) h.1 (is-groups (s ∷ group) gs t hg none h.2 ht),
  )

  -- a digit, and a numeral behind it
  pub record IsNumber (cs : List ℕ) : Type 0 where
    pub first : ℕ
    pub tail : Tail
    pub all : cs ≡ first ∷ text tail
    pub is_digit : D first
    pub is_numeral : IsNumeral D N G tail

  -- groups of digits and a fraction are a number
  pub number_of : (decimal group : List ℕ) (gs : List (List ℕ)) (fs : List ℕ) → IsGap D N G decimal → G group → Every N group → Runs D gs
      → gs ≢ [] → Every D fs → IsNumber (joined group gs ++ fraction_text decimal fs)
  number_of decimal group [] fs hd hg none h some hf = absurd (some refl)
  number_of decimal group ([] ∷ gs) fs hd hg none h some hf = absurd h
  number_of decimal group ((x ∷ g) ∷ gs) fs hd hg none h some hf =
      let t = groups_then group gs (fraction_tail decimal fs) in
      record {
        first = x;
        tail = digits_then g t;
        all = ap (λ l. x ∷ l) (append_assoc g (joined_after group gs) (fraction_text decimal fs)
            ∙ ap (λ l. g ++ l) (ap (λ l. joined_after group gs ++ l) (sym (text-fraction decimal fs))
            ∙ sym (text-groups group gs (fraction_tail decimal fs) h.2))
            ∙ sym (text-digits g t));
        is_digit = h.0;
        is_numeral = is-digits g t h.1 (is-groups group gs (fraction_tail decimal fs) hg none h.2 (is-fraction decimal fs hd hf));
      }

-- a separator of a formatter's numbers
abbrev pub IsSeparatorOf : DecimalFormat → List ℕ → Type 0
IsSeparatorOf f m = (m ≡ chars f.symbols.strings.decimal_separator) ⊎ (m ≡ chars f.symbols.strings.grouping_separator)

-- the characters of a number of a readable formatter
pub is_number : (f : DecimalFormat) (c : Unsigned) → IsReadable f.symbols.strings f.digits → IsUnsigned c →
    IsNumber (IsDigitOf f) (IsOther f) (IsSeparatorOf f) (characters (unsigned_events f c))
is_number f c h hc =
    let gs = group_characters f h c hc in
    subst (IsNumber (IsDigitOf f) (IsOther f) (IsSeparatorOf f)) (sym (characters-unsigned f c))
    (number_of (IsDigitOf f) (IsOther f) (IsSeparatorOf f) (chars f.symbols.strings.decimal_separator) (chars f.symbols.strings.grouping_separator)
    (map (λ g. digit_characters f g) (groups_of f c)) (digit_characters f (fraction c))
    (record {
      is = inl refl;
      some = h.decimal_some;
      none = every_of_all (IsOther f) (chars f.symbols.strings.decimal_separator) h.decimal_free;
    })
    (inr refl) (every_of_all (IsOther f) (chars f.symbols.strings.grouping_separator) h.grouping_free) gs.0 gs.1 (fraction_characters f h c hc))
