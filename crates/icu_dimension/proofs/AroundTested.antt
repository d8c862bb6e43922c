-- What tests of patterns show of what stands around numbers.
use Rattle.std.proofs.Common.{◌≡◌, ◌≢◌, ◌↔◌, ℕ, List, IsTrue, Bool, refl, sym, ap, ap₂, subst}
use Rattle.fixed_decimal.specs.declared.signs.Sign.{Sign}
use Rattle.fixed_decimal.specs.declared.signs.Sign.TheVariants.{None as NoSign, Negative, Positive}
use Rattle.icu_decimal_readable.specs.Readable.{Surroundings, IsFreeOfDigits}
use Rattle.icu_dimension_data.specs.Comparing.{HasNoneOf, HaveSameCharacters}
use Rattle.icu_dimension_data.specs.Resolved.{Signed, affixes_of}
use Rattle.icu_dimension_data.specs.Surrounding.{SignedText}
use Rattle.icu_dimension.specs.MoneyReadable.{SignsDifferAround, money_surroundings}

-- what stands around numbers of a sign, as `for_sign` lends it
abbrev pub of_sign : Signed → Sign → SignedText
of_sign patterns s = record { affixes = affixes_of patterns s; texts = patterns.texts }

-- none of the digits stands there where the pattern has none of them
pub free_tested : (digits : List ℕ) (patterns : Signed) (s : Sign) (p : SignedText) (b : Bool) → p ≡ of_sign patterns s →
    IsTrue b ↔ HasNoneOf digits p → IsTrue b ↔ IsFreeOfDigits digits (money_surroundings patterns s)
free_tested digits patterns s p b is test = (
  λ e. let h = subst (HasNoneOf digits) is (test.0 e) in record { before_free = h.before_free; after_free = h.after_free },
  λ h. test.1 (subst (HasNoneOf digits) (sym is) (record { before_free = h.before_free; after_free = h.after_free })),
)

-- two patterns have the same characters where the same stands around numbers
pub same_tested : (p q : Signed) (s t : Sign) (a : SignedText) → a ≡ of_sign p s →
    HaveSameCharacters a (of_sign q t) ↔ (money_surroundings p s ≡ money_surroundings q t)
same_tested p q s t a is = (
  λ h.
      let same = subst (λ (x : SignedText). HaveSameCharacters x (of_sign q t)) is h in
      let of : List ℕ → List ℕ → Surroundings = λ x y. record { before = x; after = y } in
      ap₂ of same.before_same same.after_same,
  λ e. subst (λ (x : SignedText). HaveSameCharacters x (of_sign q t)) (sym is)
      (record { before_same = ap (λ (x : Surroundings). x.before) e; after_same = ap (λ (x : Surroundings). x.after) e }),
)

-- patterns that are lent
pub lent_tested : (q : Signed) (t : Sign) (a b : SignedText) (r : Bool) → b ≡ of_sign q t → IsTrue r ↔ HaveSameCharacters a b →
    IsTrue r ↔ HaveSameCharacters a (of_sign q t)
lent_tested q t a b r is test = (
  λ e. subst (HaveSameCharacters a) is (test.0 e),
  λ h. test.1 (subst (HaveSameCharacters a) (sym is) h),
)

-- of two signs
pub signs_tested : (p : Signed) (s t : Sign) (a b : SignedText) (r : Bool) → a ≡ of_sign p s → b ≡ of_sign p t →
    IsTrue r ↔ HaveSameCharacters a b → IsTrue r ↔ (money_surroundings p s ≡ money_surroundings p t)
signs_tested p s t a b r is are test =
    let lent = lent_tested p t a b r are test in
    let same = same_tested p p s t a is in
    (λ e. same.0 (lent.0 e), λ h. lent.1 (same.1 h))

-- three surroundings that differ determine their sign
pub sign_distinct_around : (p : Signed) → money_surroundings p NoSign ≢ money_surroundings p Negative →
    money_surroundings p NoSign ≢ money_surroundings p Positive → money_surroundings p Negative ≢ money_surroundings p Positive → SignsDifferAround p
sign_distinct_around p m n b NoSign NoSign e = refl
sign_distinct_around p m n b NoSign Negative e = absurd (m e)
sign_distinct_around p m n b NoSign Positive e = absurd (n e)
sign_distinct_around p m n b Negative NoSign e = absurd (m (sym e))
sign_distinct_around p m n b Negative Negative e = refl
sign_distinct_around p m n b Negative Positive e = absurd (b e)
sign_distinct_around p m n b Positive NoSign e = absurd (n (sym e))
sign_distinct_around p m n b Positive Negative e = absurd (b (sym e))
sign_distinct_around p m n b Positive Positive e = refl

-- what stands around numbers of a sign differs from what the others have around theirs, whatever the sign
abbrev pub DiffersFromEach : Signed → Signed → Sign → Type 0
DiffersFromEach p q s = (t : Sign) → money_surroundings p s ≢ money_surroundings q t

-- it does where its pattern has other characters than each of the others
pub each_tested : (p q : Signed) (s : Sign) (a : SignedText) (b : Bool) → a ≡ of_sign p s →
    IsTrue b ↔ ((t : Sign) → ¬ (HaveSameCharacters a (of_sign q t))) → IsTrue b ↔ DiffersFromEach p q s
each_tested p q s a b is test = (
  λ e t same. test.0 e t ((same_tested p q s t a is).1 same),
  λ h. test.1 (λ t same. h t ((same_tested p q s t a is).0 same)),
)
