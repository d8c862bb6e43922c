-- The parts of readability.
use Rattle.std.proofs.Common.{◌≡◌, ◌≢◌, ℕ, arith, refl, sym, ap, ap₂, ◌∙◌, List, [], length, AllPairs, chars, Bool, true, false, not}
use Rattle.std.proofs.Common.{IsTrue}
use Rattle.std.proofs.lemmas.Str.{chars-nil}
use Rattle.fixed_decimal.specs.declared.signs.Sign.{Sign}
use Rattle.fixed_decimal.specs.declared.signs.Sign.TheVariants.{Negative, Positive, None as NoSign}
use Rattle.icu_decimal_symbols.specs.Symbols.{SymbolTexts}
use Rattle.icu_decimal_readable.specs.Readable.{Surroundings, affixes, IsFreeOfDigits, IsFreeThroughout, SeparatorsDistinct, SignsDiffer, IsReadable}

-- the characters of both texts
abbrev pub pair : List ℕ → List ℕ → Surroundings
pair a b = record { before = chars a; after = chars b }

-- texts of the same characters make the same pair
pub same_pair : (a b c d : List ℕ) → (chars a ≡ chars c) × (chars b ≡ chars d) → pair a b ≡ pair c d
same_pair a b c d h = let of : List ℕ → List ℕ → Surroundings = λ x y. record { before = x; after = y } in ap₂ of h.0 h.1

nothing : (f : SymbolTexts) → affixes f NoSign ≡ pair [] []
nothing f = let of : List ℕ → List ℕ → Surroundings = λ x y. record { before = x; after = y } in ap₂ of (sym chars-nil) (sym chars-nil)

-- a pair that two signs share
pub minus_shown : (f : SymbolTexts) → SignsDiffer f → (chars f.minus_sign_prefix ≡ chars []) × (chars f.minus_sign_suffix ≡ chars []) → ⊥
minus_shown f h same = let e = h Negative NoSign (same_pair f.minus_sign_prefix f.minus_sign_suffix [] [] same ∙ sym (nothing f)) in cc

-- a plus that differs from no sign has a character
pub plus_shown : (f : SymbolTexts) → SignsDiffer f → (chars f.plus_sign_prefix ≡ chars []) × (chars f.plus_sign_suffix ≡ chars []) → ⊥
plus_shown f h same = let e = h Positive NoSign (same_pair f.plus_sign_prefix f.plus_sign_suffix [] [] same ∙ sym (nothing f)) in cc

-- minus and plus differ in an affix
pub both_differ : (f : SymbolTexts) → SignsDiffer f → (chars f.minus_sign_prefix ≡ chars f.plus_sign_prefix)
    × (chars f.minus_sign_suffix ≡ chars f.plus_sign_suffix) → ⊥
both_differ f h same = let e = h Negative Positive (same_pair f.minus_sign_prefix f.minus_sign_suffix f.plus_sign_prefix f.plus_sign_suffix same) in cc

parts : (a b : Surroundings) → a ≡ b → (a.before ≡ b.before) × (a.after ≡ b.after)
parts a b e = (ap (λ (x : Surroundings). x.before) e, ap (λ (x : Surroundings). x.after) e)

-- affixes that differ determine their sign
pub signs_distinct : (f : SymbolTexts)
    → ((chars f.minus_sign_prefix ≡ chars []) × (chars f.minus_sign_suffix ≡ chars []) → ⊥)
    → ((chars f.plus_sign_prefix ≡ chars []) × (chars f.plus_sign_suffix ≡ chars []) → ⊥)
    → ((chars f.minus_sign_prefix ≡ chars f.plus_sign_prefix) × (chars f.minus_sign_suffix ≡ chars f.plus_sign_suffix) → ⊥)
    → SignsDiffer f
signs_distinct f m p b NoSign NoSign e = refl
signs_distinct f m p b NoSign Negative e = absurd (m (parts (affixes f Negative) (pair [] []) (sym e ∙ nothing f)))
signs_distinct f m p b NoSign Positive e = absurd (p (parts (affixes f Positive) (pair [] []) (sym e ∙ nothing f)))
signs_distinct f m p b Negative NoSign e = absurd (m (parts (affixes f Negative) (pair [] []) (e ∙ nothing f)))
signs_distinct f m p b Negative Negative e = refl
signs_distinct f m p b Negative Positive e = absurd (b (parts (affixes f Negative) (affixes f Positive) e))
signs_distinct f m p b Positive NoSign e = absurd (p (parts (affixes f Positive) (pair [] []) (e ∙ nothing f)))
signs_distinct f m p b Positive Negative e = absurd (b (parts (affixes f Negative) (affixes f Positive) (sym e)))
signs_distinct f m p b Positive Positive e = refl

-- readability in its parts
pub readable_of : (f : SymbolTexts) (digits : List ℕ) → length digits ≡ 10 → AllPairs (λ c d. c ≢ d) digits → IsFreeThroughout f digits →
    SeparatorsDistinct f → SignsDiffer f → IsReadable f digits
readable_of f digits ten different free distinct signs = record {
  ten = ten;
  different = different;
  affixes_free = affixes_free;
  decimal_free = free.decimal_free;
  grouping_free = free.grouping_free;
  decimal_some = distinct.decimal_some;
  separators_differ = distinct.separators_differ;
  sign_distinct = signs;
}
  where
    affixes_free : (s : Sign) → IsFreeOfDigits digits (affixes f s)
    affixes_free NoSign = record { before_free = λ k d l. absurd (omega arith); after_free = λ k d l. absurd (omega arith) }
    affixes_free Negative = record { before_free = free.minus_prefix_free; after_free = free.minus_suffix_free }
    affixes_free Positive = record { before_free = free.plus_prefix_free; after_free = free.plus_suffix_free }

-- readable symbols have no digit in an affix or a separator
pub free_of : (f : SymbolTexts) (digits : List ℕ) → IsReadable f digits → IsFreeThroughout f digits
free_of f digits h = record {
  minus_prefix_free = (h.affixes_free Negative).before_free;
  minus_suffix_free = (h.affixes_free Negative).after_free;
  plus_prefix_free = (h.affixes_free Positive).before_free;
  plus_suffix_free = (h.affixes_free Positive).after_free;
  decimal_free = h.decimal_free;
  grouping_free = h.grouping_free;
}

-- what isn't true is false
pub untrue : (b : Bool) → (IsTrue b → ⊥) → IsTrue (not b)
untrue true h = absurd (h refl)
untrue false h = refl

-- nothing is both true and false
pub not_both : (b : Bool) → IsTrue (not b) → IsTrue b → ⊥
not_both true n h = cc
not_both false n h = cc

-- false isn't true
pub false_not_true : (b : Bool) → b ≡ false → IsTrue b → ⊥
false_not_true true f h = cc
false_not_true false f h = cc
