-- What a readable text determines.
use Rattle.std.proofs.Common.{◌≡◌, ℕ, sym, ap, ap₂, ◌∙◌, List, ◌++◌, map}
use Rattle.std.specs.Str.{chars}
use Rattle.std.proofs.lemmas.Str.{encodes_same}
use Rattle.fixed_decimal.specs.Unsigned.{Unsigned, IsUnsigned, fraction}
use Rattle.writeable.specs.Events.{Event, characters, text_of}
use Rattle.icu_decimal.specs.Decimal.{DecimalFormat, decimal_events, unsigned_events}
use Rattle.icu_decimal_readable.specs.Readable.{Surroundings, affixes, IsFreeOfDigits, IsReadable}
use Rattle.icu_decimal.specs.ReadableLaws.{EqualTextsTellTheDecimal, TextTellsTheDecimal}
use Rattle.icu_decimal.proofs.CharactersShown.{digit_characters, groups_of, characters-unsigned, characters-signed}
use Rattle.icu_decimal.proofs.DigitsDistinct.{IsDigitOf, IsOther, characters_tell, fraction_below, unsigned_same, groups_tell, group_characters}
use Rattle.icu_decimal.proofs.DigitsDistinct.{fraction_characters}
use Rattle.icu_decimal.proofs.Runs.{Every, every_of_all, number_tells}

-- no digit before the number and none after it
pub record AreOthers (f : DecimalFormat) (a : Surroundings) : Type 0 where
  pub before : Every (IsOther f) a.before
  pub after : Every (IsOther f) a.after

-- texts without a digit have other characters alone
pub are_others : (f : DecimalFormat) (a : Surroundings) → IsFreeOfDigits f.digits a → AreOthers f a
are_others f a h = record { before = every_of_all (IsOther f) a.before h.before_free; after = every_of_all (IsOther f) a.after h.after_free }

-- a number between surroundings determines itself and them
pub unsigned_tells : (f : DecimalFormat) (a b : Surroundings) (c d : Unsigned) → IsReadable f.symbols.strings f.digits → AreOthers f a → AreOthers f b →
    IsUnsigned c → IsUnsigned d
    → a.before ++ (characters (unsigned_events f c) ++ a.after) ≡ b.before ++ (characters (unsigned_events f d) ++ b.after) → (a ≡ b) × (c ≡ d)
unsigned_tells f a b c d h ha hb hc hd e =
    let gc = group_characters f h c hc in
    let gd = group_characters f h d hd in
    let distinct = number_tells (IsDigitOf f) (IsOther f) (λ x is no. no is) (chars f.symbols.strings.decimal_separator)
    (every_of_all (IsOther f) (chars f.symbols.strings.decimal_separator) h.decimal_free) h.decimal_some
    (chars f.symbols.strings.grouping_separator) (every_of_all (IsOther f) (chars f.symbols.strings.grouping_separator) h.grouping_free) h.separators_differ
    (map (λ g. digit_characters f g) (groups_of f c)) (map (λ g. digit_characters f g) (groups_of f d))
    (digit_characters f (fraction c)) (digit_characters f (fraction d)) a.before b.before a.after b.after
    gc.0 gd.0 gc.1 gd.1 (fraction_characters f h c hc) (fraction_characters f h d hd) ha.before hb.before ha.after hb.after
    (sym (ap (λ l. a.before ++ (l ++ a.after)) (characters-unsigned f c)) ∙ e ∙ ap (λ l. b.before ++ (l ++ b.after)) (characters-unsigned f d)) in
    let integers = groups_tell f h c d hc hd distinct.2 in
    let fractions = characters_tell f h (fraction c) (fraction d) (fraction_below c hc) (fraction_below d hd) distinct.3 in
    let of : List ℕ → List ℕ → Surroundings = λ x y. record { before = x; after = y } in
    (ap₂ of distinct.0 distinct.1, unsigned_same c d hc hd integers fractions)

-- equal texts of a readable formatter are of equal decimals
pub text_tells : TextTellsTheDecimal
text_tells f s t c d h hc hd e =
    let distinct = unsigned_tells f (affixes f.symbols.strings s) (affixes f.symbols.strings t) c d h
    (are_others f (affixes f.symbols.strings s) (h.affixes_free s)) (are_others f (affixes f.symbols.strings t) (h.affixes_free t)) hc hd
    (sym (characters-signed f s (unsigned_events f c)) ∙ e ∙ characters-signed f t (unsigned_events f d)) in
    (h.sign_distinct s t distinct.0, distinct.1)

-- equal texts have equal characters: UTF-8 spells no two lists of characters alike
pub same_characters : (es fs : List Event) (one other : List ℕ) → one ≡ text_of es → other ≡ text_of fs → one ≡ other →
    characters es ≡ characters fs
same_characters es fs one other first second same = encodes_same (characters es) (characters fs) (sym first ∙ same ∙ second)

-- so are those that `format_to_string` answers
pub equal_texts_tell : EqualTextsTellTheDecimal
equal_texts_tell f s t c d one other h hc hd first second same =
    text_tells f s t c d h hc hd (same_characters (decimal_events f s c) (decimal_events f t d) one other first second same)
