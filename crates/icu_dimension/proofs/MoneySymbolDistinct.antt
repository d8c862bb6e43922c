-- What a text of money determines in the pattern of a locale, whatever the currency: the characters around the number determine the sign
-- by their marks and then the symbol, and what is determined of the number is determined as before.
use Rattle.std.proofs.Common.{◌≡◌, ℕ, List, sym, ap, ◌∙◌}
use Rattle.std.specs.Str.{IsUtf8, chars, encode_utf8_all}
use Rattle.std.proofs.lemmas.Str.{encodes-chars}
use Rattle.icu_dimension_data.specs.Patterns.{PatternText}
use Rattle.icu_dimension_data.specs.Resolved.{Texts, resolved}
use Rattle.icu_decimal.proofs.TextsDistinct.{same_characters}
use Rattle.icu_dimension.specs.MoneyReadable.{HasNoDigitAround, money_surroundings}
use Rattle.icu_dimension.specs.MoneySymbol.{IsDistinctSymbol, TellsSymbols, with_symbol}
use Rattle.icu_dimension.specs.SymbolLaws.{EqualMoneyTextsOfOneSignTellSymbol, EqualMoneyTextsTellSymbol, MoneyTextOfOneSignTellsSymbol}
use Rattle.icu_dimension.specs.SymbolLaws.{MoneyTextTellsSymbol, MoneyThatTellsSymbolsIsReadable, plain_amount}
use Rattle.icu_dimension.proofs.AroundFree.{no_digit_stands_around}
use Rattle.icu_dimension.proofs.MarksDistinct.{sign_distinct}
use Rattle.icu_dimension.proofs.MoneyDistinct.{around_tells}
use Rattle.icu_dimension.proofs.SymbolDistinct.{symbol_distinct}

-- no digit stands around numbers in such a pattern
free_around : (digits marks : List ℕ) (p : PatternText) (texts : Texts) (currency : List ℕ) → TellsSymbols digits marks p texts →
    IsDistinctSymbol digits marks currency → HasNoDigitAround digits (resolved digits p (with_symbol texts currency))
free_around digits marks p texts currency h k =
    no_digit_stands_around digits p (with_symbol texts currency)
    (record {
      symbol_free = k.no_digit;
      minus_free = h.signs_free.minus_free;
      plus_free = h.signs_free.plus_free;
      percent_free = h.signs_free.percent_free;
    })
    h.pattern_free h.space_no_digit

-- in one sign the symbol is determined by its places
pub one_sign_tells_symbol : MoneyTextOfOneSignTellsSymbol
one_sign_tells_symbol f p texts one other s c d h free others shown ends other_ends hc hd e =
    let distinct = around_tells f (resolved f.digits p (with_symbol texts one)) (resolved f.digits p (with_symbol texts other)) s s c d h free others hc hd e in
    (distinct.1, symbol_distinct f.digits p texts one other s shown ends other_ends distinct.0)

-- in all signs the marks determine the sign first
pub money_tells_symbol : MoneyTextTellsSymbol
money_tells_symbol f marks p texts one other s t c d h tells k l hc hd e =
    let first = resolved f.digits p (with_symbol texts one) in
    let second = resolved f.digits p (with_symbol texts other) in
    let distinct = around_tells f first second s t c d h
    (free_around f.digits marks p texts one tells k) (free_around f.digits marks p texts other tells l) hc hd e in
    let same = sign_distinct f.digits marks p texts one other s t tells.space_no_mark tells.sign_distinct k.no_mark l.no_mark distinct.0 in
    let around = distinct.0 ∙ ap (money_surroundings second) (sym same) in
    (same, distinct.1, symbol_distinct f.digits p texts one other s tells.shown k.no_space l.no_space around)

-- texts of the same characters are the same bytes
same_bytes : (one other : List ℕ) → IsUtf8 one → IsUtf8 other → chars one ≡ chars other → one ≡ other
same_bytes one other h k e = sym (encodes-chars one h) ∙ ap encode_utf8_all e ∙ encodes-chars other k

pub equal_one_sign_texts_tell_symbol : EqualMoneyTextsOfOneSignTellSymbol
equal_one_sign_texts_tell_symbol f p texts one other s c d first second h free others shown ends other_ends utf8 other_utf8 hc hd is are same =
    let distinct = one_sign_tells_symbol f p texts one other s c d h free others shown ends other_ends hc hd
    (same_characters (plain_amount f p texts one s c) (plain_amount f p texts other s d) first second is are same) in
    (distinct.0, same_bytes one other utf8 other_utf8 distinct.1)

pub equal_texts_tell_symbol : EqualMoneyTextsTellSymbol
equal_texts_tell_symbol f marks p texts one other s t c d first second h tells k l utf8 other_utf8 hc hd is are same =
    let distinct = money_tells_symbol f marks p texts one other s t c d h tells k l hc hd
    (same_characters (plain_amount f p texts one s c) (plain_amount f p texts other t d) first second is are same) in
    (distinct.0, distinct.1, same_bytes one other utf8 other_utf8 distinct.2)

-- with one symbol the marks alone determine the sign
pub readable_with_symbol : MoneyThatTellsSymbolsIsReadable
readable_with_symbol f marks p texts currency h tells k = record {
  numbers_readable = h;
  around_readable = record {
    free = free_around f.digits marks p texts currency tells k;
    sign_distinct = λ s t e. sign_distinct f.digits marks p texts currency currency s t tells.space_no_mark tells.sign_distinct k.no_mark k.no_mark e;
  };
}
