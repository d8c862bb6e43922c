-- English money is readable and determines symbols, by the standard pattern and by that of accounts: instances of the laws of texts
-- of money.
use Rattle.std.proofs.Common.{◌≡◌, ◌≢◌, ℕ, refl, sym, ap, ◌∙◌, arith, inl, Some, None, Contains, All}
use Rattle.std.proofs.Common.{List, [], ◌∷◌, ◌++◌, length, codes}
use Rattle.std.specs.Str.{chars}
use Rattle.std.specs.Prelude.{Ok}
use Rattle.std.proofs.lemmas.List.Elements.{All-cons, All-nil}
use Rattle.fixed_decimal.specs.declared.signs.Sign.{Sign}
use Rattle.fixed_decimal.specs.declared.signs.Sign.TheVariants.{Negative, Positive, None as NoSign}
use Rattle.fixed_decimal.specs.Unsigned.{Unsigned, IsUnsigned}
use Rattle.writeable.specs.Events.{characters}
use Rattle.icu_decimal_symbols.specs.DecimalSymbols.{english_symbols}
use Rattle.icu_decimal_options.specs.declared.options.DecimalFormatterOptions.{DecimalFormatterOptions}
use Rattle.icu_decimal.specs.Decimal.{DecimalFormat}
use Rattle.icu_decimal.proofs.WorkedReadable.{digits, english_readable, none_of}
use Rattle.icu_decimal_readable.specs.Readable.{Surroundings}
use Rattle.icu_dimension_data.specs.declared.affix_token.AffixToken.TheVariants.{Character, CurrencySymbol}
use Rattle.icu_dimension_data.specs.Patterns.{Affixes, PatternText}
use Rattle.icu_dimension_data.specs.Reading.{pattern_of, reading_from}
use Rattle.icu_dimension_data.specs.Resolved.{Signed, Texts, resolved}
use Rattle.icu_dimension.specs.MoneyReadable.{AffixesHaveNoDigit, IsReadableMoney, StandsForNoDigit, TextsHaveNoDigit}
use Rattle.icu_dimension.specs.MoneySymbol.{HasSymbolPlaceholder, IsDistinctSymbol, MarksTellSign, TellsSymbols, beside_symbol, marks_around, with_symbol}
use Rattle.icu_dimension.specs.SymbolLaws.{plain_amount}
use Rattle.icu_dimension.proofs.MoneySymbolDistinct.{money_tells_symbol, readable_with_symbol}

-- the symbol in front of the number
abbrev pub symbol_first : Affixes
symbol_first = record { before = CurrencySymbol ∷ []; after = [] }

-- the symbol and the number in parentheses
abbrev pub in_parentheses : Affixes
in_parentheses = record { before = Character 40 ∷ CurrencySymbol ∷ []; after = Character 41 ∷ [] }

-- the pattern ¤#,##0.00, whose first character is spelled in two bytes
abbrev pub dollar_pattern : PatternText
dollar_pattern = record { first = symbol_first; second = None }

-- the pattern ¤#,##0.00;(¤#,##0.00)
abbrev pub accounts_pattern : PatternText
accounts_pattern = record { first = symbol_first; second = Some in_parentheses }

abbrev pub dollar_texts : Texts
dollar_texts = record { minus_sign = codes "-"; plus_sign = codes "+"; percent_sign = codes "%"; currency = codes "$" }

abbrev pub dollars : Signed
dollars = resolved digits dollar_pattern dollar_texts

-- they are what `parse` reads
pub dollar_pattern_read : pattern_of (194 ∷ 164 ∷ codes "#,##0.00") ≡ Ok dollar_pattern
unfolding chars pattern_of reading_from
dollar_pattern_read = refl

pub accounts_pattern_read : pattern_of (194 ∷ 164 ∷ (codes "#,##0.00;(" ++ 194 ∷ 164 ∷ codes "#,##0.00)")) ≡ Ok accounts_pattern
unfolding chars pattern_of reading_from
accounts_pattern_read = refl

-- ---- the marks of the signs

abbrev pub marks : List ℕ
marks = codes "-+("

-- the marks before an amount, by its sign: none, or that of minus or of plus
abbrev pub mark : ℕ → ℕ → Sign → List ℕ
mark minus plus NoSign = []
mark minus plus Negative = minus ∷ []
mark minus plus Positive = plus ∷ []

mark_tells : (minus plus : ℕ) → minus ≢ plus → (s t : Sign) → mark minus plus s ≡ mark minus plus t → s ≡ t
mark_tells minus plus differ NoSign NoSign e = refl
mark_tells minus plus differ NoSign Negative e = cc
mark_tells minus plus differ NoSign Positive e = cc
mark_tells minus plus differ Negative NoSign e = cc
mark_tells minus plus differ Negative Negative e = refl
mark_tells minus plus differ Negative Positive e = let same : minus ≡ plus = cc in absurd (differ same)
mark_tells minus plus differ Positive NoSign e = cc
mark_tells minus plus differ Positive Negative e = let same : plus ≡ minus = cc in absurd (differ (sym same))
mark_tells minus plus differ Positive Positive e = refl

mark_before : (s : Sign) → (marks_around marks (beside_symbol digits dollar_pattern dollar_texts s)).before ≡ mark 45 43 s
unfolding chars
mark_before NoSign = refl
mark_before Negative = refl
mark_before Positive = refl

accounts_mark_before : (s : Sign) → (marks_around marks (beside_symbol digits accounts_pattern dollar_texts s)).before ≡ mark 40 43 s
unfolding chars
accounts_mark_before NoSign = refl
accounts_mark_before Negative = refl
accounts_mark_before Positive = refl

minus_is_not_plus : ◌≢◌ {A = ℕ} 45 43
minus_is_not_plus same = omega arith

parenthesis_is_not_plus : ◌≢◌ {A = ℕ} 40 43
parenthesis_is_not_plus same = omega arith

sign_distinct : MarksTellSign digits marks dollar_pattern dollar_texts
sign_distinct s t e =
    mark_tells 45 43 minus_is_not_plus s t (sym (mark_before s) ∙ ap (λ (a : Surroundings). a.before) e ∙ mark_before t)

accounts_sign_distinct : MarksTellSign digits marks accounts_pattern dollar_texts
accounts_sign_distinct s t e =
    mark_tells 40 43 parenthesis_is_not_plus s t (sym (accounts_mark_before s) ∙ ap (λ (a : Surroundings). a.before) e ∙ accounts_mark_before t)

-- ---- no digit, and no space

texts_free : TextsHaveNoDigit digits (with_symbol dollar_texts [])
unfolding chars
texts_free = record {
  symbol_free = none_of digits [] refl;
  minus_free = none_of digits (codes "-") refl;
  plus_free = none_of digits (codes "+") refl;
  percent_free = none_of digits (codes "%") refl;
}

nothing_free : All (StandsForNoDigit digits) []
nothing_free = All-nil (StandsForNoDigit digits)

symbol_free : AffixesHaveNoDigit digits symbol_first
symbol_free = record { before_free = All-cons (StandsForNoDigit digits) CurrencySymbol [] tt nothing_free; after_free = nothing_free }

free_of : (c : ℕ) → All (λ d. ¬ (Contains digits d)) (c ∷ []) → ¬ (Contains digits c)
free_of c h has = h 0 c (omega arith) has

parentheses_free : AffixesHaveNoDigit digits in_parentheses
parentheses_free = record {
  before_free =
      All-cons (StandsForNoDigit digits) (Character 40) (CurrencySymbol ∷ []) (free_of 40 (none_of digits (40 ∷ []) refl)) symbol_free.before_free;
  after_free = All-cons (StandsForNoDigit digits) (Character 41) [] (free_of 41 (none_of digits (41 ∷ []) refl)) nothing_free;
}

space_no_digit : ¬ (Contains digits 160)
space_no_digit = free_of 160 (none_of digits (160 ∷ []) refl)

space_no_mark : ¬ (Contains marks 160)
space_no_mark has = none_of marks (160 ∷ []) refl 0 160 (omega arith) has

symbol_shown : HasSymbolPlaceholder symbol_first
symbol_shown = inl (0, omega arith, refl)

-- ---- what they determine

pub dollars_tell_symbols : TellsSymbols digits marks dollar_pattern dollar_texts
dollars_tell_symbols = record {
  shown = record { first_shows = symbol_shown; second_shows = tt };
  sign_distinct = sign_distinct;
  space_no_mark = space_no_mark;
  pattern_free = record { first_free = symbol_free; second_free = tt };
  signs_free = texts_free;
  space_no_digit = space_no_digit;
}

pub accounts_tell_symbols : TellsSymbols digits marks accounts_pattern dollar_texts
accounts_tell_symbols = record {
  shown = record { first_shows = symbol_shown; second_shows = inl (1, omega arith, refl) };
  sign_distinct = accounts_sign_distinct;
  space_no_mark = space_no_mark;
  pattern_free = record { first_free = symbol_free; second_free = parentheses_free };
  signs_free = texts_free;
  space_no_digit = space_no_digit;
}

dollar_distinct : IsDistinctSymbol digits marks (codes "$")
unfolding chars
dollar_distinct = record {
  no_digit = none_of digits (codes "$") refl;
  no_mark = none_of marks (codes "$") refl;
  no_space = record { first_other = λ e. cc; last_other = λ e. cc };
}

francs_distinct : IsDistinctSymbol digits marks (codes "CHF")
unfolding chars
francs_distinct = record {
  no_digit = none_of digits (codes "CHF") refl;
  no_mark = none_of marks (codes "CHF") refl;
  no_space = record { first_other = λ e. cc; last_other = λ e. cc };
}

-- English numbers, with these options
abbrev pub english : DecimalFormatterOptions → DecimalFormat
english options = record { symbols = english_symbols; digits = digits; options = options }

-- English money in dollars is readable, whatever the groups
pub english_money_readable : (options : DecimalFormatterOptions) → IsReadableMoney (record { formatter = english options; patterns = dollars })
english_money_readable options =
    readable_with_symbol (english options) marks dollar_pattern dollar_texts (codes "$") english_readable dollars_tell_symbols dollar_distinct

chars_differ : chars (codes "$") ≢ chars (codes "CHF")
unfolding chars
chars_differ e = let lengths : ◌≡◌ {A = ℕ} 1 3 = ap length e in omega arith

-- no text of dollars is one of francs, with whichever signs
pub dollars_are_no_francs : (options : DecimalFormatterOptions) (s t : Sign) (c d : Unsigned) → IsUnsigned c → IsUnsigned d →
    characters (plain_amount (english options) accounts_pattern dollar_texts (codes "$") s c)
    ≢ characters (plain_amount (english options) accounts_pattern dollar_texts (codes "CHF") t d)
dollars_are_no_francs options s t c d hc hd e =
    chars_differ (money_tells_symbol (english options) marks accounts_pattern dollar_texts (codes "$") (codes "CHF") s t c d
    english_readable accounts_tell_symbols dollar_distinct francs_distinct hc hd e).2
