-- What a text of money determines in the pattern of a locale, whatever the currency; each is the contract of a function of
-- `laws`.
use Rattle.std.specs.Prelude.{◌≡◌, ℕ, List}
use Rattle.std.specs.Str.{IsUtf8, chars}
use Rattle.fixed_decimal.specs.declared.signs.Sign.{Sign}
use Rattle.fixed_decimal.specs.Unsigned.{Unsigned, IsUnsigned}
use Rattle.writeable.specs.Events.{Event, characters, text_of}
use Rattle.icu_decimal.specs.Decimal.{DecimalFormat}
use Rattle.icu_decimal_readable.specs.Readable.{IsReadable}
use Rattle.icu_dimension_data.specs.Patterns.{PatternText}
use Rattle.icu_dimension_data.specs.Resolved.{Texts, resolved}
use Rattle.icu_dimension.specs.MoneyReadable.{HasNoDigitAround, IsReadableMoney}
use Rattle.icu_dimension.specs.MoneySymbol.{IsDistinctSymbol, ShowsSymbol, SymbolEndsInNoSpace, TellsSymbols, with_symbol}
use Rattle.icu_dimension.specs.MoneyLaws.{plain_money}

-- what is written for an amount of a currency, over a plain formatter
abbrev pub plain_amount : DecimalFormat → PatternText → Texts → List ℕ → Sign → Unsigned → List Event
plain_amount f p texts currency sign u = plain_money f (resolved f.digits p (with_symbol texts currency)) sign u

-- Amounts in two currencies: if money in the pattern determines symbols, and these two, equal characters mean equal sign, range,
-- digits and symbol.
abbrev pub MoneyTextTellsSymbol : Type 0
MoneyTextTellsSymbol = (f : DecimalFormat) (marks : List ℕ) (p : PatternText) (texts : Texts) (one other : List ℕ) (s t : Sign) (c d : Unsigned) →
    IsReadable f.symbols.strings f.digits → TellsSymbols f.digits marks p texts → IsDistinctSymbol f.digits marks one
    → IsDistinctSymbol f.digits marks other →
    IsUnsigned c → IsUnsigned d
    → characters (plain_amount f p texts one s c) ≡ characters (plain_amount f p texts other t d)
    → (s ≡ t) × (c ≡ d) × (chars one ≡ chars other)

-- So do equal texts, byte for byte.
abbrev pub EqualMoneyTextsTellSymbol : Type 0
EqualMoneyTextsTellSymbol = (f : DecimalFormat) (marks : List ℕ) (p : PatternText) (texts : Texts) (one other : List ℕ) (s t : Sign) (c d : Unsigned)
    (first second : List ℕ) → IsReadable f.symbols.strings f.digits → TellsSymbols f.digits marks p texts → IsDistinctSymbol f.digits marks one →
    IsDistinctSymbol f.digits marks other → IsUtf8 one → IsUtf8 other → IsUnsigned c → IsUnsigned d
    → first ≡ text_of (plain_amount f p texts one s c) → second ≡ text_of (plain_amount f p texts other t d) → first ≡ second
    → (s ≡ t) × (c ≡ d) × (one ≡ other)

-- Amounts of one sign in two currencies, without a digit around them: if each subpattern shows the symbol, and neither symbol
-- has U+00A0 at an end, equal characters mean equal range, digits and symbol.
abbrev pub MoneyTextOfOneSignTellsSymbol : Type 0
MoneyTextOfOneSignTellsSymbol = (f : DecimalFormat) (p : PatternText) (texts : Texts) (one other : List ℕ) (s : Sign) (c d : Unsigned) →
    IsReadable f.symbols.strings f.digits → HasNoDigitAround f.digits (resolved f.digits p (with_symbol texts one)) →
    HasNoDigitAround f.digits (resolved f.digits p (with_symbol texts other)) → ShowsSymbol p → SymbolEndsInNoSpace one → SymbolEndsInNoSpace other →
    IsUnsigned c → IsUnsigned d
    → characters (plain_amount f p texts one s c) ≡ characters (plain_amount f p texts other s d)
    → (c ≡ d) × (chars one ≡ chars other)

-- So do equal texts.
abbrev pub EqualMoneyTextsOfOneSignTellSymbol : Type 0
EqualMoneyTextsOfOneSignTellSymbol = (f : DecimalFormat) (p : PatternText) (texts : Texts) (one other : List ℕ) (s : Sign) (c d : Unsigned)
    (first second : List ℕ) → IsReadable f.symbols.strings f.digits → HasNoDigitAround f.digits (resolved f.digits p (with_symbol texts one)) →
    HasNoDigitAround f.digits (resolved f.digits p (with_symbol texts other)) → ShowsSymbol p → SymbolEndsInNoSpace one → SymbolEndsInNoSpace other →
    IsUtf8 one → IsUtf8 other → IsUnsigned c → IsUnsigned d
    → first ≡ text_of (plain_amount f p texts one s c) → second ≡ text_of (plain_amount f p texts other s d) → first ≡ second
    → (c ≡ d) × (one ≡ other)

-- Where money determines a symbol, money with that symbol is readable, if its numbers are.
abbrev pub MoneyThatTellsSymbolsIsReadable : Type 0
MoneyThatTellsSymbolsIsReadable = (f : DecimalFormat) (marks : List ℕ) (p : PatternText) (texts : Texts) (currency : List ℕ) →
    IsReadable f.symbols.strings f.digits → TellsSymbols f.digits marks p texts → IsDistinctSymbol f.digits marks currency
    → IsReadableMoney (record { formatter = f; patterns = resolved f.digits p (with_symbol texts currency) })
