-- Symbols, digits and compact tables with which the texts of numbers determine the numbers.
use Rattle.std.specs.Prelude.{◌≡◌, ◌≢◌, ◌⊎◌, ℕ, List, [], ◌++◌, length, take, drop, All, AllPairs, Contains, IsSome, Option, Some, None}
use Rattle.std.specs.Str.{chars}
use Rattle.fixed_decimal.specs.declared.signs.Sign.{Sign}
use Rattle.fixed_decimal.specs.declared.signs.Sign.TheVariants.{Negative, Positive, None as NoSign}
use Rattle.icu_pattern.specs.Patterns.{PatternText, placeholder_alone}
use Rattle.icu_decimal_data.specs.CompactTable.{PatternElements, TableEntry, exponent_of}
use Rattle.icu_decimal_symbols.specs.Symbols.{SymbolTexts}

-- the characters before a number and after it
pub record Surroundings : Type 0 where
  pub before : List ℕ
  pub after : List ℕ

-- the characters of a sign's two affixes
abbrev pub affixes : SymbolTexts → Sign → Surroundings
affixes s NoSign = record { before = []; after = [] }
affixes s Negative = record { before = chars s.minus_sign_prefix; after = chars s.minus_sign_suffix }
affixes s Positive = record { before = chars s.plus_sign_prefix; after = chars s.plus_sign_suffix }

-- none of the characters is one of the digits
abbrev pub HasNoDigit : List ℕ → List ℕ → Type 0
HasNoDigit digits cs = All (λ c. ¬ (Contains digits c)) cs

-- no character before the number or after it is one of the digits
pub record IsFreeOfDigits (digits : List ℕ) (a : Surroundings) : Type 0 where
  pub before_free : HasNoDigit digits a.before
  pub after_free : HasNoDigit digits a.after

-- no two signs have the same affixes
abbrev pub SignsDiffer : SymbolTexts → Type 0
SignsDiffer texts = (s t : Sign) → affixes texts s ≡ affixes texts t → s ≡ t

-- Numbers with these symbols and digits are readable: ten different digits, none of them in an affix or separator; a
-- decimal separator that isn't empty and isn't the grouping separator; and affixes that determine the sign.
pub record IsReadable (texts : SymbolTexts) (digits : List ℕ) : Type 0 where
  pub ten : length digits ≡ 10
  pub different : AllPairs (λ c d. c ≢ d) digits
  pub affixes_free : (s : Sign) → IsFreeOfDigits digits (affixes texts s)
  pub decimal_free : HasNoDigit digits (chars texts.decimal_separator)
  pub grouping_free : HasNoDigit digits (chars texts.grouping_separator)
  pub decimal_some : chars texts.decimal_separator ≢ []
  pub separators_differ : chars texts.decimal_separator ≢ chars texts.grouping_separator
  pub sign_distinct : SignsDiffer texts

-- ---- parts of this, each with a test of its own

-- no affix and no separator has a digit
pub record IsFreeThroughout (texts : SymbolTexts) (digits : List ℕ) : Type 0 where
  pub minus_prefix_free : HasNoDigit digits (chars texts.minus_sign_prefix)
  pub minus_suffix_free : HasNoDigit digits (chars texts.minus_sign_suffix)
  pub plus_prefix_free : HasNoDigit digits (chars texts.plus_sign_prefix)
  pub plus_suffix_free : HasNoDigit digits (chars texts.plus_sign_suffix)
  pub decimal_free : HasNoDigit digits (chars texts.decimal_separator)
  pub grouping_free : HasNoDigit digits (chars texts.grouping_separator)

-- the decimal separator isn't empty, and differs from the grouping separator
pub record SeparatorsDistinct (texts : SymbolTexts) : Type 0 where
  pub decimal_some : chars texts.decimal_separator ≢ []
  pub separators_differ : chars texts.decimal_separator ≢ chars texts.grouping_separator

-- the literal of a pattern before and after its place; without a place all of it is before
abbrev pub sides_at : Option ℕ → List ℕ → Surroundings
sides_at None literal = record { before = chars literal; after = [] }
sides_at (Some n) literal = record { before = chars (take n literal); after = chars (drop n literal) }

-- the two sides of a pattern
abbrev pub sides : PatternText → Surroundings
sides p = sides_at p.placeholder p.literal

-- a sign's affixes around a pattern's sides
abbrev pub surroundings : SymbolTexts → Sign → PatternText → Surroundings
surroundings texts sign p = record {
  before = (affixes texts sign).before ++ (sides p).before;
  after = (sides p).after ++ (affixes texts sign).after;
}

-- the pattern stands in one of the slots
abbrev pub HasPattern : PatternElements → PatternText → Type 0
HasPattern e p =
    (e.explicit_zero ≡ Some p) ⊎ (e.explicit_one ≡ Some p) ⊎ (e.zero ≡ Some p) ⊎ (e.one ≡ Some p)
    ⊎ (e.two ≡ Some p) ⊎ (e.few ≡ Some p) ⊎ (e.many ≡ Some p) ⊎ (e.other ≡ p)

-- an entry of the table, or none
abbrev pub IsEntryOf : List TableEntry → Option TableEntry → Type 0
IsEntryOf table None = Unit {0}
IsEntryOf table (Some e) = Contains table e

-- the pattern is one of this entry of the table; without an entry it is the place alone
abbrev pub IsPatternBy : List TableEntry → Option TableEntry → PatternText → Type 0
IsPatternBy table None p = p ≡ placeholder_alone
IsPatternBy table (Some e) p = Contains table e × HasPattern e.elements p

-- What a compact table adds: each pattern has a place and no digit; and the affixes and the sides of the pattern together
-- determine the sign and the exponent.
pub record IsReadableTable (texts : SymbolTexts) (digits : List ℕ) (table : List TableEntry) : Type 0 where
  pub has_placeholder : (by : Option TableEntry) (p : PatternText) → IsPatternBy table by p → IsSome p.placeholder
  pub sides_free : (by : Option TableEntry) (p : PatternText) → IsPatternBy table by p → IsFreeOfDigits digits (sides p)
  pub distinct : (s t : Sign) (by to : Option TableEntry) (p q : PatternText) → IsPatternBy table by p → IsPatternBy table to q
      → surroundings texts s p ≡ surroundings texts t q → (s ≡ t) × (exponent_of by ≡ exponent_of to)
