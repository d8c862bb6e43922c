-- How a compact table is tested for readability: what holds of each pattern, and of each two.
use Rattle.std.specs.Prelude.{◌≡◌, ℕ, List, ◌++◌, Option, IsSome}
use Rattle.std.specs.Str.{chars}
use Rattle.fixed_decimal.specs.declared.signs.Sign.{Sign}
use Rattle.icu_pattern.specs.Patterns.{PatternText}
use Rattle.icu_decimal_data.specs.CompactTable.{TableEntry, exponent_of}
use Rattle.icu_decimal_readable.specs.Readable.{Surroundings, affixes, sides, HasPattern, IsFreeOfDigits, IsPatternBy}
use Rattle.icu_decimal_symbols.specs.Symbols.{SymbolTexts}
use Rattle.icu_decimal_readable.specs.declared.readable_table.Sides.{Sides}

-- the characters of two texts
abbrev pub surroundings_of : Sides → Surroundings
surroundings_of s = record { before = chars s.before.now; after = chars s.after.now }

-- a sign's affixes around what stands before a number and after it
abbrev pub around : SymbolTexts → Sign → Surroundings → Surroundings
around texts sign a = record {
  before = (affixes texts sign).before ++ a.before;
  after = a.after ++ (affixes texts sign).after;
}

-- a pattern has a place and no digit
pub record HasPlaceholderAndNoDigit (digits : List ℕ) (p : PatternText) : Type 0 where
  pub has_placeholder : IsSome p.placeholder
  pub sides_free : IsFreeOfDigits digits (sides p)

-- a property of exponents and patterns holds of each pattern of an entry
abbrev pub HoldsOfEntry : (ℕ → PatternText → Type 0) → TableEntry → Type 0
HoldsOfEntry P e = (p : PatternText) → HasPattern e.elements p → P e.exponent p

-- a property of exponents and patterns holds of each pattern that a number may have
abbrev pub HoldsThroughout : (ℕ → PatternText → Type 0) → List TableEntry → Type 0
HoldsThroughout P table = (by : Option TableEntry) (p : PatternText) → IsPatternBy table by p → P (exponent_of by) p

-- two numbers with these signs, exponents and sides have the same characters around them only if they have the same sign
-- and exponent
abbrev pub AreDistinct : SymbolTexts → Sign → ℕ → Surroundings → Sign → ℕ → Surroundings → Type 0
AreDistinct texts s m a t n b = around texts s a ≡ around texts t b → (s ≡ t) × (m ≡ n)

-- a number is distinguished from a second one, whatever the sign of that
abbrev pub IsDistinctFrom : SymbolTexts → Sign → ℕ → Surroundings → ℕ → Surroundings → Type 0
IsDistinctFrom texts s m a n b = (t : Sign) → AreDistinct texts s m a t n b

-- a number is distinguished from those of each pattern
abbrev pub IsDistinctThroughout : SymbolTexts → List TableEntry → Sign → ℕ → Surroundings → Type 0
IsDistinctThroughout texts table s m a = HoldsThroughout (λ n q. IsDistinctFrom texts s m a n (sides q)) table

-- the numbers of a pattern with this exponent are distinguished from those of each pattern, whatever their sign
abbrev pub TellsNumbers : SymbolTexts → List TableEntry → ℕ → PatternText → Type 0
TellsNumbers texts table m p = (s : Sign) → IsDistinctThroughout texts table s m (sides p)
