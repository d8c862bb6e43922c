-- When a table means what the map means that it was made of.
use Rattle.std.specs.Prelude.{◌≡◌, ℕ, ◌+◌, ◌<◌, List, Option, Some, None, All, AllPairs, IsTrue, IfSome, slice_get}
use Rattle.std.specs.Option.{option_map, unwrap_or}
use Rattle.fixed_decimal.specs.Size.{size, magnitude_place}
use Rattle.fixed_decimal.specs.Unsigned.{Unsigned, IsUnsigned}
use Rattle.icu_plurals.specs.Elements.{slots, selected}
use Rattle.icu_plurals.specs.Operands.{Operands, operands_of}
use Rattle.icu_pattern.specs.Patterns.{PatternText, placeholder_alone}
use Rattle.icu_plurals.specs.declared.category.PluralCategory.{PluralCategory}
use Rattle.icu_decimal_data.specs.CompactTable.{PatternElements, TableEntry, entry_for, exponent_for}
use Rattle.icu_decimal_data.specs.Kept.{kept, skipped, unskipped, repeats}
use Rattle.icu_decimal_data.specs.CompactFaults.{fault_of}

-- the exponent is 0, and each pattern is the number alone
pub record IsPassThrough (e : TableEntry) : Type 0 where
  pub no_exponent : e.exponent ≡ 0
  pub alone : All (λ (s : Option PatternText). IfSome s (λ p. p ≡ placeholder_alone)) (slots e.elements)

-- each entry that repeats its predecessor has its exponent
abbrev pub RepeatsKeepExponent : List TableEntry → Type 0
RepeatsKeepExponent es =
    (i : ℕ) (before e : TableEntry) → slice_get es i ≡ Some before → slice_get es (i + 1) ≡ Some e → IsTrue (repeats before e) →
    e.exponent ≡ before.exponent

-- types that are dropped or skipped have no meaning of their own
pub record IsFaithful (zero_magnitude : Option PatternElements) (es : List TableEntry) : Type 0 where
  pub dropped_repeat : RepeatsKeepExponent (unskipped zero_magnitude es)
  pub skipped_alone : All IsPassThrough (skipped zero_magnitude es)

-- the pattern that an entry has for a number with these operands and this category; without an entry the place alone
abbrev pub pattern_for : Operands → PluralCategory → Option TableEntry → PatternText
pattern_for operands category entry =
    unwrap_or (option_map (λ (e : TableEntry). selected e.elements operands category) entry) placeholder_alone

-- For each map that makes a table and is faithful: at each magnitude the table has the exponent of the map, and each
-- significand that stands there picks the same pattern, whatever category the plural rules give it. A significand stands
-- at a magnitude where its own magnitude and the exponent make it.
abbrev pub KeptMeansFull : Type 0
KeptMeansFull =
    (zero_magnitude : Option PatternElements) (es : List TableEntry) → AllPairs (λ (e f : TableEntry). e.log10_type < f.log10_type) es →
    fault_of zero_magnitude es ≡ None → IsFaithful zero_magnitude es
    → (m : ℕ) → (exponent_for (kept zero_magnitude es) m ≡ exponent_for es m)
    × ((significand : Unsigned) (category : PluralCategory) → IsUnsigned significand
    → magnitude_place (size significand) + exponent_for (kept zero_magnitude es) m ≡ m
    → pattern_for (operands_of significand 0) category (entry_for (kept zero_magnitude es) m)
    ≡ pattern_for (operands_of significand 0) category (entry_for es m))
