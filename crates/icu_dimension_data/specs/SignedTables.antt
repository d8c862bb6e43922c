-- The compact tables of the three signs, with the signs of a locale and the symbol of a currency in their patterns.
use Rattle.std.specs.Prelude.{ℕ, pos, ◌==◌, ◌≡◌, Bool, true, ◌&&◌, List, [], ◌∷◌, map, Option, Some, None, Result, Ok, Err, codes}
use Rattle.std.specs.Prelude.{if◌then◌else◌}
use Rattle.fixed_decimal.specs.Size.{place}
use Rattle.fixed_decimal.specs.declared.signs.Sign.{Sign}
use Rattle.fixed_decimal.specs.declared.signs.Sign.TheVariants.{None as NoSign, Negative, Positive}
use Rattle.icu_decimal_data.specs.CompactFaults.{fault_of}
use Rattle.icu_decimal_data.specs.CompactTable.{TableEntry, exponent_for}
use Rattle.icu_decimal_data.specs.Kept.{kept}
use Rattle.icu_decimal_data.specs.declared.error.CompactError.{CompactError}
use Rattle.icu_decimal_data.specs.declared.error.CompactError.TheVariants as compact
use Rattle.icu_dimension_data.specs.declared.compact_currency_patterns.CompactCurrencyPatterns.{CompactCurrencyPatterns}
use Rattle.icu_dimension_data.specs.declared.compact_rows.CompactRow.{CompactRow}
use Rattle.icu_dimension_data.specs.ByCategory.{elements_map}
use Rattle.icu_dimension_data.specs.Flat.{flat}
use Rattle.icu_dimension_data.specs.Patterns.{PatternText as CldrText}
use Rattle.icu_dimension_data.specs.Resolved.{Texts, affixes_of, resolved}
use Rattle.icu_pattern.specs.Patterns.{PatternText}
use Rattle.icu_provider.specs.Answer.{Refusal}
use Rattle.icu_provider.specs.declared.error.DataErrorKind.TheVariants.{Custom, OutOfMemory}

-- a pattern of money for a sign and numbers with these ten digits, with these texts in it, as compact tables hold patterns
abbrev pub pattern_for : List ℕ → Texts → Sign → CldrText → PatternText
pattern_for digits texts sign p = flat (record { affixes = affixes_of (resolved digits p texts) sign; texts = texts })

-- a row with its patterns for a sign
abbrev pub entry_for : List ℕ → Texts → Sign → CompactRow → TableEntry
entry_for digits texts sign row = record {
  log10_type = row.log10_type;
  exponent = row.exponent;
  elements = elements_map (pattern_for digits texts sign) row.patterns;
}

-- how a table is rejected that `CompactPatterns::new` rejects
abbrev pub compact_refusal : CompactError → Refusal
compact_refusal compact.ExponentsFall = record { kind = Custom; context = codes "compact exponents fall" }
compact_refusal compact.ExponentAboveType = record { kind = Custom; context = codes "a compact exponent above its type" }
compact_refusal compact.TooManyZeros = record { kind = Custom; context = codes "a compact type too far above its exponent" }
compact_refusal compact.TooLarge = record { kind = Custom; context = codes "compact patterns too large" }
compact_refusal compact.OutOfMemory = record { kind = OutOfMemory; context = [] }

-- how a table is rejected in which a type has another exponent than its entry: its patterns were those of the type before
abbrev pub repeated_refusal : Refusal
repeated_refusal = record { kind = Custom; context = codes "compact patterns repeat under another exponent" }

-- whether a table has the exponent of each row at the row's type
abbrev pub has_exponents : List TableEntry → List CompactRow → Bool
has_exponents table [] = true
has_exponents table (row ∷ rows) = (exponent_for table (place (pos row.log10_type)) == row.exponent) && has_exponents table rows

-- a table that has the exponents of its rows
abbrev pub with_exponents : List TableEntry → List CompactRow → Result (List TableEntry) Refusal
with_exponents table rows = if has_exponents table rows then Ok table else Err repeated_refusal

-- the table of rows, whose entries are these: `kept` says which are kept, `fault_of` why there is none
abbrev pub table_or_refused : List CompactRow → List TableEntry → Option CompactError → Result (List TableEntry) Refusal
table_or_refused rows entries None = with_exponents (kept None entries) rows
table_or_refused rows entries (Some fault) = Err (compact_refusal fault)

-- the table of rows for a sign
unfoldable pub table_for : List ℕ → Texts → List CompactRow → Sign → Result (List TableEntry) Refusal
table_for digits texts rows sign =
    let entries = map (entry_for digits texts sign) rows in
    table_or_refused rows entries (fault_of None entries)

-- what is made of a table, or its error
abbrev pub and_then : {X Y : Type 0} → Result X Refusal → (X → Result Y Refusal) → Result Y Refusal
and_then (Ok x) next = next x
and_then (Err refusal) next = Err refusal

-- the tables of the three signs, or the first error
unfoldable pub tables_for : List ℕ → Texts → List CompactRow → Result CompactCurrencyPatterns Refusal
tables_for digits texts rows =
    and_then (table_for digits texts rows NoSign) (λ none.
    and_then (table_for digits texts rows Negative) (λ minus.
    and_then (table_for digits texts rows Positive) (λ plus.
    Ok (record { none = none; minus = minus; plus = plus }))))

-- the table of a sign
abbrev pub table_of : CompactCurrencyPatterns → Sign → List TableEntry
table_of t NoSign = t.none
table_of t Negative = t.minus
table_of t Positive = t.plus

-- At the type of each row a table has the row's exponent, so that no amount is shown by a power of ten that isn't its row's.
abbrev pub HasExponents : List TableEntry → List CompactRow → Type 0
HasExponents table [] = Unit {0}
HasExponents table (row ∷ rows) = (exponent_for table (place (pos row.log10_type)) ≡ row.exponent) × HasExponents table rows
