-- What a compact table displays of a decimal: a size, an entry and a significand.
use Rattle.std.specs.Prelude.{◌≡◌, ℕ, ◌*◌, ◌^◌, List, Bool, nat_eq, Option, if◌then◌else◌, ℤ, pos, ◌-ℤ◌}
use Rattle.std.specs.Option.{option_eq}
use Rattle.std.specs.Ordering.{on}
use Rattle.std.specs.Int.{int_max}
use Rattle.fixed_decimal.specs.Size.{magnitude_place, magnitude, size}
use Rattle.fixed_decimal.specs.Trimming.{IsTrimmed}
use Rattle.fixed_decimal.specs.Unsigned.{Unsigned, IsUnsigned, high}
use Rattle.icu_decimal_data.specs.CompactTable.{TableEntry, entry_for, exponent_of}
use Rattle.icu_decimal.specs.CompactNumber.{IsNearestCompact}

-- whether two entries of a table, or none, are the same; types rise, so an entry is determined by its type
abbrev pub are_same_entry : Option TableEntry → Option TableEntry → Bool
are_same_entry = option_eq (on (λ (e : TableEntry). e.log10_type) nat_eq)

-- the entry by which a size is displayed as y, after a carry too: that of y's magnitude
abbrev pub decomposed_entry : List TableEntry → ℕ → Option TableEntry
decomposed_entry table y = entry_for table (magnitude_place y)

-- The greatest power that is written of d's significand, where d is displayed as y: that of y, less the exponent of the
-- displayed entry; where this is also the entry of d's own magnitude, the greatest one that d writes or y has, less the
-- exponent, so that padding is kept. Power 0 at least.
abbrev pub decomposed_high : List TableEntry → Unsigned → ℕ → ℤ
decomposed_high table d y =
    let entry = decomposed_entry table y in
    let top = if are_same_entry entry (entry_for table (magnitude_place (size d))) then int_max (high d) (magnitude y) else magnitude y in
    int_max (pos 0) (top -ℤ pos (exponent_of entry))

-- d is displayed as the size y, by an entry or none, with a significand: y is the nearest compact number, the entry is the
-- displayed one, the significand times ten to its exponent is y, and is written without zeros at its end below power 0
pub record IsDecomposed (table : List TableEntry) (d : Unsigned) (y : ℕ) (entry : Option TableEntry) (significand : Unsigned) : Type 0 where
  pub nearest : IsNearestCompact table (size d) y
  pub entry_is : entry ≡ decomposed_entry table y
  pub scaled : size significand * 10 ^ exponent_of entry ≡ y
  pub is_decimal : IsUnsigned significand
  pub trimmed : IsTrimmed significand
  pub high_is : high significand ≡ decomposed_high table d y
