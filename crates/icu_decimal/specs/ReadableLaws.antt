-- What a readable text determines; each is the contract of a function of `laws`.
use Rattle.std.specs.Prelude.{◌≡◌, ◌⊎◌, ◌↔◌, ℕ, List, Option}
use Rattle.fixed_decimal.specs.declared.signs.Sign.{Sign}
use Rattle.fixed_decimal.specs.Unsigned.{Unsigned, IsUnsigned}
use Rattle.writeable.specs.Events.{Event, characters, text_of, without_parts}
use Rattle.icu_decimal_data.specs.CompactTable.{TableEntry, exponent_of}
use Rattle.icu_decimal.specs.CompactFormat.{CompactFormat, IsCompactFormat, filled_events}
use Rattle.icu_decimal.specs.CompactLaws.{IsUnpadded}
use Rattle.icu_decimal.specs.Decimal.{DecimalFormat, decimal_events, signed_events}
use Rattle.icu_decimal_readable.specs.Readable.{IsEntryOf, IsReadable}
use Rattle.icu_decimal.specs.Readable.{IsReadableCompact}

-- Two decimals that a readable formatter writes in the same characters are one: in sign, range and every digit.
abbrev pub TextTellsTheDecimal : Type 0
TextTellsTheDecimal = (f : DecimalFormat) (s t : Sign) (c d : Unsigned) → IsReadable f.symbols.strings f.digits → IsUnsigned c → IsUnsigned d
    → characters (decimal_events f s c) ≡ characters (decimal_events f t d) → (s ≡ t) × (c ≡ d)

-- Two texts that a readable formatter writes are equal only where the decimals are one.
abbrev pub EqualTextsTellTheDecimal : Type 0
EqualTextsTellTheDecimal = (f : DecimalFormat) (s t : Sign) (c d : Unsigned) (one other : List ℕ) → IsReadable f.symbols.strings f.digits →
    IsUnsigned c → IsUnsigned d
    → one ≡ text_of (decimal_events f s c) → other ≡ text_of (decimal_events f t d) → one ≡ other → (s ≡ t) × (c ≡ d)

-- A significand is written by an entry of the table, or by none, as `format` writes it, characters alone, or as
-- `format_with_exponent` does, with the parts of the number.
abbrev pub IsWrittenBy : CompactFormat → Sign → Option TableEntry → Unsigned → List Event → Type 0
IsWrittenBy f sign by significand es =
    (es ≡ signed_events f.decimal.symbols sign (without_parts (filled_events f by significand)))
    ⊎ (es ≡ signed_events f.decimal.symbols sign (filled_events f by significand))

-- Where a compact formatter is readable, equal characters, written in either way, mean equal signs, significands, in
-- range and every digit, and exponents.
abbrev pub CompactTextTells : Type 0
CompactTextTells = (f : CompactFormat) (s t : Sign) (by to : Option TableEntry) (c d : Unsigned) (es fs : List Event) → IsReadableCompact f
    → IsEntryOf f.table by → IsEntryOf f.table to → IsUnsigned c → IsUnsigned d → IsWrittenBy f s by c es → IsWrittenBy f t to d fs
    → characters es ≡ characters fs → (s ≡ t) × (c ≡ d) × (exponent_of by ≡ exponent_of to)

-- Two texts that a readable compact formatter's `format` writes are equal only where the signs, the significands and the
-- exponents are.
abbrev pub EqualCompactTextsTell : Type 0
EqualCompactTextsTell = (f : CompactFormat) (s t : Sign) (c d x y : Unsigned) (m n : ℕ) (es fs : List Event) (one other : List ℕ) → IsReadableCompact f
    → IsCompactFormat f s c x m es → IsCompactFormat f t d y n fs → one ≡ text_of es → other ≡ text_of fs → one ≡ other →
    (s ≡ t) × (x ≡ y) × (m ≡ n)

-- Where a compact formatter is readable, two decimals without leading padding that it shows are written in the same
-- characters exactly where their signs are the same and their shown sizes are.
abbrev pub ShownTextTells : Type 0
ShownTextTells = (f : CompactFormat) (s t : Sign) (c d x y : Unsigned) (m n : ℕ) (es fs : List Event) → IsReadableCompact f → IsUnpadded c →
    IsUnpadded d
    → (first : IsCompactFormat f s c x m es) (second : IsCompactFormat f t d y n fs)
    → (characters es ≡ characters fs) ↔ ((s ≡ t) × (first.shown ≡ second.shown))

-- So are their texts: equal exactly where their signs are the same and their shown sizes are.
abbrev pub EqualShownTextsTell : Type 0
EqualShownTextsTell = (f : CompactFormat) (s t : Sign) (c d x y : Unsigned) (m n : ℕ) (es fs : List Event) (one other : List ℕ) → IsReadableCompact f →
    IsUnpadded c → IsUnpadded d
    → (first : IsCompactFormat f s c x m es) (second : IsCompactFormat f t d y n fs) → one ≡ text_of es → other ≡ text_of fs
    → (one ≡ other) ↔ ((s ≡ t) × (first.shown ≡ second.shown))
