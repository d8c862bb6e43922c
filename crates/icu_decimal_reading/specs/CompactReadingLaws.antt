-- What holds of all compact numbers that are read; each is the contract of a function of `laws`.
use Rattle.std.specs.Prelude.{◌≡◌, ℕ, List, Result, IfOk, IfErr, MatchResult}
use Rattle.std.specs.Str.{IsUtf8, chars}
use Rattle.fixed_decimal.specs.declared.signs.Sign.{Sign}
use Rattle.fixed_decimal.specs.Unsigned.{Unsigned, IsUnsigned}
use Rattle.writeable.specs.Events.{Event, text_of}
use Rattle.icu_decimal_data.specs.CompactTable.{IsCompactTable}
use Rattle.icu_decimal.specs.CompactFormat.{CompactFormat, IsCompactFormat, exponent_needed, events_with_exponent}
use Rattle.icu_decimal.specs.Readable.{IsReadableCompact}
use Rattle.icu_decimal_reading.specs.declared.compact_decimal.CompactDecimal.{CompactDecimal}
use Rattle.icu_decimal_reading.specs.declared.error.NotRead.{NotRead}
use Rattle.icu_decimal_reading.specs.declared.error.NotRead.TheVariants.{OutOfMemory}
use Rattle.icu_decimal_reading.specs.Reading.{IfNoNumber}
use Rattle.icu_decimal_reading.specs.CompactReading.{IsCompactTextOf, IsNoCompactText}

-- what `read_compact` says of its result for these characters: a significand and an exponent of which they are the text, and, if the
-- formatter is readable, that they are no text where it reports that they are no number
pub record IsCompactReading (f : CompactFormat) (cs : List ℕ) (result : Result CompactDecimal NotRead) : Type 0 where
  pub read : IfOk result (λ r. IsCompactTextOf f cs r.significand.sign r.significand.absolute r.exponent)
  pub valid : IfOk result (λ r. IsUnsigned r.significand.absolute)
  pub refused : IsReadableCompact f → IfErr result (IfNoNumber (IsNoCompactText f cs))

-- A text of a readable compact formatter is the text of one number: of one sign, one significand, in range and every digit, and one
-- exponent.
abbrev pub OneCompactReading : Type 0
OneCompactReading = (f : CompactFormat) (cs : List ℕ) (s t : Sign) (c d : Unsigned) (m n : ℕ) → IsReadableCompact f → IsUnsigned c → IsUnsigned d
    → IsCompactTextOf f cs s c m → IsCompactTextOf f cs t d n → (s ≡ t) × (c ≡ d) × (m ≡ n)

-- the result is this significand, with its sign, and this exponent, or memory ran out
abbrev pub IsReadAs : Sign → Unsigned → ℕ → Result CompactDecimal NotRead → Type 0
IsReadAs s c n result = MatchResult result (λ r. (r.significand.sign ≡ s) × (r.significand.absolute ≡ c) × (r.exponent ≡ n)) (λ e. e ≡ OutOfMemory)

-- What a readable compact formatter writes of a significand with an exponent that it accepts is read as these, or memory runs out.
abbrev pub WrittenCompactIsRead : Type 0
WrittenCompactIsRead = (f : CompactFormat) (cs : List ℕ) (s : Sign) (c : Unsigned) (n : ℕ) (result : Result CompactDecimal NotRead) → IsReadableCompact f
    → IsUnsigned c → IsCompactTextOf f cs s c n → IsCompactReading f cs result → IsReadAs s c n result

-- So is what it writes of a decimal as the nearest compact number: as the significand and the exponent that are shown.
abbrev pub ShownCompactIsRead : Type 0
ShownCompactIsRead = (f : CompactFormat) (text : List ℕ) (s : Sign) (d c : Unsigned) (n : ℕ) (es : List Event) (result : Result CompactDecimal NotRead)
    → IsReadableCompact f → IsCompactTable f.table → IsUtf8 text → IsCompactFormat f s d c n es → text ≡ text_of es
    → IsCompactReading f (chars text) result
    → IsReadAs s c n result

-- What is read of a text is accepted, and is written again in the same bytes.
abbrev pub ReadCompactIsWritten : Type 0
ReadCompactIsWritten = (f : CompactFormat) (text : List ℕ) (result : Result CompactDecimal NotRead) → IsUtf8 text → IsCompactReading f (chars text) result
    → IfOk result (λ r. (r.exponent ≡ exponent_needed f r.significand.absolute r.exponent)
    × (text ≡ text_of (events_with_exponent f r.significand.sign r.significand.absolute r.exponent)))
