-- What holds of all that is read; each is the contract of a function of `laws`.
use Rattle.std.specs.Prelude.{◌≡◌, ◌⊎◌, ℕ, List, Result, IfOk, IfErr, MatchResult}
use Rattle.std.specs.Str.{IsUtf8, chars}
use Rattle.fixed_decimal.specs.declared.signs.Sign.{Sign}
use Rattle.fixed_decimal.specs.declared.signed.Decimal.{Decimal}
use Rattle.fixed_decimal.specs.Unsigned.{Unsigned, IsUnsigned}
use Rattle.writeable.specs.Events.{text_of}
use Rattle.icu_decimal.specs.Decimal.{DecimalFormat, decimal_events}
use Rattle.icu_decimal_readable.specs.Readable.{IsReadable}
use Rattle.icu_decimal_reading.specs.declared.error.NotRead.{NotRead}
use Rattle.icu_decimal_reading.specs.declared.error.NotRead.TheVariants.{OutOfMemory}
use Rattle.icu_decimal_reading.specs.Reading.{IfNoNumber, IsNoText, IsTextOf, ungrouped}

-- what `read_text` says of its result for these characters: a decimal of which they are the text, and, if the formatter is readable, that
-- they are no text where it reports that they are no number
pub record IsReading (f : DecimalFormat) (cs : List ℕ) (result : Result Decimal NotRead) : Type 0 where
  pub read : IfOk result (λ d. IsTextOf f cs d.sign d.absolute)
  pub valid : IfOk result (λ d. IsUnsigned d.absolute)
  pub refused : IsReadable f.symbols.strings f.digits → IfErr result (IfNoNumber (IsNoText f cs))

-- A text of a readable formatter, with its groups or with none, is the text of one decimal: of one sign, range and list of digits.
abbrev pub OneReading : Type 0
OneReading = (f : DecimalFormat) (cs : List ℕ) (s t : Sign) (c d : Unsigned) → IsReadable f.symbols.strings f.digits → IsUnsigned c → IsUnsigned d
    → IsTextOf f cs s c → IsTextOf f cs t d → (s ≡ t) × (c ≡ d)

-- What a readable formatter writes of a decimal, with its groups or with none, is read as this decimal, or memory runs out.
abbrev pub WrittenIsRead : Type 0
WrittenIsRead = (f : DecimalFormat) (cs : List ℕ) (s : Sign) (c : Unsigned) (result : Result Decimal NotRead) → IsReadable f.symbols.strings f.digits
    → IsUnsigned c → IsTextOf f cs s c → IsReading f cs result
    → MatchResult result (λ d. (d.sign ≡ s) × (d.absolute ≡ c)) (λ e. e ≡ OutOfMemory)

-- What is read of a text is written again in the same bytes, with the formatter's groups or with none.
abbrev pub ReadIsWritten : Type 0
ReadIsWritten = (f : DecimalFormat) (text : List ℕ) (result : Result Decimal NotRead) → IsUtf8 text → IsReading f (chars text) result
    → IfOk result (λ d. (text ≡ text_of (decimal_events f d.sign d.absolute)) ⊎ (text ≡ text_of (decimal_events (ungrouped f) d.sign d.absolute)))
