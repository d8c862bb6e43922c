-- What reading a text back leaves, by its status: the decimal that the text shows, in plain digits, or why there is none.
use Rattle.std.specs.Prelude.{◌≡◌, ℕ, Bool, true, false, ◌<◌, ◌≤◌, ◌⊎◌, List, ◌++◌, length, Option, Some, None}
use Rattle.std.specs.Str.{chars, is_utf8}
use Rattle.std.specs.Str.Lossy.{utf8_valid_len}
use Rattle.fixed_decimal.specs.declared.signs.Sign.{Sign}
use Rattle.fixed_decimal.specs.Text.{digits_text, fraction_text, sign_text}
use Rattle.fixed_decimal.specs.Unsigned.{IsUnsigned, Unsigned, fraction, integer}
use Rattle.decimal_lines.specs.SingleText.{HoldsIfRoom}
use Rattle.decimal_lines.specs.declared.mode.Mode.{Mode}
use Rattle.decimal_lines.specs.declared.mode.Mode.TheVariants.{Compact, Plain}
use Rattle.icu_decimal.specs.Decimal.{DecimalFormat}
use Rattle.icu_decimal_readable.specs.Readable.{IsReadable}
use Rattle.icu_decimal_reading.specs.Reading.{IsNoText, IsTextOf, fault_byte}
use Rattle.number_formatters.specs.declared.formatter.Formatter.{Formatter}
use Rattle.number_formatters.specs.declared.formatter.Formatter.TheVariants.{Numbers}
use Rattle.talmuiga_c.specs.Endings.{IsUntouched, done, out_of_memory, output_too_small}
use Rattle.talmuiga_c.specs.declared.kept.Kept.{Kept}
use Rattle.talmuiga_c.specs.declared.kept.Kept.TheVariants.{ByWords, BySkeleton, WithRanges}

-- a text isn't that of any number, as the formatter writes numbers
abbrev pub not_read : ℕ
not_read = 22

-- a formatter reads no texts: it doesn't write numbers in full and alone, or their texts don't determine them
abbrev pub no_reading : ℕ
no_reading = 23

-- a decimal in plain digits: its sign, its digits, and a point before those below power 0, as -1234.50
abbrev pub spelled : Sign → Unsigned → List ℕ
spelled sign d = sign_text sign ++ (digits_text (integer d) ++ fraction_text (fraction d))

-- what writes numbers in full, if a mode does
abbrev pub mode_plain : Mode → Option DecimalFormat
mode_plain (Plain format) = Some format
mode_plain (Compact format) = None

-- the same of a formatter of a form, which writes numbers alone
abbrev pub formatter_plain : Formatter → Option DecimalFormat
formatter_plain (Numbers mode) = mode_plain mode
formatter_plain _ = None

-- the same of a formatter that is kept
abbrev pub kept_plain : Kept → Option DecimalFormat
kept_plain (ByWords mode) = mode_plain mode
kept_plain (BySkeleton form) = formatter_plain form.formatter
kept_plain (WithRanges form ranges) = formatter_plain form.formatter

-- each text of the format determines its number
abbrev pub IsReader : DecimalFormat → Type 0
IsReader format = IsReadable format.symbols.strings format.digits

-- an output holds a decimal of which these are the characters, in plain digits of n bytes at its front, if they fit, and else what it held
pub record HoldsNumber (format : DecimalFormat) (cs old new : List ℕ) (n : ℕ) : Type 0 where
  pub sign : Sign
  pub absolute : Unsigned
  pub valid : IsUnsigned absolute
  pub is_text : IsTextOf format cs sign absolute
  pub holds : HoldsIfRoom old new (spelled sign absolute) n

-- a text is read: the length of its decimal is returned, and this is written where it has room
pub record IsRead (format : DecimalFormat) (cs old new : List ℕ) (n byte status : ℕ) : Type 0 where
  pub number : HoldsNumber format cs old new n
  pub fits : n ≤ length old → status ≡ done
  pub too_long : length old < n → status ≡ output_too_small
  pub no_fault : byte ≡ 0

-- nothing is written, for a reason that stands at a byte
pub record IsUnread (old new : List ℕ) (n byte status at why : ℕ) : Type 0 where
  pub untouched : IsUntouched old new n
  pub fault : byte ≡ at
  pub reason : status ≡ why

-- the characters are those of no number
pub record IsRejected (format : DecimalFormat) (cs old new : List ℕ) (n byte status : ℕ) : Type 0 where
  pub no_text : IsNoText format cs
  pub unread : IsUnread old new n byte status (fault_byte format cs) not_read

-- characters are read, or they are those of no number; out of memory may come in place of both
abbrev pub ReadsCharacters : DecimalFormat → List ℕ → List ℕ → List ℕ → ℕ → ℕ → ℕ → Type 0
ReadsCharacters format cs old new n byte status =
    IsRead format cs old new n byte status
    ⊎ (IsRejected format cs old new n byte status ⊎ IsUnread old new n byte status 0 out_of_memory)

-- the same of bytes, by whether they are UTF-8: the first that isn't is the byte of the fault
abbrev pub ReadsBytes : Bool → DecimalFormat → List ℕ → List ℕ → List ℕ → ℕ → ℕ → ℕ → Type 0
ReadsBytes true format text old new n byte status = ReadsCharacters format (chars text) old new n byte status
ReadsBytes false format text old new n byte status = IsUnread old new n byte status (utf8_valid_len text) not_read

-- the same by what writes numbers in full: nothing is read where there is none, or where texts don't determine their numbers
abbrev pub ReadsBy : Option DecimalFormat → List ℕ → List ℕ → List ℕ → ℕ → ℕ → ℕ → Type 0
ReadsBy None text old new n byte status = IsUnread old new n byte status 0 no_reading
ReadsBy (Some format) text old new n byte status =
    (IsReader format × ReadsBytes (is_utf8 text) format text old new n byte status)
    ⊎ ((¬ (IsReader format)) × IsUnread old new n byte status 0 no_reading)

-- a text by a formatter that is kept
abbrev pub IsReadBack : Kept → List ℕ → List ℕ → List ℕ → ℕ → ℕ → ℕ → Type 0
IsReadBack kept text old new n byte status = ReadsBy (kept_plain kept) text old new n byte status
