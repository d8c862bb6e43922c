-- Values of options, and what holds where an option isn't given.
use Rattle.std.specs.Prelude.{ℕ, Bool, ◌||◌, ◌==◌, List, [], ◌∷◌, Option, Some, None, Result, Ok, Err, codes, nat_eq, if◌then◌else◌}
use Rattle.std.specs.Cmp.Lexicographic.{pointwise}
use Rattle.icu_provider.specs.NumberingSystem.{is_numbering_system}
use Rattle.icu_decimal.specs.declared.options.GroupingStrategy.TheVariants as grouping
use Rattle.number_formatters.specs.declared.settings.FormGrouping.{FormGrouping}
use Rattle.number_formatters.specs.declared.settings.FormGrouping.TheVariants.{Strategy}
use Rattle.fixed_decimal.specs.declared.signs.SignDisplay.{SignDisplay}
use Rattle.fixed_decimal.specs.declared.signs.SignDisplay.TheVariants as sign
use Rattle.locnum_lines.specs.declared.settings.Delimiter.{Delimiter}
use Rattle.locnum_lines.specs.declared.settings.Delimiter.TheVariants.{Blanks, Byte, Csv}
use Rattle.locnum_lines.specs.declared.settings.Refusals.{Refusals}
use Rattle.locnum_lines.specs.declared.settings.Refusals.TheVariants as refusals
use Rattle.locnum_options.specs.Given.{flag_of, text_of}
use Rattle.locnum_options.specs.declared.given.Given.{Given}
use Rattle.locnum_options.specs.Kinds.{◌>>=◌}
use Rattle.locnum_options.specs.declared.fault.OptionFault.{OptionFault}
use Rattle.locnum_options.specs.declared.fault.OptionFault.TheVariants as fault

-- what was found, or this fault
abbrev pub ok_or : {A : Type 0} → Option A → OptionFault → Result A OptionFault
ok_or None fault = Err fault
ok_or (Some x) fault = Ok x

-- the numbering system; none by default
unfoldable pub system_given : Option (List ℕ) → Result (Option (List ℕ)) OptionFault
system_given None = Ok None
system_given (Some text) = if is_numbering_system text then Ok (Some text) else Err fault.System

-- when separators are written, by a strategy; none by default
unfoldable pub grouping_given : Option (List ℕ) → Result (Option FormGrouping) OptionFault
grouping_given None = Ok None
grouping_given (Some word) =
    if pointwise nat_eq word (codes "auto") then Ok (Some (Strategy grouping.Auto))
    else if pointwise nat_eq word (codes "never") then Ok (Some (Strategy grouping.Never))
    else if pointwise nat_eq word (codes "always") then Ok (Some (Strategy grouping.Always))
    else if pointwise nat_eq word (codes "min2") then Ok (Some (Strategy grouping.Min2))
    else Err fault.Grouping

-- the signs that are written; `auto` by default
unfoldable pub sign_given : Option (List ℕ) → Result SignDisplay OptionFault
sign_given None = Ok sign.Auto
sign_given (Some word) =
    if pointwise nat_eq word (codes "auto") then Ok sign.Auto
    else if pointwise nat_eq word (codes "always") then Ok sign.Always
    else if pointwise nat_eq word (codes "never") then Ok sign.Never
    else if pointwise nat_eq word (codes "except-zero") then Ok sign.ExceptZero
    else if pointwise nat_eq word (codes "negative") then Ok sign.Negative
    else Err fault.Sign

-- the byte that a text is
abbrev pub only_byte : List ℕ → Result ℕ OptionFault
only_byte [] = Err fault.Delimiter
only_byte (byte ∷ []) = Ok byte
only_byte (byte ∷ (other ∷ others)) = Err fault.Delimiter

-- the byte of a text: a tab of `tab` and `\t`, or the byte that it is
unfoldable pub byte_named : List ℕ → Result ℕ OptionFault
byte_named text =
    if pointwise nat_eq text (codes "tab") || pointwise nat_eq text (92 ∷ (116 ∷ [])) then Ok 9 else only_byte text

-- the byte between fields; none by default
unfoldable pub delimiter_given : Option (List ℕ) → Result (Option ℕ) OptionFault
delimiter_given None = Ok None
delimiter_given (Some text) = do
  byte ← byte_named text
  Ok (Some byte)

-- a quote, a line feed or a carriage return
abbrev pub is_csv_mark : ℕ → Bool
is_csv_mark byte = byte == 34 || byte == 10 || byte == 13

-- what ends a field of CSV, by the byte between fields; a comma by default
unfoldable pub csv_given : Option ℕ → Result Delimiter OptionFault
csv_given None = Ok (Csv 44)
csv_given (Some byte) = if is_csv_mark byte then Err fault.CsvDelimiter else Ok (Csv byte)

-- what ends a field otherwise; a blank by default
unfoldable pub plain_given : Option ℕ → Delimiter
plain_given None = Blanks
plain_given (Some byte) = Byte byte

-- what ends a field; CSV has lines that end in a line feed
unfoldable pub field_end_given : Given → Result Delimiter OptionFault
field_end_given given = do
  byte ← delimiter_given (text_of given (codes "delimiter"))
  if flag_of given (codes "csv") then (if flag_of given (codes "zero-terminated") then Err fault.CsvZero else csv_given byte) else Ok (plain_given byte)

-- what becomes of texts that are rejected; `abort` by default
unfoldable pub refusals_given : Option (List ℕ) → Result Refusals OptionFault
refusals_given None = Ok refusals.Abort
refusals_given (Some word) =
    if pointwise nat_eq word (codes "abort") then Ok refusals.Abort
    else if pointwise nat_eq word (codes "fail") then Ok refusals.Fail
    else if pointwise nat_eq word (codes "warn") then Ok refusals.Warn
    else if pointwise nat_eq word (codes "ignore") then Ok refusals.Ignore
    else Err fault.Invalid
