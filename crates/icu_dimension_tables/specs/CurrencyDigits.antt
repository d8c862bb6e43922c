-- The digits of currencies in tables.
use Rattle.std.specs.Prelude.{ℕ, List, [], ◌∷◌, Option, Some, None, option_map, Result, Ok, Err, codes, nat_eq, nat_lt, if◌then◌else◌}
use Rattle.std.specs.Cmp.Lexicographic.{pointwise}
use Rattle.std.specs.List.{filter_map}
use Rattle.serde_json.specs.Data.{Data}
use Rattle.fixed_decimal.specs.declared.increments.RoundingIncrement.TheVariants.{MultiplesOf1}
use Rattle.icu_dimension_data.specs.Currency.{is_currency_code}
use Rattle.icu_dimension_data.specs.Digits.{Digits, cash_step}
use Rattle.icu_dimension_data.specs.declared.currency_digits.CashStep.{CashStep}
use Rattle.icu_dimension_data.specs.declared.currency_digits.CurrencyEntry.{CurrencyEntry}
use Rattle.icu_dimension_data.specs.declared.currency_digits.FractionDigits.{FractionDigits}
use Rattle.icu_dimension_tables.specs.declared.currency_digits.DigitsRow.{DigitsRow}
use Rattle.icu_table_entries.specs.Named.{refused}
use Rattle.icu_table_entries.specs.Reading.{◌>>=◌, byte_in, entries_in, list_in, optional_at, text_in}
use Rattle.icu_table_entries.specs.declared.error.EntryFault.TheVariants.{BadCashStep, BadCurrencyCode, TooManyDigits}
use Rattle.icu_table_entries.specs.declared.error.Key.{Key}
use Rattle.icu_table_entries.specs.declared.error.Key.TheVariants as key
use Rattle.icu_table_entries.specs.declared.error.Position.{Position}
use Rattle.icu_table_entries.specs.declared.error.TableError.{TableError}
use Rattle.icu_table_entries.specs.declared.error.TableError.TheVariants.{WrongKind}

-- the code of a currency
unfoldable pub currency_code_of : Position → List ℕ → Result (List ℕ) TableError
currency_code_of position text = if is_currency_code text then Ok text else refused position BadCurrencyCode

-- the code of a currency, or none for `DEFAULT`, which is for all others
unfoldable pub code_or_default : Position → List ℕ → Result (Option (List ℕ)) TableError
code_or_default position text = if pointwise nat_eq text (codes "DEFAULT") then Ok None else (do
  code ← currency_code_of position text
  Ok (Some code))

-- that many fraction digits, at most 15
unfoldable pub fraction_digits_of : Position → ℕ → Result ℕ TableError
fraction_digits_of position n = if nat_lt 15 n then refused position TooManyDigits else Ok n

-- the step of cash, or its fault
abbrev pub step_or_fault : Position → Option CashStep → Result CashStep TableError
step_or_fault position None = refused position BadCashStep
step_or_fault position (Some step) = Ok step

-- the step of cash of a number, if it has one
unfoldable pub cash_step_of : Position → ℕ → Result CashStep TableError
cash_step_of position n = step_or_fault position (cash_step n)

-- three members, or four
abbrev pub members_of : Key → List Data → Result (Data × (Data × (Data × Option Data))) TableError
members_of key [] = Err (WrongKind key)
members_of key (a ∷ []) = Err (WrongKind key)
members_of key (a ∷ b ∷ []) = Err (WrongKind key)
members_of key (a ∷ b ∷ c ∷ []) = Ok (a, (b, (c, None)))
members_of key (a ∷ b ∷ c ∷ d ∷ []) = Ok (a, (b, (c, Some d)))
members_of key (a ∷ b ∷ c ∷ d ∷ (e ∷ es)) = Err (WrongKind key)

-- a list of three values, or of four
unfoldable pub members_in : Key → Data → Result (Data × (Data × (Data × Option Data))) TableError
members_in key d = do
  values ← list_in key d
  members_of key values

-- the number of the step of cash: without a member it is one
unfoldable pub step_number_in : Key → Option Data → Result ℕ TableError
step_number_in key None = Ok 1
step_number_in key (Some d) = byte_in key d

-- an entry: a list of a code, its digits, its digits in cash and perhaps its step of cash; first their kinds, then what they say
unfoldable pub digits_row_at : Position → Data → Result DigitsRow TableError
digits_row_at position d = do
  members ← members_in position.key d
  text ← text_in position.key members.0
  standard ← byte_in position.key members.1.0
  cash ← byte_in position.key members.1.1.0
  step ← step_number_in position.key members.1.1.1
  code ← code_or_default position text
  standard ← fraction_digits_of position standard
  cash ← fraction_digits_of position cash
  step ← cash_step_of position step
  Ok (record { code = code; digits = record { standard = standard; cash = cash; cash_step = step } })

-- the currency of an entry with its digits, if the entry is that of one currency
abbrev pub currency_in : DigitsRow → Option CurrencyEntry
currency_in row = option_map (λ code. record { code = code; digits = row.digits }) row.code

-- this entry's digits, if it is that for all others, and else those of the entries behind it
abbrev pub default_or : Option (List ℕ) → FractionDigits → FractionDigits → FractionDigits
default_or None here behind = here
default_or (Some code) here behind = behind

-- the digits of the first entry for all others; without one they are two, and the step of cash is one
unfoldable pub default_digits : List DigitsRow → FractionDigits
default_digits [] = record { standard = 2; cash = 2; cash_step = record { increment = MultiplesOf1; zeros = 0 } }
default_digits (row ∷ rows) = default_or row.code row.digits (default_digits rows)

-- the digits of all currencies
abbrev pub currency_digits_of : List DigitsRow → Digits
currency_digits_of rows = record { entries = filter_map currency_in rows; others = default_digits rows }

-- the digits of all currencies, if the document has their key
unfoldable pub currency_digits_under : Data → Result (Option Digits) TableError
currency_digits_under d = do
  rows ← optional_at (entries_in digits_row_at key.CurrencyDigits) key.CurrencyDigits d
  Ok (option_map currency_digits_of rows)
