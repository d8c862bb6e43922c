-- Entries of the patterns of money.
use Rattle.std.specs.Prelude.{ℕ, List, Option, Some, None, Result, Ok, map}
use Rattle.serde_json.specs.Data.{Data}
use Rattle.icu_dimension.specs.CurrencyData.{MoneyPatterns}
use Rattle.icu_dimension_tables.specs.ByCategory.{elements_read}
use Rattle.icu_dimension_tables.specs.SignTexts.{sign_text_of}
use Rattle.icu_dimension_tables.specs.MoneyPattern.{money_pattern_of}
use Rattle.icu_dimension_tables.specs.NamePlaceholders.{NamePlaceholders, name_placeholders_of}
use Rattle.icu_plurals.specs.Elements.{Elements}
use Rattle.icu_table_entries.specs.CategoryTexts.{category_texts_in}
use Rattle.icu_table_entries.specs.Named.{NamedEntry, identifier_from}
use Rattle.icu_table_entries.specs.PatternTexts.{Texts}
use Rattle.icu_table_entries.specs.Reading.{◌>>=◌, object_in, optional_at, text_at, text_in}
use Rattle.icu_table_entries.specs.declared.error.Key.TheVariants.{Locale, System, Standard, Accounting, Minus, Plus, Names}
use Rattle.icu_table_entries.specs.declared.error.Position.{Position}
use Rattle.icu_table_entries.specs.declared.error.TableError.{TableError}

-- the texts of the patterns and of the signs
pub record MoneyTexts : Type 0 where
  pub standard : List ℕ
  pub accounting : List ℕ
  pub minus_sign : List ℕ
  pub plus_sign : List ℕ

-- the four texts of an entry
unfoldable pub money_texts_at : Data → Result MoneyTexts TableError
money_texts_at d = do
  standard ← text_at Standard d
  accounting ← text_at Accounting d
  minus ← text_at Minus d
  plus ← text_at Plus d
  Ok (record { standard = standard; accounting = accounting; minus_sign = minus; plus_sign = plus })

-- the patterns of these texts, the standard one first, and the signs, none of which is empty
unfoldable pub money_patterns_of : Position → MoneyTexts → Result MoneyPatterns TableError
money_patterns_of position texts = do
  standard ← money_pattern_of position texts.standard
  accounting ← money_pattern_of position texts.accounting
  minus ← sign_text_of position Minus texts.minus_sign
  plus ← sign_text_of position Plus texts.plus_sign
  Ok (record { standard = standard; accounting = accounting; minus_sign = minus; plus_sign = plus })

-- how a locale writes amounts: with a symbol, and with a name, if the entry says how
pub record LocaleMoney : Type 0 where
  pub patterns : MoneyPatterns
  pub placeholders : Option (Elements NamePlaceholders)

-- the places of texts that may be absent
unfoldable pub placeholders_of : Position → Option Texts → Result (Option (Elements NamePlaceholders)) TableError
placeholders_of position None = Ok None
placeholders_of position (Some names) = do
  placeholders ← elements_read name_placeholders_of position names
  Ok (Some placeholders)

-- an entry: first the kinds of all its fields, then its name, then its patterns, then the places of names
unfoldable pub currencies_at : Position → Data → Result (NamedEntry LocaleMoney) TableError
currencies_at position d = do
  d ← object_in position.key d
  locale ← text_at Locale d
  system ← optional_at (text_in System) System d
  texts ← money_texts_at d
  names ← optional_at (category_texts_in Names) Names d
  identifier ← identifier_from position locale system
  patterns ← money_patterns_of position texts
  placeholders ← placeholders_of position names
  Ok (record { identifier = identifier; content = record { patterns = patterns; placeholders = placeholders } })

-- an entry with a part of its content
abbrev pub filed_part : {A B : Type 0} → (A → B) → NamedEntry A → NamedEntry B
filed_part part e = record { identifier = e.identifier; content = part e.content }

-- the patterns of each entry
abbrev pub patterns_filed : List (NamedEntry LocaleMoney) → List (NamedEntry MoneyPatterns)
patterns_filed es = map (filed_part (λ m. m.patterns)) es

-- the places of each entry, which may have none
abbrev pub placeholders_filed : List (NamedEntry LocaleMoney) → List (NamedEntry (Option (Elements NamePlaceholders)))
placeholders_filed es = map (filed_part (λ m. m.placeholders)) es
