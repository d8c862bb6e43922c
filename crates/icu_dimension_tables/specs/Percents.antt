-- Entries of percents, which may have permilles too.
use Rattle.std.specs.Prelude.{ℕ, List, Option, Some, None, Result, Ok, codes, map}
use Rattle.serde_json.specs.Data.{Data}
use Rattle.icu_dimension_data.specs.Patterns.{PatternText}
use Rattle.icu_dimension_data.specs.Permilles.{permilles_of}
use Rattle.icu_dimension_data.specs.Resolved.{Signed, Texts, resolved}
use Rattle.icu_dimension_tables.specs.Money.{filed_part}
use Rattle.icu_dimension_tables.specs.MoneyPattern.{percent_pattern_of}
use Rattle.icu_dimension_tables.specs.SignTexts.{sign_text_of}
use Rattle.writeable.specs.Events.{ascii_characters}
use Rattle.icu_table_entries.specs.Named.{NamedEntry, identifier_from}
use Rattle.icu_table_entries.specs.Reading.{◌>>=◌, object_in, optional_at, text_at, text_in}
use Rattle.icu_table_entries.specs.declared.error.Key.TheVariants.{Locale, System, Pattern, Minus, Plus, Percent, Permille}
use Rattle.icu_table_entries.specs.declared.error.Position.{Position}
use Rattle.icu_table_entries.specs.declared.error.TableError.{TableError}

-- the texts of the signs and of the percent sign; percents have no currency
unfoldable pub percent_texts_at : Data → Result Texts TableError
percent_texts_at d = do
  minus ← text_at Minus d
  plus ← text_at Plus d
  percent ← text_at Percent d
  Ok (record { minus_sign = minus; plus_sign = plus; percent_sign = percent; currency = codes "" })

-- texts of which none is empty but that of the currency
unfoldable pub percent_texts_of : Position → Texts → Result Texts TableError
percent_texts_of position texts = do
  minus ← sign_text_of position Minus texts.minus_sign
  plus ← sign_text_of position Plus texts.plus_sign
  percent ← sign_text_of position Percent texts.percent_sign
  Ok (record { minus_sign = minus; plus_sign = plus; percent_sign = percent; currency = texts.currency })

-- how a locale writes percents, and permilles, if the entry has their sign
pub record LocalePercents : Type 0 where
  pub percents : Signed
  pub permilles : Option Signed

-- the patterns of permilles, if there is a per mille sign, which isn't empty: it stands in the place of the percent sign
unfoldable pub permilles_with : Position → PatternText → Texts → Option (List ℕ) → Result (Option Signed) TableError
permilles_with position pattern texts None = Ok None
permilles_with position pattern texts (Some sign) = do
  sign ← sign_text_of position Permille sign
  Ok (Some (resolved ascii_characters (permilles_of pattern) (record texts { percent_sign = sign })))

-- an entry: first the kinds of all its fields, then its name, then its pattern and its texts, of which the patterns of the signs
-- are made; without a symbol no space is inserted beside any digits. The per mille sign is judged last.
unfoldable pub percents_at : Position → Data → Result (NamedEntry LocalePercents) TableError
percents_at position d = do
  d ← object_in position.key d
  locale ← text_at Locale d
  system ← optional_at (text_in System) System d
  text ← text_at Pattern d
  texts ← percent_texts_at d
  permille ← optional_at (text_in Permille) Permille d
  identifier ← identifier_from position locale system
  pattern ← percent_pattern_of position text
  texts ← percent_texts_of position texts
  permilles ← permilles_with position pattern texts permille
  Ok (record {
    identifier = identifier;
    content = record { percents = resolved ascii_characters pattern texts; permilles = permilles };
  })

-- the percents of each entry
abbrev pub percents_filed : List (NamedEntry LocalePercents) → List (NamedEntry Signed)
percents_filed es = map (filed_part (λ p. p.percents)) es

-- the permilles of each entry, which may have none
abbrev pub permilles_filed : List (NamedEntry LocalePercents) → List (NamedEntry (Option Signed))
permilles_filed es = map (filed_part (λ p. p.permilles)) es

-- the permilles of an entry, if it is there and has any
abbrev pub permilles_found : Option (Option Signed) → Option Signed
permilles_found None = None
permilles_found (Some permilles) = permilles
