-- All tables that are read for one locale. Of each list the entries of the locale are kept, and by induction on it the first
-- entry that an identifier of the locale finds is among them.
use Rattle.std.proofs.Common.{◌≡◌, ℕ, Bool, true, false, List, [], ◌∷◌, Option, Some, None, Result, Ok, nat_eq, refl}
use Rattle.std.proofs.Common.{sym, ap, ◌∙◌, cond, map, option_map}
use Rattle.std.proofs.Math.Bool.{and-false}
use Rattle.std.specs.Cmp.Lexicographic.{pointwise}
use Rattle.std.specs.List.{filter}
use Rattle.json.specs.Token.{Token}
use Rattle.serde_json.specs.Data.{Data, object, Members, put}
use Rattle.serde_json.specs.Find.{get_member}
use Rattle.serde_json.specs.Read.{read as read_text}
use Rattle.serde_json.specs.Written.{has_float, members_have_float}
use Rattle.icu_decimal_data.specs.declared.decimal_symbols.DecimalSymbols.{DecimalSymbols}
use Rattle.icu_dimension_data.specs.Digits.{Digits as DigitsData}
use Rattle.icu_dimension_data.specs.declared.compact_rows.CompactRow.{CompactRow}
use Rattle.icu_dimension.specs.Names.{NameText}
use Rattle.icu_plurals.specs.Elements.{Elements}
use Rattle.icu_provider.specs.Answer.{Refusal}
use Rattle.icu_provider.specs.Identifier.{Identifier}
use Rattle.icu_table_entries.specs.Answering.{optional_answer, or_not_found}
use Rattle.icu_table_entries.specs.Keys.{name_of}
use Rattle.icu_table_entries.specs.Named.{NamedEntry, first_filed, is_of}
use Rattle.icu_table_entries.specs.Reading.{◌>>=◌, entries_in, object_in, optional, optional_at, value_of}
use Rattle.icu_table_entries.specs.declared.error.Key.{Key}
use Rattle.icu_table_entries.specs.declared.error.Key.TheVariants.{Percents, Units, Currencies, CurrencySymbols, CurrencyDecimals}
use Rattle.icu_table_entries.specs.declared.error.Key.TheVariants.{CurrencyDigits, CurrencyCompact}
use Rattle.icu_table_entries.specs.declared.error.Key.TheVariants.{Symbols, Digits, Rules, Short, Long, Ordinals}
use Rattle.icu_tables.specs.ForLocale.{AddsMembers, FoundData, Holds, IsFor, IsOnce}
use Rattle.icu_tables.specs.Symbols.{symbols_at}
use Rattle.icu_tables.specs.Tables.{TablesData, tables_of}
use Rattle.icu_tables.proofs.ForLocale.{HoldsAt-here, HoldsAt-other, KeptOf, adds_other, apart, filter-all}
use Rattle.icu_tables.proofs.ForLocale.{first_filed-filter, optional_read, optional_same}
use Rattle.icu_dimension_tables.specs.AllTables.{all_tables_of}
use Rattle.icu_dimension_tables.specs.Answering.{decimals_answer, names_answer, permilles_answer, symbols_answer, unit_answer}
use Rattle.icu_dimension_tables.specs.CurrencyCompact.{currency_compact_at}
use Rattle.icu_dimension_tables.specs.CurrencyDigits.{currency_digits_of, currency_digits_under, digits_row_at}
use Rattle.icu_dimension_tables.specs.CurrencyNames.{names_found}
use Rattle.icu_dimension_tables.specs.CurrencySymbols.{LocaleCurrencies, CurrencyRow, currency_symbols_at, row_filed, row_in, rows_of_locale}
use Rattle.icu_dimension_tables.specs.DimensionTables.{DimensionData, dimension_tables_at, dimension_tables_of}
use Rattle.icu_dimension_tables.specs.ForLocale.{AllFoundData, HoldsAll, IsAllFor, IsDimensionFor}
use Rattle.icu_dimension_tables.specs.ForLocale.{currencies_are_of, unit_is_of}
use Rattle.icu_dimension_tables.specs.Money.{LocaleMoney, currencies_at, filed_part, patterns_filed, placeholders_filed}
use Rattle.icu_dimension_tables.specs.NamePlaceholders.{NamePlaceholders}
use Rattle.icu_dimension_tables.specs.Percents.{LocalePercents, percents_at, percents_filed, permilles_filed, permilles_found}
use Rattle.icu_dimension_tables.specs.Units.{UnitPatterns, first_unit, units_at}
use Rattle.icu_dimension_tables.specs.declared.currency_digits.DigitsRow.{DigitsRow}
use Rattle.icu_dimension_tables.specs.declared.units.UnitWidth.{UnitWidth}
use Rattle.icu_dimension_tables.proofs.Filed.{first_part}

-- ---- what is found in lists of which the entries of a locale are kept

-- the first entry with a part of its content
part-filter : {A B : Type 0} (part : A → B) (locale : List ℕ) (id : Identifier) → id.locale ≡ locale → (es : List (NamedEntry A))
    → first_filed id (map (filed_part part) (filter (is_of locale) es)) ≡ first_filed id (map (filed_part part) es)
part-filter part locale id same es =
    first_part part id (filter (is_of locale) es) ∙ ap (option_map part) (first_filed-filter locale id same es) ∙ sym (first_part part id es)

module _ (locale : List ℕ) where
  -- the patterns of a unit
  unit_kept : (width : UnitWidth) (id : Identifier) (b : Bool) (e : UnitPatterns) (es : List UnitPatterns) → id.locale ≡ locale
      → unit_is_of locale e ≡ b → first_unit width id (filter (unit_is_of locale) es) ≡ first_unit width id es
      → first_unit width id (cond b (e ∷ filter (unit_is_of locale) es) (filter (unit_is_of locale) es)) ≡ first_unit width id (e ∷ es)
  unfolding first_unit
  unit_kept width id true e es same of rest = rw rest refl
  unit_kept width id false e es same of rest =
      let other : pointwise nat_eq id.locale e.identifier.locale ≡ false = ap (λ x. pointwise nat_eq x e.identifier.locale) same ∙ of in
      rw (other, and-false, and-false) rest

  first_unit-filter : (width : UnitWidth) (id : Identifier) → id.locale ≡ locale → (es : List UnitPatterns)
      → first_unit width id (filter (unit_is_of locale) es) ≡ first_unit width id es
  unfolding first_unit
  first_unit-filter width id same [] = refl
  first_unit-filter width id same (e ∷ es) = unit_kept width id (unit_is_of locale e) e es same refl (first_unit-filter width id same es)

  -- the currencies of the locale
  rows_kept : (b : Bool) (e : LocaleCurrencies) (es : List LocaleCurrencies) → currencies_are_of locale e ≡ b
      → rows_of_locale locale (filter (currencies_are_of locale) es) ≡ rows_of_locale locale es
      → rows_of_locale locale (cond b (e ∷ filter (currencies_are_of locale) es) (filter (currencies_are_of locale) es))
      ≡ rows_of_locale locale (e ∷ es)
  unfolding rows_of_locale
  rows_kept true e es of rest = rw rest refl
  rows_kept false e es of rest = rw of rest

  rows_of_locale-filter : (es : List LocaleCurrencies)
      → rows_of_locale locale (filter (currencies_are_of locale) es) ≡ rows_of_locale locale es
  unfolding rows_of_locale
  rows_of_locale-filter [] = refl
  rows_of_locale-filter (e ∷ es) = rows_kept (currencies_are_of locale e) e es refl (rows_of_locale-filter es)

  row_filed-filter : (id : Identifier) → id.locale ≡ locale → (es : List LocaleCurrencies)
      → row_filed id (filter (currencies_are_of locale) es) ≡ row_filed id es
  row_filed-filter id same es =
      let there : rows_of_locale id.locale (filter (currencies_are_of locale) es) ≡ rows_of_locale id.locale es =
      rw same (rows_of_locale-filter es) in
      ap (λ rows. row_in rows id.system) there

-- ---- what such lists answer

module _ (locale : List ℕ) (id : Identifier) (same : id.locale ≡ locale) where
  units_same : (width : UnitWidth) (kept all : Option (List UnitPatterns)) → KeptOf (unit_is_of locale) kept all
      → unit_answer width kept id ≡ unit_answer width all id
  units_same width None None is = refl
  units_same width None (Some all) is = absurd is
  units_same width (Some kept) None is = absurd is
  units_same width (Some kept) (Some all) is = rw is (ap or_not_found (first_unit-filter locale width id same all))

  symbols_same : (kept all : Option (List LocaleCurrencies)) → KeptOf (currencies_are_of locale) kept all
      → symbols_answer kept id ≡ symbols_answer all id
  symbols_same None None is = refl
  symbols_same None (Some all) is = absurd is
  symbols_same (Some kept) None is = absurd is
  symbols_same (Some kept) (Some all) is =
      rw is (ap (λ row. or_not_found (option_map (λ (r : CurrencyRow). r.symbols) row)) (row_filed-filter locale id same all))

  decimals_same : (kept all : Option (List (NamedEntry DecimalSymbols))) → KeptOf (is_of locale) kept all
      → decimals_answer kept id ≡ decimals_answer all id
  decimals_same None None is = refl
  decimals_same None (Some all) is = absurd is
  decimals_same (Some kept) None is = absurd is
  decimals_same (Some kept) (Some all) is = rw is (ap or_not_found (first_filed-filter locale id same all))

  currencies_same : (kept all : Option (List (NamedEntry LocaleMoney))) → KeptOf (is_of locale) kept all
      → optional_answer (option_map patterns_filed kept) id ≡ optional_answer (option_map patterns_filed all) id
  currencies_same None None is = refl
  currencies_same None (Some all) is = absurd is
  currencies_same (Some kept) None is = absurd is
  currencies_same (Some kept) (Some all) is = rw is (ap or_not_found (part-filter (λ m. m.patterns) locale id same all))

  percents_same : (kept all : Option (List (NamedEntry LocalePercents))) → KeptOf (is_of locale) kept all
      → optional_answer (option_map percents_filed kept) id ≡ optional_answer (option_map percents_filed all) id
  percents_same None None is = refl
  percents_same None (Some all) is = absurd is
  percents_same (Some kept) None is = absurd is
  percents_same (Some kept) (Some all) is = rw is (ap or_not_found (part-filter (λ p. p.percents) locale id same all))

  permilles_same : (kept all : Option (List (NamedEntry LocalePercents))) → KeptOf (is_of locale) kept all
      → permilles_answer (option_map permilles_filed kept) id ≡ permilles_answer (option_map permilles_filed all) id
  permilles_same None None is = refl
  permilles_same None (Some all) is = absurd is
  permilles_same (Some kept) None is = absurd is
  permilles_same (Some kept) (Some all) is =
      rw is (ap (λ permilles. or_not_found (permilles_found permilles)) (part-filter (λ p. p.permilles) locale id same all))

  -- the names of a row in places, or none
  abbrev found : Option (Option (Elements NamePlaceholders)) → Option CurrencyRow → Result (Elements NameText) Refusal
  found placeholders row = or_not_found (names_found placeholders (option_map (λ (r : CurrencyRow). r.names) row))

  names_same : (kept all : Option (List (NamedEntry LocaleMoney))) (some every : Option (List LocaleCurrencies)) → KeptOf (is_of locale) kept all
      → KeptOf (currencies_are_of locale) some every
      → names_answer (option_map placeholders_filed kept) some id ≡ names_answer (option_map placeholders_filed all) every id
  names_same None None some every is are = refl
  names_same None (Some all) some every is are = absurd is
  names_same (Some kept) None some every is are = absurd is
  names_same (Some kept) (Some all) None None is are = refl
  names_same (Some kept) (Some all) None (Some every) is are = absurd are
  names_same (Some kept) (Some all) (Some some) None is are = absurd are
  names_same (Some kept) (Some all) (Some some) (Some every) is are =
      let placeholders = part-filter (λ m. m.placeholders) locale (record { system = None; locale = id.locale }) same all in
      let rows = row_filed-filter locale id same every in
      rw (is, are) (ap (λ p. found p (row_filed id (filter (currencies_are_of locale) every))) placeholders
      ∙ ap (found (first_filed (record { system = None; locale = id.locale }) (placeholders_filed all))) rows)

-- rows that were all kept
digits_same : (kept all : Option (List DigitsRow)) → KeptOf (λ entry. true) kept all
    → option_map currency_digits_of kept ≡ option_map currency_digits_of all
digits_same None None is = refl
digits_same None (Some all) is = absurd is
digits_same (Some kept) None is = absurd is
digits_same (Some kept) (Some all) is = ap (λ rows. Some (currency_digits_of rows)) (is ∙ filter-all all)

-- ---- one member more

-- one member more of all tables
abbrev pub AddsAll : List ℕ → List ℕ → List Token → AllFoundData → AllFoundData → List Token → Type 0
AddsAll = AddsMembers (λ l ds f. HoldsAll l ds f)

-- a member that is none of the tables of money, percents and units
pub adds_numbers : (locale name : List ℕ) (ts rest : List Token) (f : AllFoundData) (after : FoundData)
    → (name_of CurrencyDigits ≡ name → ⊥) → (name_of Percents ≡ name → ⊥) → (name_of Units ≡ name → ⊥)
    → (name_of Currencies ≡ name → ⊥) → (name_of CurrencySymbols ≡ name → ⊥)
    → (name_of CurrencyDecimals ≡ name → ⊥) → (name_of CurrencyCompact ≡ name → ⊥)
    → AddsMembers (λ l ds f. Holds l ds f) locale name ts f.numbers after rest
    → AddsAll locale name ts f (record f { numbers = after }) rest
adds_numbers locale name ts rest f after digits percents units money symbols decimals compact (d, is, adds) = (
  d,
  is,
  λ ds holds. record {
    numbers = adds ds holds.numbers;
    digits = HoldsAt-other digits_row_at (λ entry. true) CurrencyDigits name d ds f.digits digits holds.digits;
    percents = HoldsAt-other percents_at (is_of locale) Percents name d ds f.percents percents holds.percents;
    units = HoldsAt-other units_at (unit_is_of locale) Units name d ds f.units units holds.units;
    money = HoldsAt-other currencies_at (is_of locale) Currencies name d ds f.money money holds.money;
    symbols = HoldsAt-other currency_symbols_at (currencies_are_of locale) CurrencySymbols name d ds f.symbols symbols holds.symbols;
    decimals = HoldsAt-other symbols_at (is_of locale) CurrencyDecimals name d ds f.decimals decimals holds.decimals;
    compact = HoldsAt-other currency_compact_at (is_of locale) CurrencyCompact name d ds f.compact compact holds.compact;
  },
)

module _ (locale : List ℕ) (ts : List Token) (f : AllFoundData) (rest : List Token) where
  -- the numbers stay as they are, where a member of another name is put
  numbers_stay : (key : Key) (d : Data) (ds : Members) → has_float d ≡ false → pointwise nat_eq (name_of Symbols) (name_of key) ≡ false
      → pointwise nat_eq (name_of Digits) (name_of key) ≡ false → pointwise nat_eq (name_of Rules) (name_of key) ≡ false
      → pointwise nat_eq (name_of Short) (name_of key) ≡ false → pointwise nat_eq (name_of Long) (name_of key) ≡ false
      → pointwise nat_eq (name_of Ordinals) (name_of key) ≡ false
      → Holds locale ds f.numbers → Holds locale (put (name_of key) d ds) f.numbers
  numbers_stay key d ds none symbols digits rules short long ordinals = adds_other locale (name_of key) d ds f.numbers none (apart _ _ symbols)
      (apart _ _ digits) (apart _ _ rules) (apart _ _ short) (apart _ _ long) (apart _ _ ordinals)

  -- the first member with the digits of currencies
  pub adds_digits : (name : List ℕ) (slot : Option (List DigitsRow)) → name ≡ name_of CurrencyDigits
      → IsOnce digits_row_at (λ entry. true) CurrencyDigits ts f.digits slot rest → AddsAll locale name ts f (record f { digits = slot }) rest
  adds_digits name slot named (fresh, kept, same, (d, is, served)) = rw named (
    d,
    is,
    λ ds holds. rw same record {
      numbers = numbers_stay CurrencyDigits d ds is.1 refl refl refl refl refl refl holds.numbers;
      digits = HoldsAt-here digits_row_at (λ entry. true) CurrencyDigits d ds kept served;
      percents = HoldsAt-other percents_at (is_of locale) Percents _ d ds f.percents (apart _ _ refl) holds.percents;
      units = HoldsAt-other units_at (unit_is_of locale) Units _ d ds f.units (apart _ _ refl) holds.units;
      money = HoldsAt-other currencies_at (is_of locale) Currencies _ d ds f.money (apart _ _ refl) holds.money;
      symbols = HoldsAt-other currency_symbols_at (currencies_are_of locale) CurrencySymbols _ d ds f.symbols (apart _ _ refl) holds.symbols;
      decimals = HoldsAt-other symbols_at (is_of locale) CurrencyDecimals _ d ds f.decimals (apart _ _ refl) holds.decimals;
      compact = HoldsAt-other currency_compact_at (is_of locale) CurrencyCompact _ d ds f.compact (apart _ _ refl) holds.compact;
    },
  )

  -- the first member with percents
  pub adds_percents : (name : List ℕ) (slot : Option (List (NamedEntry LocalePercents))) → name ≡ name_of Percents
      → IsOnce percents_at (is_of locale) Percents ts f.percents slot rest → AddsAll locale name ts f (record f { percents = slot }) rest
  adds_percents name slot named (fresh, kept, same, (d, is, served)) = rw named (
    d,
    is,
    λ ds holds. rw same record {
      numbers = numbers_stay Percents d ds is.1 refl refl refl refl refl refl holds.numbers;
      digits = HoldsAt-other digits_row_at (λ entry. true) CurrencyDigits _ d ds f.digits (apart _ _ refl) holds.digits;
      percents = HoldsAt-here percents_at (is_of locale) Percents d ds kept served;
      units = HoldsAt-other units_at (unit_is_of locale) Units _ d ds f.units (apart _ _ refl) holds.units;
      money = HoldsAt-other currencies_at (is_of locale) Currencies _ d ds f.money (apart _ _ refl) holds.money;
      symbols = HoldsAt-other currency_symbols_at (currencies_are_of locale) CurrencySymbols _ d ds f.symbols (apart _ _ refl) holds.symbols;
      decimals = HoldsAt-other symbols_at (is_of locale) CurrencyDecimals _ d ds f.decimals (apart _ _ refl) holds.decimals;
      compact = HoldsAt-other currency_compact_at (is_of locale) CurrencyCompact _ d ds f.compact (apart _ _ refl) holds.compact;
    },
  )

  -- the first member with units
  pub adds_units : (name : List ℕ) (slot : Option (List UnitPatterns)) → name ≡ name_of Units
      → IsOnce units_at (unit_is_of locale) Units ts f.units slot rest → AddsAll locale name ts f (record f { units = slot }) rest
  adds_units name slot named (fresh, kept, same, (d, is, served)) = rw named (
    d,
    is,
    λ ds holds. rw same record {
      numbers = numbers_stay Units d ds is.1 refl refl refl refl refl refl holds.numbers;
      digits = HoldsAt-other digits_row_at (λ entry. true) CurrencyDigits _ d ds f.digits (apart _ _ refl) holds.digits;
      percents = HoldsAt-other percents_at (is_of locale) Percents _ d ds f.percents (apart _ _ refl) holds.percents;
      units = HoldsAt-here units_at (unit_is_of locale) Units d ds kept served;
      money = HoldsAt-other currencies_at (is_of locale) Currencies _ d ds f.money (apart _ _ refl) holds.money;
      symbols = HoldsAt-other currency_symbols_at (currencies_are_of locale) CurrencySymbols _ d ds f.symbols (apart _ _ refl) holds.symbols;
      decimals = HoldsAt-other symbols_at (is_of locale) CurrencyDecimals _ d ds f.decimals (apart _ _ refl) holds.decimals;
      compact = HoldsAt-other currency_compact_at (is_of locale) CurrencyCompact _ d ds f.compact (apart _ _ refl) holds.compact;
    },
  )

  -- the first member with patterns of money
  pub adds_money : (name : List ℕ) (slot : Option (List (NamedEntry LocaleMoney))) → name ≡ name_of Currencies
      → IsOnce currencies_at (is_of locale) Currencies ts f.money slot rest → AddsAll locale name ts f (record f { money = slot }) rest
  adds_money name slot named (fresh, kept, same, (d, is, served)) = rw named (
    d,
    is,
    λ ds holds. rw same record {
      numbers = numbers_stay Currencies d ds is.1 refl refl refl refl refl refl holds.numbers;
      digits = HoldsAt-other digits_row_at (λ entry. true) CurrencyDigits _ d ds f.digits (apart _ _ refl) holds.digits;
      percents = HoldsAt-other percents_at (is_of locale) Percents _ d ds f.percents (apart _ _ refl) holds.percents;
      units = HoldsAt-other units_at (unit_is_of locale) Units _ d ds f.units (apart _ _ refl) holds.units;
      money = HoldsAt-here currencies_at (is_of locale) Currencies d ds kept served;
      symbols = HoldsAt-other currency_symbols_at (currencies_are_of locale) CurrencySymbols _ d ds f.symbols (apart _ _ refl) holds.symbols;
      decimals = HoldsAt-other symbols_at (is_of locale) CurrencyDecimals _ d ds f.decimals (apart _ _ refl) holds.decimals;
      compact = HoldsAt-other currency_compact_at (is_of locale) CurrencyCompact _ d ds f.compact (apart _ _ refl) holds.compact;
    },
  )

  -- the first member with symbols of currencies
  pub adds_symbols : (name : List ℕ) (slot : Option (List LocaleCurrencies)) → name ≡ name_of CurrencySymbols
      → IsOnce currency_symbols_at (currencies_are_of locale) CurrencySymbols ts f.symbols slot rest
      → AddsAll locale name ts f (record f { symbols = slot }) rest
  adds_symbols name slot named (fresh, kept, same, (d, is, served)) = rw named (
    d,
    is,
    λ ds holds. rw same record {
      numbers = numbers_stay CurrencySymbols d ds is.1 refl refl refl refl refl refl holds.numbers;
      digits = HoldsAt-other digits_row_at (λ entry. true) CurrencyDigits _ d ds f.digits (apart _ _ refl) holds.digits;
      percents = HoldsAt-other percents_at (is_of locale) Percents _ d ds f.percents (apart _ _ refl) holds.percents;
      units = HoldsAt-other units_at (unit_is_of locale) Units _ d ds f.units (apart _ _ refl) holds.units;
      money = HoldsAt-other currencies_at (is_of locale) Currencies _ d ds f.money (apart _ _ refl) holds.money;
      symbols = HoldsAt-here currency_symbols_at (currencies_are_of locale) CurrencySymbols d ds kept served;
      decimals = HoldsAt-other symbols_at (is_of locale) CurrencyDecimals _ d ds f.decimals (apart _ _ refl) holds.decimals;
      compact = HoldsAt-other currency_compact_at (is_of locale) CurrencyCompact _ d ds f.compact (apart _ _ refl) holds.compact;
    },
  )

  -- the first member with symbols for numbers of money
  pub adds_decimals : (name : List ℕ) (slot : Option (List (NamedEntry DecimalSymbols))) → name ≡ name_of CurrencyDecimals
      → IsOnce symbols_at (is_of locale) CurrencyDecimals ts f.decimals slot rest → AddsAll locale name ts f (record f { decimals = slot }) rest
  adds_decimals name slot named (fresh, kept, same, (d, is, served)) = rw named (
    d,
    is,
    λ ds holds. rw same record {
      numbers = numbers_stay CurrencyDecimals d ds is.1 refl refl refl refl refl refl holds.numbers;
      digits = HoldsAt-other digits_row_at (λ entry. true) CurrencyDigits _ d ds f.digits (apart _ _ refl) holds.digits;
      percents = HoldsAt-other percents_at (is_of locale) Percents _ d ds f.percents (apart _ _ refl) holds.percents;
      units = HoldsAt-other units_at (unit_is_of locale) Units _ d ds f.units (apart _ _ refl) holds.units;
      money = HoldsAt-other currencies_at (is_of locale) Currencies _ d ds f.money (apart _ _ refl) holds.money;
      symbols = HoldsAt-other currency_symbols_at (currencies_are_of locale) CurrencySymbols _ d ds f.symbols (apart _ _ refl) holds.symbols;
      decimals = HoldsAt-here symbols_at (is_of locale) CurrencyDecimals d ds kept served;
      compact = HoldsAt-other currency_compact_at (is_of locale) CurrencyCompact _ d ds f.compact (apart _ _ refl) holds.compact;
    },
  )

  -- the first member with compact patterns of money
  pub adds_compact : (name : List ℕ) (slot : Option (List (NamedEntry (List CompactRow)))) → name ≡ name_of CurrencyCompact
      → IsOnce currency_compact_at (is_of locale) CurrencyCompact ts f.compact slot rest → AddsAll locale name ts f (record f { compact = slot }) rest
  adds_compact name slot named (fresh, kept, same, (d, is, served)) = rw named (
    d,
    is,
    λ ds holds. rw same record {
      numbers = numbers_stay CurrencyCompact d ds is.1 refl refl refl refl refl refl holds.numbers;
      digits = HoldsAt-other digits_row_at (λ entry. true) CurrencyDigits _ d ds f.digits (apart _ _ refl) holds.digits;
      percents = HoldsAt-other percents_at (is_of locale) Percents _ d ds f.percents (apart _ _ refl) holds.percents;
      units = HoldsAt-other units_at (unit_is_of locale) Units _ d ds f.units (apart _ _ refl) holds.units;
      money = HoldsAt-other currencies_at (is_of locale) Currencies _ d ds f.money (apart _ _ refl) holds.money;
      symbols = HoldsAt-other currency_symbols_at (currencies_are_of locale) CurrencySymbols _ d ds f.symbols (apart _ _ refl) holds.symbols;
      decimals = HoldsAt-other symbols_at (is_of locale) CurrencyDecimals _ d ds f.decimals (apart _ _ refl) holds.decimals;
      compact = HoldsAt-here currency_compact_at (is_of locale) CurrencyCompact d ds kept served;
    },
  )

-- ---- the tables of members

-- the tables of money, percents and units of members of which each list was read
dimension_read : (ds : Members) (digits : Option (List DigitsRow)) (percents : Option (List (NamedEntry LocalePercents))) (units : Option (List UnitPatterns))
    (money : Option (List (NamedEntry LocaleMoney))) (symbols : Option (List LocaleCurrencies)) (decimals : Option (List (NamedEntry DecimalSymbols)))
    (compact : Option (List (NamedEntry (List CompactRow))))
    → optional (entries_in digits_row_at CurrencyDigits) (get_member (name_of CurrencyDigits) ds) ≡ Ok digits
    → optional (entries_in percents_at Percents) (get_member (name_of Percents) ds) ≡ Ok percents
    → optional (entries_in units_at Units) (get_member (name_of Units) ds) ≡ Ok units
    → optional (entries_in currencies_at Currencies) (get_member (name_of Currencies) ds) ≡ Ok money
    → optional (entries_in currency_symbols_at CurrencySymbols) (get_member (name_of CurrencySymbols) ds) ≡ Ok symbols
    → optional (entries_in symbols_at CurrencyDecimals) (get_member (name_of CurrencyDecimals) ds) ≡ Ok decimals
    → optional (entries_in currency_compact_at CurrencyCompact) (get_member (name_of CurrencyCompact) ds) ≡ Ok compact
    → dimension_tables_at (object ds) ≡ Ok (record {
      digits = option_map currency_digits_of digits;
      percents = option_map percents_filed percents;
      permilles = option_map permilles_filed percents;
      units = units;
      currencies = option_map patterns_filed money;
      placeholders = option_map placeholders_filed money;
      symbols = symbols;
      decimals = decimals;
      compact = compact;
    })
unfolding dimension_tables_at currency_digits_under optional_at object_in
dimension_read ds digits percents units money symbols decimals compact d p u m s n c = rw (d, p, u, m, s, n, c) refl

-- the value of a text that is an object all of whose numbers are whole
value_read : (text : List ℕ) (ds : Members) → read_text text ≡ Some (object ds) → members_have_float ds ≡ false → value_of text ≡ Ok (object ds)
unfolding value_of
value_read text ds reads whole = rw (reads, whole) refl

-- the tables of money, percents and units of what was found
pub dimension_for : (locale text : List ℕ) (ds : Members) (f : AllFoundData) (digits : Option DigitsData)
    → digits ≡ option_map currency_digits_of f.digits → HoldsAll locale ds f → read_text text ≡ Some (object ds)
    → IsDimensionFor locale (record {
      digits = digits;
      percents = option_map percents_filed f.percents;
      permilles = option_map permilles_filed f.percents;
      units = f.units;
      currencies = option_map patterns_filed f.money;
      placeholders = option_map placeholders_filed f.money;
      symbols = f.symbols;
      decimals = f.decimals;
      compact = f.compact;
    }) (dimension_tables_of text)
unfolding dimension_tables_of
dimension_for locale text ds f digits are holds reads =
    let d = optional_read digits_row_at (λ entry. true) CurrencyDigits (get_member (name_of CurrencyDigits) ds) f.digits holds.digits in
    let p = optional_read percents_at (is_of locale) Percents (get_member (name_of Percents) ds) f.percents holds.percents in
    let u = optional_read units_at (unit_is_of locale) Units (get_member (name_of Units) ds) f.units holds.units in
    let m = optional_read currencies_at (is_of locale) Currencies (get_member (name_of Currencies) ds) f.money holds.money in
    let s = optional_read currency_symbols_at (currencies_are_of locale) CurrencySymbols (get_member (name_of CurrencySymbols) ds) f.symbols holds.symbols in
    let n = optional_read symbols_at (is_of locale) CurrencyDecimals (get_member (name_of CurrencyDecimals) ds) f.decimals holds.decimals in
    let c = optional_read currency_compact_at (is_of locale) CurrencyCompact (get_member (name_of CurrencyCompact) ds) f.compact holds.compact in
    let all : DimensionData = record {
      digits = option_map currency_digits_of d.0;
      percents = option_map percents_filed p.0;
      permilles = option_map permilles_filed p.0;
      units = u.0;
      currencies = option_map patterns_filed m.0;
      placeholders = option_map placeholders_filed m.0;
      symbols = s.0;
      decimals = n.0;
      compact = c.0;
    } in
    let read = dimension_read ds d.0 p.0 u.0 m.0 s.0 n.0 c.0 d.1 p.1 u.1 m.1 s.1 n.1 c.1 in (
      all,
      ap (λ v. v >>= dimension_tables_at) (value_read text ds reads holds.numbers.whole) ∙ read,
      record {
        digits = are ∙ digits_same f.digits d.0 d.2;
        percents = λ id same. percents_same locale id same f.percents p.0 p.2;
        permilles = λ id same. permilles_same locale id same f.percents p.0 p.2;
        units = λ width id same. units_same locale id same width f.units u.0 u.2;
        currencies = λ id same. currencies_same locale id same f.money m.0 m.2;
        symbols = λ id same. symbols_same locale id same f.symbols s.0 s.2;
        names = λ id same. names_same locale id same f.money m.0 f.symbols s.0 m.2 s.2;
        decimals = λ id same. decimals_same locale id same f.decimals n.0 n.2;
        compact = optional_same locale f.compact c.0 c.2;
      },
    )

-- all tables of what was found
pub all_for : (locale text : List ℕ) (numbers : TablesData) (dimension : DimensionData) → IsFor locale numbers (tables_of text)
    → IsDimensionFor locale dimension (dimension_tables_of text)
    → IsAllFor locale (record { numbers = numbers; dimension = dimension }) (all_tables_of text)
unfolding all_tables_of
all_for locale text numbers dimension (n, reads_n, answers_n) (d, reads_d, answers_d) = (
  record { numbers = n; dimension = d },
  rw (reads_n, reads_d) refl,
  record { numbers = answers_n; dimension = answers_d },
)
