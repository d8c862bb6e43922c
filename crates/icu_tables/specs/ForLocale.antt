-- The tables that are read for one locale.
use Rattle.std.specs.Prelude.{◌≡◌, ℕ, Bool, false, true, List, Option, Some, None, Result, Ok, Err}
use Rattle.std.specs.List.{filter}
use Rattle.json.specs.Token.{Token}
use Rattle.serde_json.specs.Data.{Data, Members, put}
use Rattle.serde_json.specs.Find.{get_member}
use Rattle.serde_json.specs.Written.{members_have_float}
use Rattle.icu_decimal_data.specs.declared.decimal_symbols.DecimalSymbols.{DecimalSymbols}
use Rattle.icu_decimal_data.specs.CompactTable.{TableEntry}
use Rattle.icu_plurals.specs.Rules.{Rule}
use Rattle.icu_provider.specs.Identifier.{Identifier}
use Rattle.icu_table_entries.specs.Answering.{filed_answer, optional_answer}
use Rattle.icu_tables.specs.Compact.{compact_at}
use Rattle.icu_tables.specs.Digits.{SystemDigits, digits_at, system_answer}
use Rattle.icu_table_entries.specs.Keys.{name_of}
use Rattle.icu_table_entries.specs.Named.{NamedEntry, is_of}
use Rattle.icu_tables.specs.Owned.{IsValue}
use Rattle.icu_table_entries.specs.Reading.{Fails, entries_in}
use Rattle.icu_tables.specs.Rules.{rules_at}
use Rattle.icu_tables.specs.Symbols.{symbols_at}
use Rattle.icu_tables.specs.Tables.{TablesData}
use Rattle.icu_table_entries.specs.declared.error.Key.{Key}
use Rattle.icu_table_entries.specs.declared.error.Key.TheVariants.{Symbols, Digits, Rules, Short, Long, Ordinals}
use Rattle.icu_table_entries.specs.declared.error.Position.{Position}
use Rattle.icu_table_entries.specs.declared.error.TableError.{TableError}

-- For each identifier of the locale the kept tables answer what all tables answer, and for digits in any locale.
pub record AnswersAs (locale : List ℕ) (kept all : TablesData) : Type 0 where
  pub symbols : (id : Identifier) → id.locale ≡ locale → filed_answer kept.symbols id ≡ filed_answer all.symbols id
  pub digits : (system : Option (List ℕ)) → system_answer kept.digits system ≡ system_answer all.digits system
  pub rules : (id : Identifier) → id.locale ≡ locale → optional_answer kept.rules id ≡ optional_answer all.rules id
  pub short : (id : Identifier) → id.locale ≡ locale → optional_answer kept.short id ≡ optional_answer all.short id
  pub long : (id : Identifier) → id.locale ≡ locale → optional_answer kept.long id ≡ optional_answer all.long id
  pub ordinals : (id : Identifier) → id.locale ≡ locale → optional_answer kept.ordinals id ≡ optional_answer all.ordinals id

-- tables for a locale, of the tables that were read
abbrev pub IsFor : List ℕ → TablesData → Result TablesData TableError → Type 0
IsFor locale kept read = (all : TablesData) × (read ≡ Ok all) × AnswersAs locale kept all

-- The result of a call for a locale, by what was read; `OutOfMemory` may be reported in any case.
abbrev pub GivesFor : List ℕ → Result TablesData TableError → Result TablesData TableError → Type 0
GivesFor locale (Ok kept) read = IsFor locale kept read
GivesFor locale (Err e) read = Fails e read

-- the entries of a list under a key that serve
abbrev pub IsServed : {A : Type 0} → (Position → Data → Result A TableError) → (A → Bool) → Key → Data → List A → Type 0
IsServed {A} read serves key d kept = (all : List A) × (entries_in read key d ≡ Ok all) × (kept ≡ filter serves all)

-- the same of the value in front of tokens, and what stands behind it
abbrev pub AreEntries : {A : Type 0} → (Position → Data → Result A TableError) → (A → Bool) → Key → List Token → List A → List Token
    → Type 0
AreEntries read serves key ts kept rest = (d : Data) × IsValue 126 ts d rest × IsServed read serves key d kept

-- the same, where nothing was before
abbrev pub IsOnce : {A : Type 0} → (Position → Data → Result A TableError) → (A → Bool) → Key → List Token → Option (List A)
    → Option (List A) → List Token → Type 0
IsOnce {A} read serves key ts before after rest =
    (before ≡ None) × (kept : List A) × (after ≡ Some kept) × AreEntries read serves key ts kept rest

-- what is kept of a member, or that there is none
abbrev pub HoldsAt : {A : Type 0} → (Position → Data → Result A TableError) → (A → Bool) → Key → Option Data → Option (List A) → Type 0
HoldsAt read serves key None None = Unit {0}
HoldsAt read serves key None (Some kept) = ⊥
HoldsAt read serves key (Some d) None = ⊥
HoldsAt read serves key (Some d) (Some kept) = IsServed read serves key d kept

-- what is kept of each list of a document
pub record FoundData : Type 0 where
  pub symbols : Option (List (NamedEntry DecimalSymbols))
  pub digits : Option (List SystemDigits)
  pub rules : Option (List (NamedEntry (List Rule)))
  pub short : Option (List (NamedEntry (List TableEntry)))
  pub long : Option (List (NamedEntry (List TableEntry)))
  pub ordinals : Option (List (NamedEntry (List Rule)))

-- what is kept of these members for a locale; all their numbers are whole
pub record Holds (locale : List ℕ) (ds : Members) (f : FoundData) : Type 0 where
  pub symbols : HoldsAt symbols_at (is_of locale) Symbols (get_member (name_of Symbols) ds) f.symbols
  pub digits : HoldsAt digits_at (λ entry. true) Digits (get_member (name_of Digits) ds) f.digits
  pub rules : HoldsAt rules_at (is_of locale) Rules (get_member (name_of Rules) ds) f.rules
  pub short : HoldsAt compact_at (is_of locale) Short (get_member (name_of Short) ds) f.short
  pub long : HoldsAt compact_at (is_of locale) Long (get_member (name_of Long) ds) f.long
  pub ordinals : HoldsAt rules_at (is_of locale) Ordinals (get_member (name_of Ordinals) ds) f.ordinals
  pub whole : members_have_float ds ≡ false

-- one member more, whose value is in front of tokens
abbrev pub AddsMembers : {F : Type 0} → (List ℕ → Members → F → Type 0) → List ℕ → List ℕ → List Token → F → F → List Token → Type 0
AddsMembers holds locale name ts before after rest =
    (d : Data) × IsValue 126 ts d rest × ((ds : Members) → holds locale ds before → holds locale (put name d ds) after)
