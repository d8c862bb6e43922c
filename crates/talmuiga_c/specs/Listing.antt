-- What a call that lists what tables hold leaves, by its status: the names of locales, numbering systems, currencies or units.
use Rattle.std.specs.Prelude.{◌≡◌, ℕ, ◌⊎◌, List, [], ◌∷◌, ◌++◌, nat_eq, Bool, false, ◌||◌, codes, if◌then◌else◌}
use Rattle.std.specs.Prelude.{Option, Some, None, option_map, option_and_then, Result, Ok, Err}
use Rattle.std.specs.Cmp.Lexicographic.{pointwise}
use Rattle.serde_json.specs.Data.{Data}
use Rattle.serde_json.specs.Find.{get, at, as_str, as_array}
use Rattle.icu_table_entries.specs.Reading.{list_of, value_of}
use Rattle.icu_table_entries.specs.declared.error.TableError.{TableError}
use Rattle.talmuiga_c.specs.Asked.{text_in}
use Rattle.talmuiga_c.specs.Endings.{IsUntouched, out_of_memory, tables_refused, words_refused}
use Rattle.talmuiga_c.specs.Skeletons.{IsPut}
use Rattle.talmuiga_c.specs.declared.listing.Listed.{Listed}
use Rattle.talmuiga_c.specs.declared.listing.Listed.TheVariants.{Locales, Systems, Currencies, Units}
use Rattle.talmuiga_c.specs.declared.listing.Member.{Member}
use Rattle.talmuiga_c.specs.declared.listing.Member.TheVariants.{Locale, Unit, Code}

-- the items, if there are any
abbrev pub items_or_none : Option (List Data) → List Data
items_or_none None = []
items_or_none (Some ds) = ds

-- the list under a key of an object, and none where there is no list
unfoldable pub list_under : List ℕ → Data → List Data
list_under key d = items_or_none (option_map list_of (option_and_then as_array (get key d)))

-- the text under a key
unfoldable pub text_under : List ℕ → Data → Option (List ℕ)
text_under key d = option_and_then as_str (get key d)

-- the name that a value has: under a key, or at the front of a list
unfoldable pub name_of : Member → Data → Option (List ℕ)
name_of Locale d = text_under (codes "locale") d
name_of Unit d = text_under (codes "unit") d
name_of Code d = option_and_then as_str (at 0 d)

-- whether a name is among others
abbrev pub is_among : List ℕ → List (List ℕ) → Bool
is_among name [] = false
is_among name (n ∷ ns) = pointwise nat_eq n name || is_among name ns

-- a name behind others, unless it is among them
abbrev pub with_name : List (List ℕ) → Option (List ℕ) → List (List ℕ)
with_name names None = names
with_name names (Some name) = if is_among name names then names else names ++ name ∷ []

-- the names of values behind others, each once
abbrev pub with_names : Member → List (List ℕ) → List Data → List (List ℕ)
with_names member names [] = names
with_names member names (d ∷ ds) = with_names member (with_name names (name_of member d)) ds

-- the codes of the rows of entries behind other names, each once
abbrev pub with_codes : List (List ℕ) → List Data → List (List ℕ)
with_codes names [] = names
with_codes names (d ∷ ds) = with_codes (with_names Code names (list_under (codes "symbols") d)) ds

-- the names of a kind that tables have, in the order in which they stand first
unfoldable pub names_listed : Listed → Data → List (List ℕ)
names_listed Locales d = with_names Locale [] (list_under (codes "symbols") d)
names_listed Systems d = with_names Code [] (list_under (codes "digits") d)
names_listed Currencies d = with_codes [] (list_under (codes "currency_symbols") d)
names_listed Units d = with_names Unit [] (list_under (codes "units") d)

-- a name in each line
abbrev pub lines_of : List (List ℕ) → List ℕ
lines_of [] = []
lines_of (name ∷ names) = name ++ 10 ∷ lines_of names

-- what is listed, by its number
abbrev pub listed_kind : ℕ → Option Listed
listed_kind kind = if nat_eq kind 1 then Some Locales else if nat_eq kind 2 then Some Systems else if nat_eq kind 3 then Some Currencies
    else if nat_eq kind 4 then Some Units else None

-- the value of a text, if it has one
abbrev pub value_or_none : Result Data TableError → Option Data
value_or_none (Ok d) = Some d
value_or_none (Err e) = None

-- the value of tables that are JSON in UTF-8
abbrev pub tables_value : List ℕ → Option Data
tables_value tables = option_and_then (λ text. value_or_none (value_of text)) (text_in tables)

-- the lines of what is asked for, or why there are none; out of memory may come in place of both
abbrev pub ListsIn : Option Data → Listed → List ℕ → List ℕ → ℕ → ℕ → Type 0
ListsIn None listed old new n status = IsUntouched old new n × ((status ≡ tables_refused) ⊎ (status ≡ out_of_memory))
ListsIn (Some d) listed old new n status =
    IsPut (lines_of (names_listed listed d)) old new n status ⊎ (IsUntouched old new n × (status ≡ out_of_memory))

-- what is asked for is judged first, and nothing else comes in place of its status
abbrev pub IsListed : Option Listed → List ℕ → List ℕ → List ℕ → ℕ → ℕ → Type 0
IsListed None tables old new n status = IsUntouched old new n × (status ≡ words_refused)
IsListed (Some listed) tables old new n status = ListsIn (tables_value tables) listed old new n status
