-- The tables of a text, by its value.
use Rattle.std.proofs.Common.{◌≡◌, ℕ, Bool, true, false, List, Option, Some, None, Ok, Err, refl, cond}
use Rattle.serde_json.specs.Data.{Data}
use Rattle.serde_json.specs.Read.{read}
use Rattle.serde_json.specs.Written.{has_float}
use Rattle.icu_table_entries.specs.Reading.{◌>>=◌, Fails, ok_or, value_of}
use Rattle.icu_table_entries.specs.declared.error.TableError.{TableError}
use Rattle.icu_table_entries.specs.declared.error.TableError.TheVariants.{NotJson, Float}
use Rattle.icu_table_entries.proofs.Lists.{failed}
use Rattle.icu_tables.specs.Tables.{tables_at, tables_in, tables_of}

-- a value is searched for numbers that aren't whole, or not
searched : (b : Bool) (d : Data) → cond b (Err Float) (tables_at d) ≡ (cond b (Err Float) (Ok d) >>= tables_at)
searched true d = refl
searched false d = refl

of_value : (o : Option Data)
    → (ok_or o NotJson >>= tables_in) ≡ ((ok_or o NotJson >>= λ d. cond (has_float d) (Err Float) (Ok d)) >>= tables_at)
unfolding tables_in
of_value None = refl
of_value (Some d) = searched (has_float d) d

-- the tables of a text are those of its value
pub tables_by_value : (text : List ℕ) → tables_of text ≡ (value_of text >>= tables_at)
unfolding tables_of value_of
tables_by_value text = of_value (read text)

-- where the value is rejected, the tables are
pub value_refused : (e : TableError) (text : List ℕ) → Fails e (value_of text) → Fails e (tables_of text)
value_refused e text h = rw (tables_by_value text) (failed e (value_of text) tables_at h)
