-- All tables of a text, by its value.
use Rattle.std.proofs.Common.{◌≡◌, ℕ, List, Result, Ok, Err, refl}
use Rattle.serde_json.specs.Data.{Data}
use Rattle.icu_table_entries.specs.Reading.{◌>>=◌, Fails, value_of}
use Rattle.icu_table_entries.specs.declared.error.TableError.{TableError}
use Rattle.icu_table_entries.proofs.Lists.{failed}
use Rattle.icu_tables.specs.Tables.{tables_at}
use Rattle.icu_tables.proofs.Values.{tables_by_value}
use Rattle.icu_dimension_tables.specs.AllTables.{all_tables_at, all_tables_of}
use Rattle.icu_dimension_tables.specs.DimensionTables.{dimension_tables_at, dimension_tables_of}

-- both readings begin with the same value
both_at : (v : Result Data TableError)
    → ((v >>= tables_at) >>= λ n. (v >>= dimension_tables_at) >>= λ m. Ok (record { numbers = n; dimension = m })) ≡ (v >>= all_tables_at)
unfolding all_tables_at
both_at (Ok d) = refl
both_at (Err e) = refl

-- all tables of a text are those of its value
pub all_by_value : (text : List ℕ) → all_tables_of text ≡ (value_of text >>= all_tables_at)
unfolding all_tables_of dimension_tables_of
all_by_value text =
    let numbers = tables_by_value text in
    rw numbers (both_at (value_of text))

-- where the value is rejected, the tables are
pub value_refused : (e : TableError) (text : List ℕ) → Fails e (value_of text) → Fails e (all_tables_of text)
value_refused e text h = rw (all_by_value text) (failed e (value_of text) all_tables_at h)
