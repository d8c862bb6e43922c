-- What all tables of a document are: those of numbers, and those of money, percents and units.
use Rattle.std.specs.Prelude.{ℕ, List, Result, Ok}
use Rattle.serde_json.specs.Data.{Data}
use Rattle.icu_tables.specs.Tables.{TablesData, tables_at, tables_of}
use Rattle.icu_dimension_tables.specs.DimensionTables.{DimensionData, dimension_tables_at, dimension_tables_of}
use Rattle.icu_table_entries.specs.Reading.{◌>>=◌}
use Rattle.icu_table_entries.specs.declared.error.TableError.{TableError}

-- the tables of numbers, and those of money, percents and units
pub record AllData : Type 0 where
  pub numbers : TablesData
  pub dimension : DimensionData

-- both tables of an object, those of numbers first
unfoldable pub all_tables_at : Data → Result AllData TableError
all_tables_at d = do
  numbers ← tables_at d
  dimension ← dimension_tables_at d
  Ok (record { numbers = numbers; dimension = dimension })

-- both tables of a text, each as it is read alone; a fault of the tables of numbers is the first
unfoldable pub all_tables_of : List ℕ → Result AllData TableError
all_tables_of text = do
  numbers ← tables_of text
  dimension ← dimension_tables_of text
  Ok (record { numbers = numbers; dimension = dimension })
