-- Whether the bytes of a file are tables, or why not.
use Rattle.std.specs.Prelude.{◌≡◌, ℕ, ◌⊎◌, List, Result, Ok, Err, if◌then◌else◌}
use Rattle.std.specs.Str.{is_utf8}
use Rattle.icu_tables.specs.Tables.{TablesData, tables_of}
use Rattle.icu_table_entries.specs.declared.error.TableError.{TableError}
use Rattle.icu_table_entries.specs.declared.error.TableError.TheVariants.{OutOfMemory}
use Rattle.decimal_lines.specs.declared.table_faults.TablesFault.{TablesFault}
use Rattle.decimal_lines.specs.declared.table_faults.TablesFault.TheVariants.{NotUtf8, Refused}

-- by the tables of a text, or what rejects it
abbrev pub text_judged : Result TablesData TableError → Result (Unit {0}) TablesFault
text_judged (Ok tables) = Ok tt
text_judged (Err error) = Err (Refused error)

-- a file that isn't UTF-8 is rejected, and else its text is judged
unfoldable pub tables_judged : List ℕ → Result (Unit {0}) TablesFault
tables_judged file = if is_utf8 file then text_judged (tables_of file) else Err NotUtf8

-- the fault that is reported; `OutOfMemory` may be reported in any case
abbrev pub IsFault : Result (Unit {0}) TablesFault → TablesFault → Type 0
IsFault judged fault = (fault ≡ Refused OutOfMemory) ⊎ (judged ≡ Err fault)
