-- A file of tables is judged by its text, if it has one.
use Rattle.std.proofs.Common.{◌≡◌, ℕ, Bool, true, false, List, refl, ap, inl, inr}
use Rattle.std.specs.Prelude.{Result, Err, if◌then◌else◌}
use Rattle.std.specs.Str.{IsUtf8, is_utf8}
use Rattle.std.proofs.lemmas.Str.{IsUtf8-from_is_utf8, is_utf8-from_IsUtf8}
use Rattle.icu_table_entries.specs.Reading.{Fails}
use Rattle.icu_tables.specs.Tables.{TablesData, tables_of}
use Rattle.icu_table_entries.specs.declared.error.TableError.{TableError}
use Rattle.icu_table_entries.specs.declared.error.TableError.TheVariants as table
use Rattle.decimal_lines.specs.TableFaults.{IsFault, tables_judged, text_judged}
use Rattle.decimal_lines.specs.declared.table_faults.TablesFault.TheVariants.{NotUtf8, Refused}

-- a file that is a text
pub tables_judged-text : (file : List ℕ) → IsUtf8 file → tables_judged file ≡ text_judged (tables_of file)
unfolding tables_judged
tables_judged-text file text = rw (is_utf8-from_IsUtf8 file text) refl

-- and one that isn't
pub tables_judged-nothing : (file : List ℕ) → ¬ (IsUtf8 file) → tables_judged file ≡ Err NotUtf8
unfolding tables_judged
tables_judged-nothing file no_text = go (is_utf8 file) refl
  where
    go : (b : Bool) → is_utf8 file ≡ b → (if b then text_judged (tables_of file) else Err NotUtf8) ≡ Err NotUtf8
    go true e = absurd (no_text (IsUtf8-from_is_utf8 file e))
    go false e = refl

-- what rejects a text
pub text_judged-refused : (error : TableError) (read : Result TablesData TableError) → Fails error read → IsFault (text_judged read) (Refused error)
text_judged-refused table.NotJson read is = inr (ap text_judged is)
text_judged-refused table.Float read is = inr (ap text_judged is)
text_judged-refused (table.Missing key) read is = inr (ap text_judged is)
text_judged-refused (table.WrongKind key) read is = inr (ap text_judged is)
text_judged-refused (table.Entry key index fault) read is = inr (ap text_judged is)
text_judged-refused table.OutOfMemory read is = inl refl

-- what the proofs of `judge_text` and `judge_tables` cite
pub ruleset judged = (tables_judged-text, tables_judged-nothing, text_judged-refused)
