-- What a compact table is read as, by the clauses of the call that makes it.
use Rattle.std.proofs.Common.{◌≡◌, List, Option, Some, None, Ok, Err, sym, ap}
use Rattle.std.specs.Option.{MatchOption}
use Rattle.std.specs.Result.{IsErrOf, IsOkUnless}
use Rattle.icu_decimal_data.specs.CompactFaults.{fault_of}
use Rattle.icu_decimal_data.specs.CompactTable.{PatternElements, TableEntry}
use Rattle.icu_decimal_data.specs.Kept.{kept}
use Rattle.icu_decimal_data.specs.declared.error.CompactError.{CompactError}
use Rattle.icu_decimal_data.specs.declared.error.CompactError.TheVariants.{OutOfMemory}
use Rattle.icu_tables.specs.Compact.{compact_refusal, kept_or_refused, table_of_entries}
use Rattle.icu_table_entries.specs.declared.error.Position.{Position}

module _ (position : Position) (zero : Option PatternElements) (entries : List TableEntry) where
  kept_by : (table : List TableEntry) (f : Option CompactError)
      → MatchOption f (IsOkUnless {T = List TableEntry} (Ok table) OutOfMemory) (λ fault. IsErrOf {T = List TableEntry} (Ok table) fault)
      → table ≡ kept zero entries → kept_or_refused position zero entries f ≡ Ok table
  kept_by table None refused is = ap Ok (sym is)
  kept_by table (Some f) refused is = absurd cc

  -- a table that is made is what the object says
  pub table_made : (table : List TableEntry)
      → MatchOption (fault_of zero entries) (IsOkUnless {T = List TableEntry} (Ok table) OutOfMemory)
      (λ fault. IsErrOf {T = List TableEntry} (Ok table) fault)
      → table ≡ kept zero entries → table_of_entries position zero entries ≡ Ok table
  unfolding table_of_entries
  table_made table refused is = kept_by table (fault_of zero entries) refused is

  refused_by : (fault : CompactError) (f : Option CompactError)
      → MatchOption f (IsOkUnless {T = List TableEntry} (Err fault) OutOfMemory) (λ f. IsErrOf {T = List TableEntry} (Err fault) f)
      → (fault ≡ OutOfMemory → ⊥) → kept_or_refused position zero entries f ≡ compact_refusal position fault
  refused_by fault None refused other = let same : fault ≡ OutOfMemory = cc in absurd (other same)
  refused_by fault (Some f) refused other = let same : f ≡ fault = cc in ap (compact_refusal position) same

  -- a table is rejected as the object says, but because memory ran out
  pub table_refused : (fault : CompactError)
      → MatchOption (fault_of zero entries) (IsOkUnless {T = List TableEntry} (Err fault) OutOfMemory) (λ f. IsErrOf {T = List TableEntry} (Err fault) f)
      → (fault ≡ OutOfMemory → ⊥) → table_of_entries position zero entries ≡ compact_refusal position fault
  unfolding table_of_entries
  table_refused fault refused other = refused_by fault (fault_of zero entries) refused other
