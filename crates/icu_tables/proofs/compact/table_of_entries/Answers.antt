use Rattle.std.proofs.Common.{◌≡◌, ◌∙◌, ap, List}
use Rattle.icu_decimal_data.specs.CompactTable.{TableEntry}
use Rattle.icu_decimal_data.specs.Kept.{as_table}
use Rattle.icu_decimal_data.specs.declared.error.CompactError.TheVariants.{ExponentsFall, ExponentAboveType, TooManyZeros, TooLarge, OutOfMemory}
use Rattle.icu_tables.specs.Compact.{compact_refusal}
use Rattle.icu_tables.proofs.Refusals.{table_made, table_refused}
use Rattle.icu_tables.proofs.compact.table_of_entries.Goals as goal

pub returns-in-Ok : goal.returns-in-Ok
returns-in-Ok c = table_made c.args.position c.args.zero.now (as_table c.args.entries.entries) c.in-Ok.table
    (rw c.as_ref.ensures.value at c.in-Ok.ensures.refused)
    (rw c.as_ref.ensures.value at c.in-Ok.ensures.kept)

pub returns-in-Err-ExponentsFall : goal.returns-in-Err-ExponentsFall
returns-in-Err-ExponentsFall c =
    let e = c.in-Err-ExponentsFall in
    let is : e.field-0 ≡ ExponentsFall = e.field-0-is in
    let other : e.field-0 ≡ OutOfMemory → ⊥ = λ h. absurd cc in
    rw c.refusal.ensures (table_refused c.args.position c.args.zero.now (as_table c.args.entries.entries) e.field-0
    (rw c.as_ref.ensures.value at e.ensures.refused)
    other ∙ ap (compact_refusal {A = List TableEntry} c.args.position) is)

pub returns-in-Err-ExponentAboveType : goal.returns-in-Err-ExponentAboveType
returns-in-Err-ExponentAboveType c =
    let e = c.in-Err-ExponentAboveType in
    let is : e.field-0 ≡ ExponentAboveType = e.field-0-is in
    let other : e.field-0 ≡ OutOfMemory → ⊥ = λ h. absurd cc in
    rw c.refusal-in-Err-ExponentAboveType.ensures (table_refused c.args.position c.args.zero.now (as_table c.args.entries.entries) e.field-0
    (rw c.as_ref.ensures.value at e.ensures.refused) other ∙ ap (compact_refusal {A = List TableEntry} c.args.position) is)

pub returns-in-Err-TooManyZeros : goal.returns-in-Err-TooManyZeros
returns-in-Err-TooManyZeros c =
    let e = c.in-Err-TooManyZeros in
    let is : e.field-0 ≡ TooManyZeros = e.field-0-is in
    let other : e.field-0 ≡ OutOfMemory → ⊥ = λ h. absurd cc in
    rw c.refusal-in-Err-TooManyZeros.ensures (table_refused c.args.position c.args.zero.now (as_table c.args.entries.entries) e.field-0
    (rw c.as_ref.ensures.value at e.ensures.refused) other ∙ ap (compact_refusal {A = List TableEntry} c.args.position) is)

pub returns-in-Err-TooLarge : goal.returns-in-Err-TooLarge
returns-in-Err-TooLarge c =
    let e = c.in-Err-TooLarge in
    let is : e.field-0 ≡ TooLarge = e.field-0-is in
    let other : e.field-0 ≡ OutOfMemory → ⊥ = λ h. absurd cc in
    rw c.refusal-in-Err-TooLarge.ensures (table_refused c.args.position c.args.zero.now (as_table c.args.entries.entries) e.field-0
    (rw c.as_ref.ensures.value at e.ensures.refused) other ∙ ap (compact_refusal {A = List TableEntry} c.args.position) is)
