-- What a call that judges tables leaves, by its status.
use Rattle.std.specs.Prelude.{◌≡◌, ℕ, ◌⊎◌, List, Ok, Err}
use Rattle.decimal_lines.specs.SingleText.{HoldsIfRoom}
use Rattle.decimal_lines.specs.TableFaults.{tables_judged}
use Rattle.decimal_lines.specs.declared.table_faults.TablesFault.{TablesFault}
use Rattle.talmuiga_c.specs.Endings.{IsUntouched, done, out_of_memory, tables_refused}

-- the tables are rejected, and an output holds a text of n bytes at its front if it fits; which text it is isn't said here
pub record IsFaultReported (tables old new : List ℕ) (n : ℕ) : Type 0 where
  pub fault : TablesFault
  pub text : List ℕ
  pub judged : tables_judged tables ≡ Err fault
  pub holds : HoldsIfRoom old new text n

-- tables are accepted or rejected, and only of an error something is written; out of memory may come in place of both
pub record IsJudged (tables old new : List ℕ) (n status : ℕ) : Type 0 where
  pub accepted : status ≡ done → tables_judged tables ≡ Ok tt
  pub refused : status ≡ tables_refused → IsFaultReported tables old new n
  pub untold : ¬ (status ≡ tables_refused) → IsUntouched old new n
  pub known : (status ≡ done) ⊎ ((status ≡ out_of_memory) ⊎ (status ≡ tables_refused))
