-- What two writers hold after a run: that of the output, and that of the notes; and what is reported.
use Rattle.std.specs.Prelude.{◌≡◌, ℕ, Bool, false, ◌||◌, max, List, [], Option, Some}
use Rattle.std.specs.Io.KnownBytes.{Appends}
use Rattle.decimal_lines.specs.Written.{AppendsBeginning}
use Rattle.locnum_lines.specs.Gathered.{GatheredData}
use Rattle.locnum_lines.specs.Ran.{Ran, first_of}

-- whether a text was rejected, whether the run stopped, the greatest number of fields that a record behind the header had, and
-- the first written number that holds the delimiter, or nothing
pub record ReportData : Type 0 where
  pub is_refused : Bool
  pub is_stopped : Bool
  pub most_fields : ℕ
  pub holding : List ℕ

-- all of what was run was written and reported, and is reported; unless the run stopped, nothing is left to read
pub record Ends (ran : Ran) (writer writer' notes notes' : Option (List ℕ)) (report : ReportData) (left : Option (List ℕ)) : Type 0 where
  pub written : Appends writer writer' ran.output
  pub reported : Appends notes notes' ran.notes
  pub is_refused : report.is_refused ≡ ran.is_refused
  pub is_stopped : report.is_stopped ≡ ran.is_stopped
  pub most_fields : report.most_fields ≡ ran.most_fields
  pub holding : report.holding ≡ ran.holding
  pub all_read : ran.is_stopped ≡ false → left ≡ Some []

-- a beginning of what is to be written was, and a beginning of what is to be reported
pub record Begins (ran : Ran) (writer writer' notes notes' : Option (List ℕ)) : Type 0 where
  pub written : AppendsBeginning writer writer' ran.output
  pub reported : AppendsBeginning notes notes' ran.notes

-- the last lines of a run were written and reported, behind a part that was run before
pub record Finishes (ran : Ran) (before : GatheredData) (writer writer' notes notes' : Option (List ℕ)) (report : ReportData) : Type 0 where
  pub written : Appends writer writer' ran.output
  pub reported : Appends notes notes' ran.notes
  pub is_refused : report.is_refused ≡ (before.is_refused || ran.is_refused)
  pub is_stopped : report.is_stopped ≡ ran.is_stopped
  pub most_fields : report.most_fields ≡ max before.most_fields ran.most_fields
  pub holding : report.holding ≡ first_of before.holding ran.holding
