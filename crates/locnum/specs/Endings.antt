-- The status of the program after a run.
use Rattle.std.specs.Prelude.{ℕ, Bool, true, false, ◌&&◌, Result, Ok, Err, if◌then◌else◌}
use Rattle.locnum_lines.specs.Reported.{ReportData}
use Rattle.locnum_lines.specs.declared.running.RunError.{RunError}
use Rattle.locnum_lines.specs.declared.running.RunError.TheVariants.{Read, Write, OutOfMemory}
use Rattle.locnum_lines.specs.declared.settings.Refusals.{Refusals}
use Rattle.locnum_lines.specs.declared.settings.Refusals.TheVariants.{Abort, Fail, Warn, Ignore}

-- whether a text that is rejected makes the program fail, and doesn't only warn or is ignored
abbrev pub is_failure : Refusals → Bool
is_failure Abort = true
is_failure Fail = true
is_failure Warn = false
is_failure Ignore = false

-- 2 where a text was rejected that makes the program fail, else 1 where the run stopped: at quotes that don't end, or at a
-- name that the header lacks
abbrev pub status_of : Refusals → ReportData → ℕ
status_of refusals report = if is_failure refusals && report.is_refused then 2 else if report.is_stopped then 1 else 0

-- 1 where the run failed, but 141 where nobody reads the output any more, as of a program that the signal for that ends
abbrev pub status_of_run : Refusals → Bool → Result ReportData RunError → ℕ
status_of_run refusals is_reader_gone (Ok report) = status_of refusals report
status_of_run refusals is_reader_gone (Err Read) = 1
status_of_run refusals is_reader_gone (Err Write) = if is_reader_gone then 141 else 1
status_of_run refusals is_reader_gone (Err OutOfMemory) = 1
