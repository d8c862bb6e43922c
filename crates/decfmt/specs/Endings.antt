-- How the program ends where it doesn't do its work.
use Rattle.std.specs.Prelude.{ℕ, List, codes}
use Rattle.decfmt.specs.declared.Failure.{Failure}
use Rattle.decfmt.specs.declared.Failure.TheVariants.{Streams, OutOfMemory, Words, Tables, NoData}
use Rattle.decimal_lines.specs.declared.mode.StartError.{StartError}
use Rattle.decimal_lines.specs.declared.mode.StartError.TheVariants as start

-- its exit status
abbrev pub exit_status_of : Failure → ℕ
exit_status_of Streams = 1
exit_status_of OutOfMemory = 1
exit_status_of Words = 2
exit_status_of Tables = 3
exit_status_of NoData = 4

-- what it writes to standard error, without the line's end
abbrev pub message_of : Failure → List ℕ
message_of Streams = codes "error: input or output failed"
message_of OutOfMemory = codes "error: out of memory"
message_of Words = codes "usage: decfmt TABLES LOCALE NU|- plain|short|long [auto|never|always|min2]"
message_of Tables = codes "error: tables refused"
message_of NoData = codes "error: no data"

-- what ends the program where there is no mode
abbrev pub failure_of : StartError → Failure
failure_of start.Tables = Tables
failure_of start.NoData = NoData
failure_of start.OutOfMemory = OutOfMemory
