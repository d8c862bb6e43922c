use Rattle.std.proofs.Common.{◌-◌, length}
use Rattle.number_skeleton.specs.Data.{draft_data}
use Rattle.number_skeleton.proofs.Steps.{Reads}
use Rattle.number_skeleton.proofs.reader.read_skeleton.Given as goal

-- the rest is read as the whole text is
abbrev pub invariant-loop-bytes : goal.invariant-loop-bytes
invariant-loop-bytes l = Reads l.bytes l.at (record { draft = draft_data l.draft; precision_at = l.precision_at })

abbrev pub decreases-loop-bytes : goal.decreases-loop-bytes
decreases-loop-bytes l = length l.bytes - l.at
