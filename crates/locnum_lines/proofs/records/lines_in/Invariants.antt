use Rattle.std.proofs.Common.{◌≡◌, ◌+◌, ◌≤◌, suc, take}
use Rattle.locnum_lines.specs.Records.{ends_in}
use Rattle.locnum_lines.proofs.records.lines_in.Given as goal

abbrev pub invariant-loop-byte : goal.invariant-loop-byte
invariant-loop-byte l = (l.lines ≡ suc (ends_in l.end (take l.byte-index l.bytes))) × (l.lines ≤ l.byte-index + 1)
