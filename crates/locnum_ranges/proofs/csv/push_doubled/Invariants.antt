use Rattle.std.proofs.Common.{◌≡◌, ◌++◌, drop}
use Rattle.locnum_lines.specs.Csv.{doubled}
use Rattle.locnum_ranges.proofs.csv.push_doubled.Given as goal

abbrev pub invariant-loop-byte : goal.invariant-loop-byte
invariant-loop-byte l = l.fn.out.items ++ doubled l.text ≡ l.out.items ++ doubled (drop l.byte-index l.text)
