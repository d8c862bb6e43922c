use Rattle.std.proofs.Common.{◌≡◌, drop}
use Rattle.locnum_lines.specs.Csv.{wants_quotes}
use Rattle.locnum_ranges.proofs.csv.wants_quotes.Given as goal

abbrev pub invariant-loop-byte : goal.invariant-loop-byte
invariant-loop-byte l = wants_quotes l.delimiter l.end l.text ≡ wants_quotes l.delimiter l.end (drop l.byte-index l.text)
