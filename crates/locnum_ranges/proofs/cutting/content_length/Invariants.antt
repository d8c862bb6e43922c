use Rattle.std.proofs.Common.{◌≡◌, ◌≤◌, length, take}
use Rattle.locnum_lines.specs.Fields.{content_length}
use Rattle.locnum_ranges.proofs.cutting.content_length.Given as goal

abbrev pub invariant-loop-length : goal.invariant-loop-length
invariant-loop-length l = (l.length ≤ length l.text) × (content_length l.text ≡ content_length (take l.length l.text))

abbrev pub decreases-loop-length : goal.decreases-loop-length
decreases-loop-length l = l.length
