use Rattle.std.proofs.Common.{◌≡◌, ◌-◌, ◌≤◌, length, drop, ◌+◌}
use Rattle.std.specs.List.{prefix_len}
use Rattle.scaled_units.specs.Suffixes.{is_of_number}
use Rattle.scaled_units.proofs.suffix.number_length.Given as goal

abbrev pub invariant-loop-count : goal.invariant-loop-count
invariant-loop-count l = (l.count ≤ length l.text) × (prefix_len is_of_number l.text ≡ l.count + prefix_len is_of_number (drop l.count l.text))

abbrev pub decreases-loop-count : goal.decreases-loop-count
decreases-loop-count l = length l.initial.text - l.count
