use Rattle.std.proofs.Common.{◌≡◌, ◌+◌, ◌-◌, ◌≤◌, length, drop}
use Rattle.std.specs.List.{prefix_len}
use Rattle.std.specs.Char.{is_ascii_digit}
use Rattle.fixed_decimal.proofs.reading.leading_digits.Given as goal

abbrev pub invariant-steps : goal.invariant-steps
invariant-steps l = record {
  within : l.count ≤ length l.text;
  so_far : prefix_len is_ascii_digit l.text ≡ l.count + prefix_len is_ascii_digit (drop l.count l.text);
}

abbrev pub decreases-steps : goal.decreases-steps
decreases-steps l = length l.text - l.count
