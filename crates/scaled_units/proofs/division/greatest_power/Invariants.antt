use Rattle.std.proofs.Common.{◌≡◌, ◌+◌, ◌-◌, ◌^◌, ◌≤◌, ◌⊎◌}
use Rattle.scaled_units.proofs.division.greatest_power.Given as goal

abbrev pub invariant-loop-power : goal.invariant-loop-power
invariant-loop-power l = record {
  within : l.power ≤ 8;
  unit : l.unit ≡ l.value ^ (l.power + 1);
  reached : (l.power ≡ 0) ⊎ (l.value ^ l.power ≤ l.whole);
}

abbrev pub decreases-loop-power : goal.decreases-loop-power
decreases-loop-power l = 8 - l.power
