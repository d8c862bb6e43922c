use Rattle.std.proofs.Common.{◌≡◌, ◌≤◌, ◌+◌, min, ◌^◌, ◌-◌, drop, sum_by}
use Rattle.icu_plurals.specs.Elements.{slots}
use Rattle.icu_decimal_data.specs.CompactFaults.{slot_size, elements_size}
use Rattle.icu_decimal_data.proofs.kept.with_literals.Given as goal

abbrev pub invariant-loop-slot : goal.invariant-loop-slot
invariant-loop-slot g l = (l.size ≤ 2 ^ 64 - 1) × (min (l.size + sum_by slot_size (drop l.slot (slots l.elements))) (2 ^ 64 - 1)
    ≡ min (l.fn.size + elements_size l.elements) (2 ^ 64 - 1))
