use Rattle.std.proofs.Common.{◌≡◌}
use Rattle.icu_decimal_data.specs.Kept.{as_table}
use Rattle.icu_decimal_data.specs.CompactFaults.{has_falling_exponents, falls_after}
use Rattle.icu_decimal_data.proofs.kept.exponents_fall.Given as goal

abbrev pub invariant-loop-value : goal.invariant-loop-value
invariant-loop-value g l = falls_after l.before (as_table l.value-iterator) ≡ has_falling_exponents (as_table l.map.entries)
