use Rattle.std.proofs.Common.{◌≡◌, ◌-◌}
use Rattle.icu_decimal_data.specs.TableReading.{same_from}
use Rattle.icu_decimal_data.proofs.table_damage.are_later_same.Given as goal

abbrev pub invariant-loop-j : goal.invariant-loop-j
invariant-loop-j l = same_from l.pool l.before l.bytes l.j (8 - l.j) ≡ same_from l.pool l.before l.bytes 2 6
