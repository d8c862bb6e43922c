use Rattle.std.proofs.Common.{◌≡◌, ◌+◌, ◌-◌, ◌*◌, ◌≤◌, drop, length}
use Rattle.icu_decimal_data.specs.TableReading.{slots_step}
use Rattle.icu_decimal_data.proofs.table_damage.check_slots.Given as goal

abbrev pub invariant-loop-j : goal.invariant-loop-j
invariant-loop-j g l =
    (l.total ≤ length l.pool)
    × (slots_step g.P.PatternBackend.accepted l.pool l.pool_start (8 - l.j) (l.at + 7 * l.j) l.total (drop (7 * l.j) l.bytes)
    ≡ slots_step g.P.PatternBackend.accepted l.pool l.pool_start 8 l.at l.sum l.bytes)
