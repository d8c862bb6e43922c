use Rattle.std.proofs.Common.{◌≡◌, ◌+◌, ◌-◌, ◌*◌, ◌≤◌, drop, length, None}
use Rattle.std.specs.Prelude.{IfSome}
use Rattle.std.specs.Option.{option_map}
use Rattle.icu_decimal_data.specs.TableReading.{records_step}
use Rattle.icu_decimal_data.proofs.table_damage.check_records.Given as goal

abbrev pub invariant-loop-i : goal.invariant-loop-i
invariant-loop-i g l =
    (l.total ≤ length l.pool)
    × (IfSome l.before (λ b. length b.now ≡ 58))
    × (records_step g.P.PatternBackend.accepted l.pool l.pool_start (l.count - l.i) (option_map (λ b. b.now) l.before) (4 + 58 * l.i) l.total
    (drop (58 * l.i) l.records) ≡ records_step g.P.PatternBackend.accepted l.pool l.pool_start l.count None 4 0 l.records)
