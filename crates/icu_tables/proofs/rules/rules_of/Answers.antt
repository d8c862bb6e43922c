use Rattle.std.proofs.Common.{refl}
use Rattle.icu_plurals.specs.Rules.{spelled_rules}
use Rattle.icu_tables.proofs.SpelledRules.{all_read, first_bad}
use Rattle.icu_tables.proofs.rules.rules_of.Goals as goal

pub returns-in-Ok : goal.returns-in-Ok
returns-in-Ok c = all_read c.args.position 0 (spelled_rules c.args.spelled.now) c.in-Ok.rules c.in-Ok.ensures.read

pub returns-in-Err-BadRule : goal.returns-in-Err-BadRule
returns-in-Err-BadRule c =
    let b = c.in-Err-BadRule in
    let found = (c.from_rules.ensures.refused b.rule b.byte).0 (rw (b.is, b.field-0-is) refl) in
    rw c.refusal.ensures (first_bad c.args.position (spelled_rules c.args.spelled.now) b.rule b.byte found)
