use Rattle.std.proofs.Common.{rules, arith, ◌≡◌, ◌∙◌, sym, true, false}
use Rattle.icu_decimal_data.proofs.RecordRepeats.{same_at_is, same_ends, same_goes_on}
use Rattle.icu_decimal_data.proofs.table_damage.are_later_same.Goals as goal

pub returns-then-not-is_same_slot : goal.returns-then-not-is_same_slot
returns-then-not-is_same_slot c =
    let f : c.is_same_slot.result ≡ false = search rules in
    let at = same_at_is c.args.pool.now c.args.before.now c.args.bytes.now c.loop-j.j _ _ _ c.slot.ensures.slot c.slot-in-loop-j.ensures.slot
    c.is_same_slot.ensures in
    same_ends c.args.pool.now c.args.before.now c.args.bytes.now c.loop-j.j _ c.loop-j.invariant (omega arith) (sym at ∙ f)

pub loop-j-preserved : goal.loop-j-preserved
loop-j-preserved c =
    let f : c.is_same_slot.result ≡ true = search rules in
    let at = same_at_is c.args.pool.now c.args.before.now c.args.bytes.now c.loop-j.j _ _ _ c.slot.ensures.slot c.slot-in-loop-j.ensures.slot
    c.is_same_slot.ensures in
    same_goes_on c.args.pool.now c.args.before.now c.args.bytes.now c.loop-j.j _ c.loop-j.invariant (omega arith) (sym at ∙ f)
