use Rattle.std.proofs.Common.{◌++◌, ◌≡◌, arith, sym, ◌∙◌, append-nil, length-append, option_map}
use Rattle.icu_plurals.specs.Elements.{slots}
use Rattle.icu_decimal_data.specs.PackedTable.{slot_literals}
use Rattle.icu_decimal_data.proofs.TableWriting.{room_for, pool_more, records_more, patterns_back}
use Rattle.icu_decimal_data.proofs.table_writing.push_slots.Goals as goal

pub push_slot-requires : goal.push_slot-requires
push_slot-requires g c =
    let ss = slots c.args.elements.now in
    room_for ss c.loop-slot.slot (option_map (λ p. p.now) c.slot.result) c.loop-slot-test.true c.slot.ensures c.loop-slot.pool.items
    (c.args.pool.now.items ++ slot_literals ss) c.loop-slot.invariant.1 (rw (length-append c.args.pool.now.items (slot_literals ss)) c.requires)

pub loop-slot-preserved : goal.loop-slot-preserved
loop-slot-preserved g c =
    let ss = slots c.args.elements.now in
    let s = option_map (λ p. p.now) c.slot.result in
    let done = c.in_ok-push_slot.ensures in (
      records_more ss c.loop-slot.slot s c.loop-slot-test.true c.slot.ensures c.loop-slot.records.items c.push_slot.new.records.items c.loop-slot.pool.items
          c.push_slot.new.pool.items _ done.records done.pool c.loop-slot.invariant.0,
      pool_more ss c.loop-slot.slot s c.loop-slot-test.true c.slot.ensures c.loop-slot.pool.items c.push_slot.new.pool.items _ done.pool
          c.loop-slot.invariant.1,
      λ h. c.loop-slot.invariant.2 (patterns_back ss c.loop-slot.slot s c.loop-slot-test.true c.slot.ensures g.P.PatternBackend.accepted done.pattern h),
    )

pub returns-clause-records : goal.returns-clause-records
returns-clause-records g c =
    let end : c.loop-slot.slot ≡ 8 = omega arith in
    let all = rw end at c.loop-slot.invariant.0 in
    sym (append-nil c.loop-slot.records.items) ∙ all

pub returns-clause-pool : goal.returns-clause-pool
returns-clause-pool g c =
    let end : c.loop-slot.slot ≡ 8 = omega arith in
    let all = rw end at c.loop-slot.invariant.1 in
    sym (append-nil c.loop-slot.pool.items) ∙ all

pub returns-clause-patterns : goal.returns-clause-patterns
returns-clause-patterns g c =
    let end : c.loop-slot.slot ≡ 8 = omega arith in
    let all = rw end at c.loop-slot.invariant.2 in
    all tt
