use Rattle.std.proofs.Common.{rules, ◌≡◌, ◌∙◌, true, sym, ◌∷◌, arith}
use Rattle.icu_decimal_data.specs.CompactTable.{TableEntry}
use Rattle.icu_decimal_data.specs.Kept.{as_table, kept, at}
use Rattle.icu_decimal_data.specs.KeptSince.{kept_since, stays}
use Rattle.icu_decimal_data.proofs.KeptSteps.{kept_since_start}
use Rattle.icu_decimal_data.proofs.TableWriting.{IsWritten, none_written, kept_room, kept_written}
use Rattle.icu_decimal_data.proofs.table_writing.records_and_pool.Goals as goal

pub loop-log10_type-init : goal.loop-log10_type-init
loop-log10_type-init g c =
    rw (
      c.new-records.ensures.items,
      c.new-pool.ensures.items,
      c.into_iter-log10_type-iterator.ensures.into_iter_gives.0,
      kept_since_start (at c.args.zero_magnitude) (as_table c.args.map.now.entries),
    )
    (none_written g.P.PatternBackend.accepted (kept (at c.args.zero_magnitude) (as_table c.args.map.now.entries)))

pub push_slots-requires : goal.push_slots-requires
push_slots-requires g c =
    let e : TableEntry = record { log10_type = c.in-Some.log10_type.now; exponent = c.in-Some.value.now.0; elements = c.in-Some.value.now.1 } in
    let zero_magnitude = at c.args.zero_magnitude in
    let last = at c.loop-log10_type.last in
    let es = as_table c.next.new.self in
    let whole = kept zero_magnitude (as_table c.args.map.now.entries) in
    let left : IsWritten g.P.PatternBackend.accepted
    (kept_since zero_magnitude last (e ∷ es)) whole c.loop-log10_type.records.items c.loop-log10_type.pool.items =
    rw c.in-Some.ensures.steps at c.loop-log10_type.invariant in
    let here : stays zero_magnitude last e.elements ≡ true = sym c.stays.ensures ∙ c.if-stays.true in
    kept_room g.P.PatternBackend.accepted zero_magnitude last e es whole c.loop-log10_type.records.items c.loop-log10_type.pool.items here left c.requires

pub loop-log10_type-preserved-then-stays : goal.loop-log10_type-preserved-then-stays
loop-log10_type-preserved-then-stays g c =
    let e : TableEntry = record { log10_type = c.in-Some.log10_type.now; exponent = c.in-Some.value.now.0; elements = c.in-Some.value.now.1 } in
    let zero_magnitude = at c.args.zero_magnitude in
    let last = at c.loop-log10_type.last in
    let es = as_table c.next.new.self in
    let whole = kept zero_magnitude (as_table c.args.map.now.entries) in
    let left : IsWritten g.P.PatternBackend.accepted
    (kept_since zero_magnitude last (e ∷ es)) whole c.loop-log10_type.records.items c.loop-log10_type.pool.items =
    rw c.in-Some.ensures.steps at c.loop-log10_type.invariant in
    let here : stays zero_magnitude last e.elements ≡ true = sym c.stays.ensures ∙ c.if-stays.true in
    let done = c.in_ok-push_slots.ensures in
    let two = rw c.in_ok-push.ensures.items at c.in_ok-push-2.ensures.items in
    kept_written g.P.PatternBackend.accepted zero_magnitude last e es whole c.loop-log10_type.records.items c.loop-log10_type.pool.items here left
    c.push_slots.new.records.items c.push_slots.new.pool.items (rw two at done.records) done.pool (omega arith) done.patterns

-- Goals that a search finds; it is not tried longer where one is false.
pub returns-in_err-push-clause-records : goal.returns-in_err-push-clause-records
returns-in_err-push-clause-records g c = search rules

pub returns-in_err-push-clause-pool : goal.returns-in_err-push-clause-pool
returns-in_err-push-clause-pool g c = search rules

pub returns-in_err-push-clause-writable : goal.returns-in_err-push-clause-writable
returns-in_err-push-clause-writable g c = search rules

pub returns-in_err-push-clause-sorted : goal.returns-in_err-push-clause-sorted
returns-in_err-push-clause-sorted g c = search rules

pub returns-in_err-push-2-clause-records : goal.returns-in_err-push-2-clause-records
returns-in_err-push-2-clause-records g c = search rules

pub returns-in_err-push-2-clause-pool : goal.returns-in_err-push-2-clause-pool
returns-in_err-push-2-clause-pool g c = search rules

pub returns-in_err-push-2-clause-writable : goal.returns-in_err-push-2-clause-writable
returns-in_err-push-2-clause-writable g c = search rules

pub returns-in_err-push-2-clause-sorted : goal.returns-in_err-push-2-clause-sorted
returns-in_err-push-2-clause-sorted g c = search rules

pub returns-in_err-push_slots-clause-records : goal.returns-in_err-push_slots-clause-records
returns-in_err-push_slots-clause-records g c = search rules

pub returns-in_err-push_slots-clause-pool : goal.returns-in_err-push_slots-clause-pool
returns-in_err-push_slots-clause-pool g c = search rules

pub returns-in_err-push_slots-clause-writable : goal.returns-in_err-push_slots-clause-writable
returns-in_err-push_slots-clause-writable g c = search rules

pub returns-in_err-push_slots-clause-sorted : goal.returns-in_err-push_slots-clause-sorted
returns-in_err-push_slots-clause-sorted g c = search rules

pub loop-log10_type-preserved : goal.loop-log10_type-preserved
loop-log10_type-preserved g c = search rules

pub returns-clause-records : goal.returns-clause-records
returns-clause-records g c = search rules

pub returns-clause-pool : goal.returns-clause-pool
returns-clause-pool g c = search rules

pub returns-clause-writable : goal.returns-clause-writable
returns-clause-writable g c = search rules

pub returns-clause-sorted : goal.returns-clause-sorted
returns-clause-sorted g c = search rules
