use Rattle.std.proofs.Common.{◌+◌, drop, sym}
use Rattle.std.proofs.lemmas.List.{drop_all}
use Rattle.std.proofs.lemmas.Result.{err_from_is_err_and}
use Rattle.json.specs.Value.{members_view, value_view}
use Rattle.icu_message_catalogue.specs.Catalogue.{with_members}
use Rattle.icu_message_catalogue.proofs.Members.{items_from, goes_on, fails}
use Rattle.icu_message_catalogue.proofs.catalogue.Catalogue.add_members.Goals as goal

pub returns-in_err-add_member-clause-fault : goal.returns-in_err-add_member-clause-fault
returns-in_err-add_member-clause-fault c =
    let p = err_from_is_err_and c.from_residual.result c.from_residual.ensures.1 in
    let xs = c.deref-member-items.result.now in
    let i = c.loop-member.member-index in
    let m = c.member-item.result in
    let from = rw (items_from xs i m c.member-item.is c.loop-member-test.true) at c.loop-member.invariant in
    rw (p.1, p.2) (fails c.in_err-add_member.field-0.0 c.loop-member.self m.0.now (value_view m.1) (members_view (drop (i + 1) xs)) _
    c.in_err-add_member.ensures.fault from)

pub loop-member-preserved : goal.loop-member-preserved
loop-member-preserved c =
    let xs = c.deref-member-items.result.now in
    let i = c.loop-member.member-index in
    let m = c.member-item.result in
    let from = rw (items_from xs i m c.member-item.is c.loop-member-test.true) at c.loop-member.invariant in
    goes_on c.loop-member.self c.add_member.new.self m.0.now (value_view m.1) (members_view (drop (i + 1) xs)) _
    c.in_ok-add_member.ensures.taken from

pub returns-clause-taken : goal.returns-clause-taken
unfolding with_members
returns-clause-taken c =
    let xs = c.deref-member-items.result.now in
    sym (rw (drop_all c.loop-member.member-index xs c.loop-member-test.false) at c.loop-member.invariant)
