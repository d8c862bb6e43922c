use Rattle.serde_json.specs.Data.{no_members}
use Rattle.icu_tables.proofs.ForLocale.{members_smaller, members_step}
use Rattle.icu_tables.proofs.OwnedData.{MembersGoOn-start, MembersGoOn-end}
use Rattle.icu_tables.proofs.for_locale.members.Goals as goal

pub members-init : goal.members-init
members-init g c = (no_members, c.none-found.ensures c.args.locale.now, MembersGoOn-start 126 c.args.reader.now)

pub members-smaller : goal.members-smaller
members-smaller g c =
    members_smaller g.K.Kept.holds c.args.locale.now c.members.found c.add.new.self c.members.reader c.next_key.new.self c.add.new.reader
    c.in-Some.name.now (rw c.in-Some.is at c.in_ok-name.ensures.value) c.in_ok-add.ensures

pub members-preserved : goal.members-preserved
members-preserved g c =
    members_step g.K.Kept.holds c.args.locale.now c.members.found c.add.new.self c.members.reader c.next_key.new.self c.add.new.reader
    c.args.reader.now c.in-Some.name.now c.members.invariant (rw c.in-Some.is at c.in_ok-name.ensures.value) c.in_ok-add.ensures

pub returns : goal.returns
returns g c =
    let i = c.members.invariant in
    let key = rw c.in_default.is at c.in_ok-name.ensures.value in
    (i.0, i.1, MembersGoOn-end 126 c.args.reader.now i.0 c.members.reader c.next_key.new.self key i.2)
