use Rattle.std.proofs.Common.{◌≡◌, drop}
use Rattle.json.specs.Value.{members_view}
use Rattle.icu_message_catalogue.specs.Catalogue.{with_members}
use Rattle.icu_message_catalogue.proofs.catalogue.Catalogue.add_members.Given as goal

-- the members that are left decide
abbrev pub invariant-loop-member : goal.invariant-loop-member
invariant-loop-member l = with_members l.self (members_view (drop l.member-index l.member-items)) ≡ with_members l.fn.self (members_view l.members.items)
