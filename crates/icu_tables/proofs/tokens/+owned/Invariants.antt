use Rattle.std.proofs.Common.{◌≡◌, ◌+◌, ◌*◌, length, map, false}
use Rattle.serde_json.specs.View.{members_view, view}
use Rattle.serde_json.specs.Written.{members_have_float}
use Rattle.icu_tables.proofs.OwnedData.{ItemsGoOn, MembersGoOn}
use Rattle.icu_tables.proofs.tokens.+owned.Given as goal

abbrev pub decreases-owned : goal.decreases-owned
decreases-owned l = 2 * l.depth

abbrev pub decreases-owned_items : goal.decreases-owned_items
decreases-owned_items l = 2 * l.depth + 1

abbrev pub decreases-owned_members : goal.decreases-owned_members
decreases-owned_members l = 2 * l.depth + 1

-- the items that are left go on with those that were found
abbrev pub invariant-owned_items-items : goal.invariant-owned_items-items
invariant-owned_items-items l = ItemsGoOn l.depth l.initial.reader l.reader (map view l.found.items)

abbrev pub decreases-owned_items-items : goal.decreases-owned_items-items
decreases-owned_items-items l = length l.reader

-- the members that are left go on with those that were found
abbrev pub invariant-owned_members-members : goal.invariant-owned_members-members
invariant-owned_members-members l =
    MembersGoOn l.depth l.initial.reader l.reader (members_view l.found.entries) × (members_have_float (members_view l.found.entries) ≡ false)

abbrev pub decreases-owned_members-members : goal.decreases-owned_members-members
decreases-owned_members-members l = length l.reader
