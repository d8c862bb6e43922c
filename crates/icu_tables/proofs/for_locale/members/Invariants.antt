use Rattle.std.proofs.Common.{length}
use Rattle.serde_json.specs.Data.{Members}
use Rattle.icu_tables.proofs.OwnedData.{MembersGoOn}
use Rattle.icu_tables.proofs.for_locale.members.Given as goal

-- what is found is of the members so far, and the others go on with them
abbrev pub invariant-members : goal.invariant-members
invariant-members g l = (ds : Members) × g.K.Kept.holds l.locale ds l.found × MembersGoOn 126 l.initial.reader l.reader ds

abbrev pub decreases-members : goal.decreases-members
decreases-members g l = length l.reader
