-- Goals that a search finds; it is not tried longer where one is false.
use Rattle.std.proofs.Common.{rules}
use Rattle.icu_table_entries.specs.Reading.{member_at}
use Rattle.icu_table_entries.proofs.fields.member_at.Goals as goal

pub returns : goal.returns
unfolding member_at
returns c = search rules
