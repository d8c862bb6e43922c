-- Goals that a search finds; it is not tried longer where one is false.
use Rattle.std.proofs.Common.{rules}
use Rattle.icu_table_entries.specs.Reading.{byte_in}
use Rattle.icu_table_entries.proofs.fields.byte_in.Goals as goal

pub returns-in-Some : goal.returns-in-Some
unfolding byte_in
returns-in-Some c = search rules

pub returns-in_default : goal.returns-in_default
unfolding byte_in
returns-in_default c = search rules

pub returns-in_default-2 : goal.returns-in_default-2
unfolding byte_in
returns-in_default-2 c = search rules
