-- Goals that a search finds; it is not tried longer where one is false.
use Rattle.std.proofs.Common.{rules}
use Rattle.icu_tables.specs.Compact.{compact_in}
use Rattle.icu_tables.proofs.compact.compact_from_value.Goals as goal

pub returns : goal.returns
unfolding compact_in
returns c = search rules

pub returns-in_err-listed : goal.returns-in_err-listed
unfolding compact_in
returns-in_err-listed c = search rules

pub returns-in_err-object_in : goal.returns-in_err-object_in
unfolding compact_in
returns-in_err-object_in c = search rules

pub returns-then-has_float : goal.returns-then-has_float
unfolding compact_in
returns-then-has_float c = search rules
