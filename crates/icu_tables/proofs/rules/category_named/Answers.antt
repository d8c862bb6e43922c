-- Goals that a search finds; it is not tried longer where one is false.
use Rattle.std.proofs.Common.{rules}
use Rattle.icu_tables.specs.Rules.{category_named}
use Rattle.icu_tables.proofs.rules.category_named.Goals as goal

pub returns-in-few : goal.returns-in-few
unfolding category_named
returns-in-few c = search rules

pub returns-in-many : goal.returns-in-many
unfolding category_named
returns-in-many c = search rules

pub returns-in-one : goal.returns-in-one
unfolding category_named
returns-in-one c = search rules

pub returns-in-other : goal.returns-in-other
unfolding category_named
returns-in-other c = search rules

pub returns-in-two : goal.returns-in-two
unfolding category_named
returns-in-two c = search rules

pub returns-in-zero : goal.returns-in-zero
unfolding category_named
returns-in-zero c = search rules

pub returns-in_default : goal.returns-in_default
unfolding category_named
returns-in_default c = search rules
