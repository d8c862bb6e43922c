-- Goals that a search finds; it is not tried longer where one is false.
use Rattle.std.proofs.Common.{rules}
use Rattle.icu_table_entries.specs.Spelling.{pattern_of}
use Rattle.icu_table_entries.proofs.pattern_text.pattern_of.Goals as goal

pub returns : goal.returns
unfolding pattern_of
returns c = search rules

pub returns-in_default : goal.returns-in_default
unfolding pattern_of
returns-in_default c = search rules

pub returns-then-is_some : goal.returns-then-is_some
unfolding pattern_of
returns-then-is_some c = search rules
