-- Goals that a search finds; it is not tried longer where one is false.
use Rattle.std.proofs.Common.{rules}
use Rattle.icu_pattern.proofs.pattern.PatternRef.try_new.Goals as goal

pub invariant_of-result : goal.invariant_of-result
invariant_of-result g c = search rules

pub returns-else-accepts-clause-bad_place : goal.returns-else-accepts-clause-bad_place
returns-else-accepts-clause-bad_place g c = search rules
