-- Goals that a search finds; it is not tried longer where one is false.
use Rattle.std.proofs.Common.{rules}
use Rattle.icu_pattern.proofs.pattern.Pattern.as_ref.Goals as goal

pub invariant_of-result : goal.invariant_of-result
invariant_of-result g c = search rules

pub returns-clause-lent : goal.returns-clause-lent
returns-clause-lent g c = search rules
