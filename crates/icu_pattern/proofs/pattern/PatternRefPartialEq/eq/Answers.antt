-- Goals that a search finds; it is not tried longer where one is false.
use Rattle.std.proofs.Common.{rules}
use Rattle.icu_pattern.proofs.pattern.PatternRefPartialEq.eq.Goals as goal

pub returns-clause-computed : goal.returns-clause-computed
returns-clause-computed g c = search rules

pub returns-clause-same : goal.returns-clause-same
returns-clause-same g c = search rules
