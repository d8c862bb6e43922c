-- Goals that a search finds; it is not tried longer where one is false.
use Rattle.std.proofs.Common.{rules}
use Rattle.icu_pattern.proofs.pattern.PatternRef.placeholder.Goals as goal

pub returns-clause-placeholder : goal.returns-clause-placeholder
returns-clause-placeholder g c = search rules
