-- Goals that a search finds; it is not tried longer where one is false.
use Rattle.std.proofs.Common.{rules}
use Rattle.icu_pattern.proofs.pattern.Pattern+SinglePlaceholder.pass_through.Goals as goal

pub returns-clause-alone : goal.returns-clause-alone
returns-clause-alone c = search rules
