-- Goals that a search finds; it is not tried longer where one is false.
use Rattle.std.proofs.Common.{rules}
use Rattle.icu_plurals.proofs.evaluation.integer_digits.Goals as goal

pub returns-then-operands : goal.returns-then-operands
returns-then-operands c = search rules

pub returns : goal.returns
returns c = search rules
