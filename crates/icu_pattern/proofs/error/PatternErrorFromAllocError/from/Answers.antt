-- Goals that a search finds; it is not tried longer where one is false.
use Rattle.std.proofs.Common.{rules}
use Rattle.icu_pattern.proofs.error.PatternErrorFromAllocError.from.Goals as goal

pub returns : goal.returns
returns c = search rules
