use Rattle.icu_message.proofs.Paths.{arguments-are-no-syntax}
use Rattle.icu_message.proofs.laws.arguments_are_no_syntax.Goals as goal

pub returns : goal.returns
returns c = arguments-are-no-syntax
