use Rattle.icu_message.proofs.Once.{number-stands-once}
use Rattle.icu_message.proofs.laws.number_stands_once.Goals as goal

pub returns : goal.returns
returns c = number-stands-once
