use Rattle.icu_message.proofs.Built.{one-arm}
use Rattle.icu_message.proofs.laws.one_arm.Goals as goal

pub returns : goal.returns
returns c = one-arm
