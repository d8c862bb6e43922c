use Rattle.number_rounding.proofs.SignificandSteps.{whole_test}
use Rattle.number_rounding.proofs.significand.is_whole.Goals as goal

pub returns : goal.returns
returns c =
    let test = rw c.fraction.ensures.digits at c.is_all_zero.ensures in
    whole_test c.args.value.now c.is_all_zero.result c.fraction.ensures.valid test
