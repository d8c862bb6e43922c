use Rattle.std.proofs.Common.{◌∙◌}
use Rattle.std.proofs.lemmas.Result.{IfOk-weaker}
use Rattle.locnum_explain.proofs.Marks.{number-marked}
use Rattle.locnum_explain.proofs.marking.mark_number.Goals as goal

pub returns : goal.returns
returns c =
    let is = number-marked c.args.formatter.now c.args.decimal.now.absolute c.in-Ok.formatted.value c.value-number.result.now c.in-Ok.ensures.value
    c.value-number.ensures c.args.decimal.now.sign _ _ _ c.in_ok-significand.ensures.0 c.in_ok-significand.ensures.1 c.exponent.ensures in
    IfOk-weaker c.mark_with_exponent.result _ _ (λ text events. events ∙ is) c.mark_with_exponent.ensures
