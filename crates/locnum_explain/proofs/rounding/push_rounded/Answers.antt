use Rattle.std.proofs.Common.{codes}
use Rattle.locnum_explain.specs.Rounding.{rounded_line}
use Rattle.locnum_explain.proofs.Appended.{appended_five}
use Rattle.locnum_explain.proofs.rounding.push_rounded.Goals as goal

pub returns : goal.returns
unfolding rounded_line
returns c =
    let reason = rw c.fraction.ensures.digits at c.in_ok-push_reason.ensures in
    appended_five _ (codes "  rounded    ") _ (codes ": ") _ (codes "\n") _ _ _ _ _ c.in_ok-extend_from_slice.ensures.items
    c.in_ok-push_numbers.ensures c.in_ok-extend_from_slice-2.ensures.items reason c.in_ok-push.ensures.items
