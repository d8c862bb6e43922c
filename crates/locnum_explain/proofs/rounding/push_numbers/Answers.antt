use Rattle.std.proofs.Common.{codes}
use Rattle.locnum_explain.specs.Rounding.{rounded_text}
use Rattle.locnum_explain.proofs.Appended.{appended_three}
use Rattle.locnum_explain.proofs.rounding.push_numbers.Goals as goal

pub returns : goal.returns
unfolding rounded_text
returns c = appended_three _ _ (codes " to ") _ _ _ _ c.in_ok-push_decimal.ensures c.in_ok-extend_from_slice.ensures.items c.in_ok-push_decimal-2.ensures
