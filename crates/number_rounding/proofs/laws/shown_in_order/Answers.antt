use Rattle.number_rounding.proofs.ShownSizes.{shown_in_order, nothing_is_between}
use Rattle.number_rounding.proofs.laws.shown_in_order.Goals as goal

pub returns : goal.returns
returns c = record { in_order = shown_in_order; between = nothing_is_between }
