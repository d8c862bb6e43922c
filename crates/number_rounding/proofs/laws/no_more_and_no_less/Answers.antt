use Rattle.number_rounding.proofs.ShownSizes.{down_is_no_more, up_is_no_less, floor_is_no_more, ceiling_is_no_less}
use Rattle.number_rounding.proofs.laws.no_more_and_no_less.Goals as goal

pub returns : goal.returns
returns c = record { down = down_is_no_more; up = up_is_no_less; floor = floor_is_no_more; ceiling = ceiling_is_no_less }
