use Rattle.icu_decimal.proofs.OrderLaws.{nearest_keeps_order, magnitude_is_shown, compact_number_is_its_nearest}
use Rattle.icu_decimal.proofs.WorkedNearest.{in_order}
use Rattle.icu_decimal.proofs.laws.smaller_never_shows_larger.Goals as goal

-- beside it stand sizes that meet the premises
pub returns : goal.returns
returns c = let instance = in_order in record { in_order = nearest_keeps_order; not_lost = magnitude_is_shown; itself = compact_number_is_its_nearest }
