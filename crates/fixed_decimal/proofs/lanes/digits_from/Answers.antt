use Rattle.std.proofs.Common.{leb, cond, refl}
use Rattle.fixed_decimal.proofs.LaneLemmas.{none_stops, one_stops}
use Rattle.fixed_decimal.proofs.lanes.digits_from.Goals as goal

pub returns-then-others-eq0 : goal.returns-then-others-eq0
returns-then-others-eq0 c = none_stops _ (λ a b. cond (leb a b) 255 0) refl c.args.lanes.now c.args.start c.requires.lanes c.requires.start c.type_inv.lanes
    c.if-others-eq0.true

pub returns-else-others-eq0 : goal.returns-else-others-eq0
returns-else-others-eq0 c = one_stops _ (λ a b. cond (leb a b) 255 0) refl c.args.lanes.now c.args.start c.requires.lanes c.requires.start c.type_inv.lanes
    c.if-others-eq0.false
