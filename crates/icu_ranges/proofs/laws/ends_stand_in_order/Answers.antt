use Rattle.fixed_decimal.specs.SignDisplay.{is_negative}
use Rattle.fixed_decimal.specs.Size.{size}
use Rattle.icu_decimal_interface.specs.Shown.{size_shown}
use Rattle.icu_ranges.proofs.ShownOrder.{shown_in_order}
use Rattle.icu_ranges.proofs.laws.ends_stand_in_order.Goals as goal

-- sizes are shown in their order, and 0 as 0
pub returns : goal.returns
returns g c = λ f r n m ascending start end.
    let law = g.met.F.AbstractFormatter in
    shown_in_order (is_negative r.start.sign) (is_negative r.end.sign) (size r.start.absolute) (size r.end.absolute) (size_shown n) (size_shown m)
    ascending (law.in_order f r.start.absolute r.end.absolute n m start end) (law.in_order f r.end.absolute r.start.absolute m n end start)
    (law.near f r.start.absolute n start).zero.0 (law.near f r.end.absolute m end).zero.0
