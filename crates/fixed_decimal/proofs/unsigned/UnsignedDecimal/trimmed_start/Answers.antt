use Rattle.std.proofs.Common.{◌≡◌, length, arith}
use Rattle.fixed_decimal.proofs.Padded.{start_size, start_high}
use Rattle.fixed_decimal.proofs.unsigned.UnsignedDecimal.trimmed_start.Goals as goal

pub returns-clause-size : goal.returns-clause-size
returns-clause-size c =
    let l = rw c.deref.ensures at c.leading_zeros.ensures in
    let count : c.len-count.result ≡ length c.self.inside.digits.items = omega arith in
    let m = rw count at c.min-zeros.ensures in
    rw (← c.self.view_is, c.cut_front.ensures)
    (start_size c.self.inside.digits.items c.self.inside.scale c.leading_zeros.result c.min-zeros.result c.self.invariant l.within l.zeros l.stops m)

pub returns-clause-high : goal.returns-clause-high
returns-clause-high c =
    let l = rw c.deref.ensures at c.leading_zeros.ensures in
    let count : c.len-count.result ≡ length c.self.inside.digits.items = omega arith in
    let m = rw count at c.min-zeros.ensures in
    rw (← c.self.view_is, c.cut_front.ensures)
    (start_high c.self.inside.digits.items c.self.inside.scale c.leading_zeros.result c.min-zeros.result c.self.invariant l.within l.zeros l.stops m)
