use Rattle.std.proofs.Common.{◌≡◌, length, arith}
use Rattle.std.proofs.lemmas.Int.{to_z-of_z}
use Rattle.fixed_decimal.proofs.Moved.{moved, moved_times, moved_valid}
use Rattle.fixed_decimal.proofs.unsigned.UnsignedDecimal.multiply_pow10.Goals as goal

pub invariant_of-self-2 : goal.invariant_of-self-2
invariant_of-self-2 c =
    let fits = c.ranges.power in
    let l : c.len.result ≡ length c.self.inside.digits.items = omega arith in
    let r = simp (l, to_z-of_z) at c.in-Some.ensures in
    rw c.in_ok-widen.ensures.items (moved_valid c.self.inside.digits.items c.self.inside.scale c.args.power c.self.invariant _ _ _ r.front r.back r.scale r.high
    r.low)

pub returns-clause-moved : goal.returns-clause-moved
returns-clause-moved c =
    let fits = c.ranges.power in
    let l : c.len.result ≡ length c.self.inside.digits.items = omega arith in
    let r = simp (l, to_z-of_z) at c.in-Some.ensures in
    rw (← c.self.view_is, c.in_ok-widen.ensures.items) (moved c.self.inside.digits.items c.self.inside.scale c.args.power c.self.invariant _ _ _ r.front
    r.back r.scale r.high r.low)

pub returns-clause-size : goal.returns-clause-size
returns-clause-size c =
    let fits = c.ranges.power in
    let l : c.len.result ≡ length c.self.inside.digits.items = omega arith in
    let r = simp (l, to_z-of_z) at c.in-Some.ensures in
    rw (← c.self.view_is, c.in_ok-widen.ensures.items) (moved_times c.self.inside.digits.items c.self.inside.scale c.args.power c.self.invariant _ _ _ r.front
    r.back r.scale r.high r.low)

pub returns-clause-valid : goal.returns-clause-valid
returns-clause-valid c =
    let fits = c.ranges.power in
    let l : c.len.result ≡ length c.self.inside.digits.items = omega arith in
    let r = simp (l, to_z-of_z) at c.in-Some.ensures in
    rw c.in_ok-widen.ensures.items (moved_valid c.self.inside.digits.items c.self.inside.scale c.args.power c.self.invariant _ _ _ r.front r.back r.scale r.high
    r.low)
