use Rattle.std.proofs.Common.{◌≡◌, ◌-◌, ◌++◌, [], ℕ, length, replicate, arith, pos, negsuc, ◌≤ℤ◌, ◌-ℤ◌}
use Rattle.std.specs.Int.{int_max}
use Rattle.std.proofs.lemmas.Int.{ints, clamps, to_z-of_z}
use Rattle.std.proofs.lemmas.List.{append-nil}
use Rattle.fixed_decimal.specs.Increments.{tail_count}
use Rattle.fixed_decimal.proofs.Stepped.{steps_nothing, steps_little, little_past}
use Rattle.fixed_decimal.proofs.Rounded.{power_is, one_is_none}
use Rattle.fixed_decimal.proofs.step_rounding.round_little.Goals as goal

pub returns-then-not-rounds_up_from_nothing-clause-rounded : goal.returns-then-not-rounds_up_from_nothing-clause-rounded
returns-then-not-rounds_up_from_nothing-clause-rounded c =
    let fits = c.ranges.power in
    let p = c.args.power in
    let ds = c.args.digits.now in
    let n = simp to_z-of_z at c.zeros_below-zeros.ensures in
    let little : ((pos (length ds - c.args.scale) -ℤ p) -ℤ pos (tail_count c.args.increment)) ≤ℤ negsuc 0 = omega (arith, ints, c.requires.little) in
    let most : pos c.max.result ≡ int_max (pos (length ds - c.args.scale)) p =
    omega (arith, ints, clamps, c.max.ensures, n, power_is p, one_is_none p, c.requires.valid.integer_some) in
    rw (c.cut.ensures, append-nil (replicate {A = ℕ} c.max.result 0 ++ []), append-nil (replicate {A = ℕ} c.max.result 0))
    (steps_nothing c.args.mode c.args.increment ds c.args.scale p c.requires.valid (omega (arith, ints)) (omega (arith, ints)) little c.requires.more
    c.max.result most c.if-not-rounds_up_from_nothing.ensures).1

pub returns-then-zeros-tail_count-gt-MAX_DIGITS-clause-none : goal.returns-then-zeros-tail_count-gt-MAX_DIGITS-clause-none
returns-then-zeros-tail_count-gt-MAX_DIGITS-clause-none c =
    let fits = c.ranges.power in
    let p = c.args.power in
    let ds = c.args.digits.now in
    let n = simp to_z-of_z at c.zeros_below-zeros.ensures in
    let little : ((pos (length ds - c.args.scale) -ℤ p) -ℤ pos (tail_count c.args.increment)) ≤ℤ negsuc 0 = omega (arith, ints, c.requires.little) in
    little_past c.args.mode c.args.increment ds c.args.scale p c.requires.valid (omega (arith, ints)) (omega (arith, ints)) little c.requires.more
    c.if-not-rounds_up_from_nothing.ensures (rw (n, c.tail_count.ensures.value) at c.if-zeros-tail_count-gt-MAX_DIGITS.true)

pub returns-clause-valid : goal.returns-clause-valid
returns-clause-valid c =
    let fits = c.ranges.power in
    let p = c.args.power in
    let ds = c.args.digits.now in
    let n = simp to_z-of_z at c.zeros_below-zeros.ensures in
    let little : ((pos (length ds - c.args.scale) -ℤ p) -ℤ pos (tail_count c.args.increment)) ≤ℤ negsuc 0 = omega (arith, ints, c.requires.little) in
    rw (c.cut-2.ensures, n, c.step_of.ensures.value)
    (steps_little c.args.mode c.args.increment ds c.args.scale p c.requires.valid (omega (arith, ints)) (omega (arith, ints)) little c.requires.more
    c.if-not-rounds_up_from_nothing.ensures (rw (n, c.tail_count.ensures.value) at c.if-zeros-tail_count-gt-MAX_DIGITS.false)).0

pub returns-clause-rounded : goal.returns-clause-rounded
returns-clause-rounded c =
    let fits = c.ranges.power in
    let p = c.args.power in
    let ds = c.args.digits.now in
    let n = simp to_z-of_z at c.zeros_below-zeros.ensures in
    let little : ((pos (length ds - c.args.scale) -ℤ p) -ℤ pos (tail_count c.args.increment)) ≤ℤ negsuc 0 = omega (arith, ints, c.requires.little) in
    rw (c.cut-2.ensures, n, c.step_of.ensures.value)
    (steps_little c.args.mode c.args.increment ds c.args.scale p c.requires.valid (omega (arith, ints)) (omega (arith, ints)) little c.requires.more
    c.if-not-rounds_up_from_nothing.ensures (rw (n, c.tail_count.ensures.value) at c.if-zeros-tail_count-gt-MAX_DIGITS.false)).1
