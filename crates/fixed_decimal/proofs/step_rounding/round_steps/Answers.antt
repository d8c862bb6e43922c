use Rattle.std.proofs.Common.{◌≡◌, ◌+◌, ◌-◌, ◌<◌, ◌++◌, [], ℕ, length, take, replicate, arith, pos, ◌-ℤ◌, option_to_list}
use Rattle.std.proofs.lemmas.Int.{ints, to_z-of_z}
use Rattle.std.proofs.lemmas.List.{append-nil, take_all}
use Rattle.fixed_decimal.specs.Increments.{tail_count}
use Rattle.fixed_decimal.proofs.Rounded.{all_nines}
use Rattle.fixed_decimal.proofs.Stepped.{steps_exact, steps_kept, steps_past, steps_raised}
use Rattle.fixed_decimal.proofs.step_rounding.round_steps.Goals as goal
use Rattle.fixed_decimal.proofs.step_rounding.round_steps.Goals.{else-left-eq0-via-then-left-eq0+else-integer_count-eq-MAX_DIGITS}
use Rattle.fixed_decimal.proofs.step_rounding.round_steps.Goals.{else-left-eq0-via-else-left-eq0}

pub returns-then-head-count-clause-rounded : goal.returns-then-head-count-clause-rounded
returns-then-head-count-clause-rounded c =
    let fits = c.ranges.power in
    let ds = c.args.digits.now in
    let head = c.in-Some.head in
    let w = tail_count c.args.increment in
    let counted : pos (head + w) ≡ pos (length ds - c.args.scale) -ℤ c.args.power = omega (arith, ints, c.in-Some.ensures.some) in
    let all : take (length ds) ds ≡ ds = take_all _ _ (omega arith) in
    let k = head + w - length ds in
    rw (
      c.cut.ensures,
      c.tail_count.ensures.value,
      all,
      append-nil ((ds ++ []) ++ replicate {A = ℕ} k 0 ++ []),
      append-nil ((ds ++ []) ++ replicate {A =
          ℕ} k 0),
      append-nil ds,
    )
    (steps_exact c.args.mode c.args.increment ds c.args.scale c.args.power c.requires.valid (omega (arith, ints)) (omega (arith, ints))
    (head + w) counted (omega (arith, c.if-head-count.true))).1

pub returns-then-tail-tail_limit-clause-valid : goal.returns-then-tail-tail_limit-clause-valid
returns-then-tail-tail_limit-clause-valid c =
    let fits = c.ranges.power in
    let ds = c.args.digits.now in
    let head = c.in-Some.head in
    let n = simp to_z-of_z at c.zeros_below-zeros.ensures in
    let counted : pos (head + tail_count c.args.increment) ≡ pos (length ds - c.args.scale) -ℤ c.args.power = omega (arith, ints, c.in-Some.ensures.some) in
    rw (c.cut-then-tail-tail_limit.ensures, n, append-nil (take head ds))
    (steps_kept c.args.mode c.args.increment ds c.args.scale c.args.power c.requires.valid (omega (arith, ints)) (omega (arith, ints))
    head counted c.if-head-count.false c.tail_taken-tail.result c.tail_taken-tail.ensures (rw c.tail_limit.ensures at c.if-tail-tail_limit.true)).0

pub returns-then-tail-tail_limit-clause-rounded : goal.returns-then-tail-tail_limit-clause-rounded
returns-then-tail-tail_limit-clause-rounded c =
    let fits = c.ranges.power in
    let ds = c.args.digits.now in
    let head = c.in-Some.head in
    let n = simp to_z-of_z at c.zeros_below-zeros.ensures in
    let counted : pos (head + tail_count c.args.increment) ≡ pos (length ds - c.args.scale) -ℤ c.args.power = omega (arith, ints, c.in-Some.ensures.some) in
    rw (c.cut-then-tail-tail_limit.ensures, n, append-nil (take head ds))
    (steps_kept c.args.mode c.args.increment ds c.args.scale c.args.power c.requires.valid (omega (arith, ints)) (omega (arith, ints))
    head counted c.if-head-count.false c.tail_taken-tail.result c.tail_taken-tail.ensures (rw c.tail_limit.ensures at c.if-tail-tail_limit.true)).1

pub returns-then-integer_count-eq-MAX_DIGITS-clause-none : goal.returns-then-integer_count-eq-MAX_DIGITS-clause-none
returns-then-integer_count-eq-MAX_DIGITS-clause-none c =
    let fits = c.ranges.power in
    let ds = c.args.digits.now in
    let head = c.in-Some.head in
    let counted : pos (head + tail_count c.args.increment) ≡ pos (length ds - c.args.scale) -ℤ c.args.power = omega (arith, ints, c.in-Some.ensures.some) in
    let nines = all_nines ds head c.without_nines-left.result (omega arith) c.without_nines-left.ensures.nines in
    steps_past c.args.mode c.args.increment ds c.args.scale c.args.power c.requires.valid (omega (arith, ints)) (omega (arith, ints))
    head counted c.if-head-count.false c.tail_taken-tail.result c.tail_taken-tail.ensures (rw c.tail_limit.ensures at c.if-tail-tail_limit.false)
    nines (omega arith)

pub returns-clause-valid : goal.returns-clause-valid
returns-clause-valid c =
    let fits = c.ranges.power in
    let ds = c.args.digits.now in
    let head = c.in-Some.head in
    let left = c.without_nines-left.result in
    let n = simp to_z-of_z at c.zeros_below-zeros.ensures in
    let counted : pos (head + tail_count c.args.increment) ≡ pos (length ds - c.args.scale) -ℤ c.args.power = omega (arith, ints, c.in-Some.ensures.some) in
    let room : left ≡ 0 → length ds - c.args.scale < 32768 = λ e. elim c.else-left-eq0.branch [
      | else-left-eq0-via-then-left-eq0+else-integer_count-eq-MAX_DIGITS w ↦ omega (
        arith,
        w.if-integer_count-eq-MAX_DIGITS.false,
        c.requires.valid.high_limit,
      )
      | else-left-eq0-via-else-left-eq0 w ↦ absurd (omega (arith, w.if-left-eq0.false))
    ] in
    rw n (steps_raised c.args.mode c.args.increment ds c.args.scale c.args.power c.requires.valid (omega (arith, ints)) (omega (arith, ints))
    head counted c.if-head-count.false c.tail_taken-tail.result c.tail_taken-tail.ensures (rw c.tail_limit.ensures at c.if-tail-tail_limit.false)
    left c.without_nines-left.ensures.nines (take c.raised_head.result.kept ds ++ option_to_list c.raised_head.result.raised) c.raised_head.result.zeros
    c.raised_head.ensures.below_ten c.raised_head.ensures.one_more c.raised_head.ensures.as_long c.raised_head.ensures.longer room).0

pub returns-clause-rounded : goal.returns-clause-rounded
returns-clause-rounded c =
    let fits = c.ranges.power in
    let ds = c.args.digits.now in
    let head = c.in-Some.head in
    let left = c.without_nines-left.result in
    let n = simp to_z-of_z at c.zeros_below-zeros.ensures in
    let counted : pos (head + tail_count c.args.increment) ≡ pos (length ds - c.args.scale) -ℤ c.args.power = omega (arith, ints, c.in-Some.ensures.some) in
    let room : left ≡ 0 → length ds - c.args.scale < 32768 = λ e. elim c.else-left-eq0.branch [
      | else-left-eq0-via-then-left-eq0+else-integer_count-eq-MAX_DIGITS w ↦ omega (
        arith,
        w.if-integer_count-eq-MAX_DIGITS.false,
        c.requires.valid.high_limit,
      )
      | else-left-eq0-via-else-left-eq0 w ↦ absurd (omega (arith, w.if-left-eq0.false))
    ] in
    rw n (steps_raised c.args.mode c.args.increment ds c.args.scale c.args.power c.requires.valid (omega (arith, ints)) (omega (arith, ints))
    head counted c.if-head-count.false c.tail_taken-tail.result c.tail_taken-tail.ensures (rw c.tail_limit.ensures at c.if-tail-tail_limit.false)
    left c.without_nines-left.ensures.nines (take c.raised_head.result.kept ds ++ option_to_list c.raised_head.result.raised) c.raised_head.result.zeros
    c.raised_head.ensures.below_ten c.raised_head.ensures.one_more c.raised_head.ensures.as_long c.raised_head.ensures.longer room).1
