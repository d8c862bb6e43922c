use Rattle.std.proofs.Common.{arith}
use Rattle.fixed_decimal.proofs.LaneLemmas.{step_within, step_ends, step_goes_on}
use Rattle.fixed_decimal.proofs.reading.leading_digits.Goals as goal

pub overflow_add-count-in-steps : goal.overflow_add-count-in-steps
overflow_add-count-in-steps c =
    let within = step_within c.args.text.now c.steps.count c.digits_from-run.result (omega arith) c.digits_from-run.ensures in
    omega (arith, within)

pub returns-then-run-lt-LANES-clause-count : goal.returns-then-run-lt-LANES-clause-count
returns-then-run-lt-LANES-clause-count c =
    step_ends c.args.text.now c.steps.count c.digits_from-run.result (omega arith) c.digits_from-run.ensures c.if-run-lt-LANES.true c.steps.invariant.so_far

pub steps-preserved : goal.steps-preserved
steps-preserved c =
    let within = step_within c.args.text.now c.steps.count c.digits_from-run.result (omega arith) c.digits_from-run.ensures in
    record {
      within = omega (arith, within);
      so_far = step_goes_on c.args.text.now c.steps.count c.digits_from-run.result (omega arith) c.digits_from-run.ensures c.if-run-lt-LANES.false
          c.steps.invariant.so_far;
    }
