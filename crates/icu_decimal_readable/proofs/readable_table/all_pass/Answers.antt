use Rattle.std.proofs.Common.{◌<◌, refl, arith, length, None}
use Rattle.icu_pattern.specs.Patterns.{placeholder_alone}
use Rattle.icu_decimal_readable.proofs.ReadableParts.{false_not_true}
use Rattle.icu_decimal_readable.proofs.ReadableTables.{throughout, entry_failed}
use Rattle.icu_decimal_readable.proofs.readable_table.all_pass.Goals as goal

pub returns-then-not-passes : goal.returns-then-not-passes
returns-then-not-passes g c =
    (λ e. cc, λ h. absurd (false_not_true c.passes.result c.if-not-passes.true (c.passes.ensures.1 (h None placeholder_alone refl))))

pub returns-then-not-entry_passes : goal.returns-then-not-entry_passes
returns-then-not-entry_passes g c =
    let within : c.loop-index.index < length c.args.patterns.now = omega arith in (
      λ e. cc,
      λ h. absurd (entry_failed (g.T.PatternTest.holds c.args.test.now) c.args.patterns.now c.loop-index.index c.entry_passes.result within
          c.if-not-entry_passes.true c.entry_passes.ensures h),
    )

pub returns : goal.returns
returns g c = (
  λ e. throughout (g.T.PatternTest.holds c.args.test.now) c.args.patterns.now (c.passes.ensures.0 c.if-not-passes.false)
      (λ k within. c.loop-index.invariant k (omega arith)),
  λ h. refl,
)
