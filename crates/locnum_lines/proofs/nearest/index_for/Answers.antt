use Rattle.std.proofs.Common.{arith}
use Rattle.locnum_lines.proofs.Near.{name-behind, name-here, name-last}
use Rattle.locnum_lines.proofs.nearest.index_for.Goals as goal

pub returns-then-branch-clause-index : goal.returns-then-branch-clause-index
returns-then-branch-clause-index c =
    name-here (λ s. s.now) c.args.wanted.now c.args.name.now c.args.near.now c.loop-index.index c.loop-index.invariant.1
    _ _ c.loop-index-test.true c.in_ok-is_nearer.ensures c.if-branch.true

pub loop-index-preserved : goal.loop-index-preserved
loop-index-preserved c = (
  omega (arith, c.loop-index-test.true),
  name-behind (λ s. s.now) c.args.wanted.now c.args.name.now c.args.near.now c.loop-index.index c.loop-index.invariant.1
      _ _ c.loop-index-test.true c.in_ok-is_nearer.ensures c.if-branch.false,
)

pub returns-clause-index : goal.returns-clause-index
returns-clause-index c =
    name-last (λ s. s.now) c.args.wanted.now c.args.name.now c.args.near.now c.loop-index.index c.loop-index.invariant.1 c.loop-index-test.false
