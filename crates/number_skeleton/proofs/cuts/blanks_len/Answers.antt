use Rattle.std.proofs.Common.{length, length-drop, arith, ap, sym, ◌∙◌}
use Rattle.number_skeleton.specs.Cuts.{blank_len}
use Rattle.number_skeleton.proofs.Cutting.{blank_len-le, blanks-on}
use Rattle.number_skeleton.proofs.cuts.blanks_len.Goals as goal

pub returns-then-blank-eq0 : goal.returns-then-blank-eq0
returns-then-blank-eq0 c = record {
  within = c.loop-len.invariant.0;
  same = c.loop-len.invariant.1;
  none = sym (ap blank_len c.behind.ensures) ∙ sym c.blank_len-blank.ensures ∙ c.if-blank-eq0.true;
}

pub overflow_add-len : goal.overflow_add-len
overflow_add-len c = omega (
  arith,
  c.loop-len.invariant.0,
  blank_len-le c.behind.result.now,
  ap length c.behind.ensures,
  length-drop c.loop-len.len
      c.args.text.now,
)

pub loop-len-smaller : goal.loop-len-smaller
loop-len-smaller c = omega (
  arith,
  c.loop-len.invariant.0,
  blank_len-le c.behind.result.now,
  ap length c.behind.ensures,
  length-drop c.loop-len.len
      c.args.text.now,
)

pub loop-len-preserved : goal.loop-len-preserved
loop-len-preserved c = (
  omega (arith, c.loop-len.invariant.0, blank_len-le c.behind.result.now, ap length c.behind.ensures, length-drop c.loop-len.len c.args.text.now),
  blanks-on c.args.text.now c.loop-len.len c.blank_len-blank.result (c.blank_len-blank.ensures ∙ ap blank_len c.behind.ensures) (omega arith)
      c.loop-len.invariant.1,
)
