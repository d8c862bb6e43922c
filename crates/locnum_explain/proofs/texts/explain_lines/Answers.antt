use Rattle.std.proofs.Common.{◌+◌, [], drop, refl, sym, ◌∙◌}
use Rattle.locnum_explain.proofs.Lines.{Explains-ends, Explains-ends-refused, Explains-goes, Explains-last, Explains-next, texts}
use Rattle.locnum_explain.proofs.Lines.{Explains-stops, Explains-stops-refused}
use Rattle.locnum_explain.proofs.texts.explain_lines.Goals as goal

pub returns-then-ends-clause-lines : goal.returns-then-ends-clause-lines
returns-then-ends-clause-lines c =
    let so_far = Explains-next c.args.settings.now c.args.stops c.args.form.now c.args.out.now.items c.loop-line.out.items c.loop-line.is_refused
    c.args.lines.now c.loop-line.line-index c.loop-line.invariant (record { ref_ptr = (0, 0); now = [] }) c.as_bytes.result.now
    c.loop-line-test.true c.as_bytes.ensures.value in
    Explains-stops c.args.settings.now c.args.stops c.args.form.now c.args.out.now.items c.loop-line.out.items c.loop-line.is_refused
    (texts c.args.lines.now) c.as_bytes.result.now (drop (c.loop-line.line-index + 1) (texts c.args.lines.now)) so_far
    c.in_ok-refused.refused c.in_ok-refused.ensures.refused c.explain_line.new.out.items c.in_ok-refused.ensures.lines
    (sym c.ends.ensures ∙ c.if-ends.true)

pub returns-then-ends-clause-refused : goal.returns-then-ends-clause-refused
returns-then-ends-clause-refused c =
    let so_far = Explains-next c.args.settings.now c.args.stops c.args.form.now c.args.out.now.items c.loop-line.out.items c.loop-line.is_refused
    c.args.lines.now c.loop-line.line-index c.loop-line.invariant (record { ref_ptr = (0, 0); now = [] }) c.as_bytes.result.now
    c.loop-line-test.true c.as_bytes.ensures.value in
    Explains-stops-refused c.args.settings.now c.args.stops c.args.form.now c.args.out.now.items c.loop-line.out.items c.loop-line.is_refused
    (texts c.args.lines.now) c.as_bytes.result.now (drop (c.loop-line.line-index + 1) (texts c.args.lines.now)) so_far
    c.in_ok-refused.refused c.in_ok-refused.ensures.refused c.explain_line.new.out.items c.in_ok-refused.ensures.lines
    (sym c.ends.ensures ∙ c.if-ends.true)

pub loop-line-preserved : goal.loop-line-preserved
loop-line-preserved c =
    let so_far = Explains-next c.args.settings.now c.args.stops c.args.form.now c.args.out.now.items c.loop-line.out.items c.loop-line.is_refused
    c.args.lines.now c.loop-line.line-index c.loop-line.invariant (record { ref_ptr = (0, 0); now = [] }) c.as_bytes.result.now
    c.loop-line-test.true c.as_bytes.ensures.value in
    Explains-goes c.args.settings.now c.args.stops c.args.form.now c.args.out.now.items c.loop-line.out.items c.loop-line.is_refused
    (texts c.args.lines.now) c.as_bytes.result.now (drop (c.loop-line.line-index + 1) (texts c.args.lines.now)) so_far
    c.in_ok-refused.refused c.in_ok-refused.ensures.refused c.explain_line.new.out.items c.in_ok-refused.ensures.lines
    (sym c.ends.ensures ∙ c.if-ends.false) _ refl

pub returns-clause-lines : goal.returns-clause-lines
returns-clause-lines c = Explains-ends c.args.settings.now c.args.stops c.args.form.now c.args.out.now.items c.loop-line.out.items c.loop-line.is_refused
    (texts c.args.lines.now)
    (Explains-last c.args.settings.now c.args.stops c.args.form.now c.args.out.now.items c.loop-line.out.items c.loop-line.is_refused c.args.lines.now
    c.loop-line.line-index c.loop-line.invariant c.loop-line-test.false)

pub returns-clause-refused : goal.returns-clause-refused
returns-clause-refused c = Explains-ends-refused c.args.settings.now c.args.stops c.args.form.now c.args.out.now.items c.loop-line.out.items
    c.loop-line.is_refused (texts c.args.lines.now)
    (Explains-last c.args.settings.now c.args.stops c.args.form.now c.args.out.now.items c.loop-line.out.items c.loop-line.is_refused c.args.lines.now
    c.loop-line.line-index c.loop-line.invariant c.loop-line-test.false)
