use Rattle.std.proofs.Common.{◌≡◌, suc, [], refl, sym, arith}
use Rattle.locnum_lines.specs.Ran.{writes}
use Rattle.locnum_lines.proofs.Adding.{Adds-start, joined_runs-none}
use Rattle.locnum_lines.proofs.Goes.{InLine-ends, InLine-goes}
use Rattle.locnum_lines.proofs.line.push_fields.Goals as goal

pub loop-next-init : goal.loop-next-init
loop-next-init c = record { ran = writes []; adds = Adds-start c.args.gathered.now c.requires; is_first = (refl, sym (joined_runs-none _)) }

pub loop-next-preserved : goal.loop-next-preserved
loop-next-preserved c =
    let i = rw c.in-Some.is at c.loop-next.invariant in
    let more : c.in-Some-checked_add.following ≡ suc c.loop-next.index = omega (arith, c.in-Some-checked_add.ensures.1) in
    InLine-goes c.args.settings.now c.args.form.now _ c.args.gathered.now c.loop-next.gathered c.push_first.new.gathered
    c.loop-next.index _ c.in-Some.rest.now _ i c.in_ok-next.ensures more

pub returns : goal.returns
returns c = InLine-ends c.args.settings.now c.args.form.now _ c.args.gathered.now c.loop-next.gathered c.loop-next.index
    (rw c.in_default.is at c.loop-next.invariant)
