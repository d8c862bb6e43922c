use Rattle.std.proofs.Common.{◌≡◌, Ok}
use Rattle.talmuiga_c.specs.Asked.{mode_asked}
use Rattle.talmuiga_c.proofs.Unstarted.{asked-made, refused-ends}
use Rattle.talmuiga_c.proofs.formatting.format_asked.Goals as goal

pub returns-in-Ok : goal.returns-in-Ok
returns-in-Ok c =
    let e : mode_asked c.args.words.now c.args.tables.now ≡ Ok c.in-Ok.mode = asked-made c.args.words.now c.args.tables.now c.in-Ok.mode
    c.in-Ok.ensures.text c.in-Ok.ensures.no_text in
    rw e c.format_by.ensures

pub returns-in-Err : goal.returns-in-Err
returns-in-Err c = rw c.status_of.ensures (refused-ends c.args.words.now c.args.tables.now c.args.input.now c.args.output.now c.in-Err.error
    c.in-Err.ensures.text c.in-Err.ensures.no_text)
