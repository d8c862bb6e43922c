use Rattle.std.proofs.Common.{sym, ap, ◌∙◌}
use Rattle.number_skeleton.specs.Tokens.{skeleton_of}
use Rattle.talmuiga_c.specs.Skeletons.{numbered_fault}
use Rattle.talmuiga_c.proofs.Reading.{read-no_text, read-text}
use Rattle.talmuiga_c.proofs.skeletons.skeleton_asked.Goals as goal

pub returns-in-Err : goal.returns-in-Err
returns-in-Err c = rw (c.not_utf8.ensures, c.valid_up_to.ensures) (sym (read-no_text c.args.bytes.now c.in-Err.ensures.cases.0
    c.in-Err.error.valid_up_to c.in-Err.ensures.cases.1))

pub returns-in-Ok-read_skeleton : goal.returns-in-Ok-read_skeleton
returns-in-Ok-read_skeleton c =
    ap numbered_fault (c.in-Ok-read_skeleton.ensures ∙ ap skeleton_of c.in-Ok.ensures.cases.0)
    ∙ sym (read-text c.args.bytes.now c.in-Ok.ensures.cases.1)

pub returns-in-Err-read_skeleton : goal.returns-in-Err-read_skeleton
returns-in-Err-read_skeleton c =
    rw c.fault_of.ensures (ap numbered_fault (c.in-Err-read_skeleton.ensures ∙ ap skeleton_of c.in-Ok.ensures.cases.0)
    ∙ sym (read-text c.args.bytes.now c.in-Ok.ensures.cases.1))
