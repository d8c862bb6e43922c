use Rattle.std.proofs.Common.{Ok, Err}
use Rattle.talmuiga_c.proofs.Reading.{asks-for, no_locale, no_skeleton}
use Rattle.talmuiga_c.proofs.skeletons.settings_asked.Goals as goal

pub returns-in_default : goal.returns-in_default
returns-in_default c = rw c.no_fault.ensures (no_locale c.args.locale.now c.args.skeleton.now c.in_default.ensures)

pub returns-in-Err : goal.returns-in-Err
returns-in-Err c =
    rw c.skeleton_refused.ensures (no_skeleton c.args.locale.now c.args.skeleton.now c.in-Some.locale c.in-Some.ensures c.in-Err.fault
    c.in-Err.ensures)

pub returns-in-Ok-of_skeleton : goal.returns-in-Ok-of_skeleton
returns-in-Ok-of_skeleton c =
    asks-for c.args.locale.now c.args.skeleton.now c.in-Some.locale c.in-Some.ensures c.in-Ok.skeleton c.in-Ok.ensures
    (Ok c.in-Ok-of_skeleton.settings) c.in-Ok-of_skeleton.ensures

pub returns-in-Err-of_skeleton : goal.returns-in-Err-of_skeleton
returns-in-Err-of_skeleton c =
    rw (c.skeleton_refused-in-Err-of_skeleton.ensures, c.unsupported.ensures) (asks-for c.args.locale.now c.args.skeleton.now c.in-Some.locale c.in-Some.ensures
    c.in-Ok.skeleton c.in-Ok.ensures (Err c.in-Err-of_skeleton.thing) c.in-Err-of_skeleton.ensures)
