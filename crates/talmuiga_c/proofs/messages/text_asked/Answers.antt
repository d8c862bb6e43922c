use Rattle.std.proofs.Common.{sym}
use Rattle.talmuiga_c.proofs.Asking.{asked-no_text, asked-text}
use Rattle.talmuiga_c.proofs.messages.text_asked.Goals as goal

pub returns-in-Ok : goal.returns-in-Ok
returns-in-Ok c = rw c.in-Ok.ensures.cases.0 (sym (asked-text c.args.bytes.now c.in-Ok.ensures.cases.1))

pub returns-in-Err : goal.returns-in-Err
returns-in-Err c = rw (c.not_utf8.ensures, c.valid_up_to.ensures) (sym (asked-no_text c.args.bytes.now c.in-Err.ensures.cases.0
    c.in-Err.error.valid_up_to c.in-Err.ensures.cases.1))
