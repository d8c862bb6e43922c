use Rattle.std.proofs.Common.{inr, refl}
use Rattle.decimal_lines.proofs.OneText.{decimal_read-decimal, decimal_read-nothing, decimal_read-past}
use Rattle.decimal_lines.proofs.single_text.read_decimal.Goals as goal

pub returns-in-Ok-clause-ok : goal.returns-in-Ok-clause-ok
returns-in-Ok-clause-ok c =
    let d = c.in-Ok.decimal in
    let told = c.in-Ok.ensures in
    decimal_read-decimal c.args.text.now d.sign d.absolute told.reads (λ past. cc (told.limit.1 past))

pub returns-in-Err-Syntax-clause-refused : goal.returns-in-Err-Syntax-clause-refused
returns-in-Err-Syntax-clause-refused c =
    let told = rw c.in-Err-Syntax.field-0-is at c.in-Err-Syntax.ensures.syntax in
    inr (decimal_read-nothing c.args.text.now (told.0 refl))

pub returns-in-Err-Limit-clause-refused : goal.returns-in-Err-Limit-clause-refused
returns-in-Err-Limit-clause-refused c =
    let told = rw c.in-Err-Limit.field-0-is at c.in-Err-Limit.ensures.limit in
    inr (decimal_read-past c.args.text.now (told.0 refl))
