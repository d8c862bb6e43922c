use Rattle.std.proofs.Common.{◌≡◌, arith, refl}
use Rattle.std.specs.Prelude.{codes}
use Rattle.std.proofs.lemmas.Grind.{common_steps}
use Rattle.decimal_lines.specs.LineResults.{text_result, text_by}
use Rattle.decimal_lines.proofs.Answering.{text_result-nothing, text_result-past, text_result-decimal, appended}
use Rattle.decimal_lines.proofs.line.push_result.Goals as goal

pub returns-in-Ok : goal.returns-in-Ok
returns-in-Ok c =
    let mode = c.args.mode.now in
    let d = c.in-Ok.decimal in
    let told = c.in-Ok.ensures in
    let e : text_result mode c.args.text.now ≡ text_by mode d.sign d.absolute =
    text_result-decimal mode c.args.text.now d.sign d.absolute told.reads (λ past. cc (told.limit.1 past)) in
    rw e c.push_decimal.ensures

pub returns-in-Err-Syntax : goal.returns-in-Err-Syntax
returns-in-Err-Syntax c =
    let mode = c.args.mode.now in
    let told = rw c.in-Err-Syntax.field-0-is at c.in-Err-Syntax.ensures.syntax in
    let e : text_result mode c.args.text.now ≡ codes "error: not a decimal" = text_result-nothing mode c.args.text.now (told.0 refl) in
    grind (arith, common_steps)

pub returns-in-Err-Limit : goal.returns-in-Err-Limit
returns-in-Err-Limit c =
    let mode = c.args.mode.now in
    let told = rw c.in-Err-Limit.field-0-is at c.in-Err-Limit.ensures.limit in
    let e : text_result mode c.args.text.now ≡ codes "error: too many digits" = text_result-past mode c.args.text.now (told.0 refl) in
    rw e (appended c.extend_from_slice-in-Err-Limit.result _ c.args.out.now.items (codes "error: too many digits")
    c.extend_from_slice-in-Err-Limit.ensures.items)
