use Rattle.std.proofs.Common.{◌≡◌, sym}
use Rattle.std.specs.Prelude.{codes}
use Rattle.decimal_lines.proofs.Answering.{appended}
use Rattle.decimal_lines.specs.declared.single_text.TextError.TheVariants.{NotDecimal, Overflow, TooManyDigits}
use Rattle.talmuiga_c.specs.Answers.{form_result}
use Rattle.talmuiga_c.proofs.Answered.{answer-refused, answer-shown}
use Rattle.talmuiga_c.proofs.form_lines.push_answer.Goals as goal

pub returns-in-Ok : goal.returns-in-Ok
returns-in-Ok c = answer-shown c.args.form.now c.args.text.now _ _ c.in-Ok.ensures.ok

pub returns-in-Err-NotDecimal : goal.returns-in-Err-NotDecimal
returns-in-Err-NotDecimal c =
    let told = rw c.in-Err-NotDecimal.field-0-is at c.in-Err-NotDecimal.ensures in
    let e : form_result c.args.form.now c.args.text.now ≡ codes "error: not a decimal" =
    answer-refused c.args.form.now c.args.text.now NotDecimal (λ same. absurd cc) told.refused in
    rw (e, sym (told.unchanged (λ same. absurd cc))) (appended c.extend_from_slice.result _ _ (codes "error: not a decimal") c.extend_from_slice.ensures.items)

pub returns-in-Err-TooManyDigits : goal.returns-in-Err-TooManyDigits
returns-in-Err-TooManyDigits c =
    let told = rw c.in-Err-TooManyDigits.field-0-is at c.in-Err-TooManyDigits.ensures in
    let e : form_result c.args.form.now c.args.text.now ≡ codes "error: too many digits" =
    answer-refused c.args.form.now c.args.text.now TooManyDigits (λ same. absurd cc) told.refused in
    rw (e, sym (told.unchanged (λ same. absurd cc))) (appended c.extend_from_slice-in-Err-TooManyDigits.result _ _ (codes "error: too many digits")
    c.extend_from_slice-in-Err-TooManyDigits.ensures.items)

pub returns-in-Err-Overflow : goal.returns-in-Err-Overflow
returns-in-Err-Overflow c =
    let told = rw c.in-Err-Overflow.field-0-is at c.in-Err-Overflow.ensures in
    let e : form_result c.args.form.now c.args.text.now ≡ codes "error: overflow" =
    answer-refused c.args.form.now c.args.text.now Overflow (λ same. absurd cc) told.refused in
    rw (e, sym (told.unchanged (λ same. absurd cc))) (appended c.extend_from_slice-in-Err-Overflow.result _ _ (codes "error: overflow")
    c.extend_from_slice-in-Err-Overflow.ensures.items)
