use Rattle.std.proofs.Common.{rules, refl}
use Rattle.fixed_decimal.specs.SignDisplay.{is_negative}
use Rattle.number_forms.proofs.NumbersShown.{cut-least, cut-refused, cut-shown}
use Rattle.number_forms.proofs.rounded.round_half_even.Goals as goal

pub returns-in_err-cut-clause-refused : goal.returns-in_err-cut-clause-refused
returns-in_err-cut-clause-refused c =
    let told = cut-refused c.args.digits (is_negative c.args.decimal.now.sign) c.args.decimal.now.absolute _ c.in_err-cut.ensures.refused in
    search (rules, told, c.from_residual.ensures)

pub returns-then-has_no_zeros_before-clause-ok : goal.returns-then-has_no_zeros_before-clause-ok
returns-then-has_no_zeros_before-clause-ok c =
    let cut = c.in_ok-cut.ensures.ok in
    let y = c.cut.new.decimal.absolute in
    cut-shown c.args.digits (is_negative c.args.decimal.now.sign) c.args.decimal.now.absolute y y cut cut.valid refl
    (c.if-has_no_zeros_before.ensures.none.0 refl)
    (cut-least c.args.digits (is_negative c.args.decimal.now.sign) c.args.decimal.now.absolute y cut)

pub returns-clause-ok : goal.returns-clause-ok
returns-clause-ok c =
    cut-shown c.args.digits (is_negative c.args.decimal.now.sign) c.args.decimal.now.absolute c.cut.new.decimal.absolute
    c.in_ok-decimal.field-0.absolute c.in_ok-cut.ensures.ok c.in_ok-decimal.ensures.valid c.in_ok-decimal.ensures.size c.in_ok-decimal.ensures.count
    c.in_ok-decimal.ensures.scale
