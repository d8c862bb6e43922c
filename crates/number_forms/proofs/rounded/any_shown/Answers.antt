use Rattle.std.proofs.Common.{inr, refl}
use Rattle.fixed_decimal.specs.SignDisplay.{is_negative}
use Rattle.number_forms.proofs.NumbersShown.{shown-is, shown-refused}
use Rattle.number_forms.proofs.rounded.any_shown.Goals as goal

pub returns-in-Ok-clause-ok : goal.returns-in-Ok-clause-ok
returns-in-Ok-clause-ok c =
    let is = c.in-Ok.ensures.shown in
    shown-is c.args.rounding.now (is_negative c.args.decimal.now.sign) c.args.decimal.now.absolute is.0 _ _ is.1

pub returns-in-Err-Overflow-clause-refused : goal.returns-in-Err-Overflow-clause-refused
returns-in-Err-Overflow-clause-refused c =
    inr (shown-refused c.args.rounding.now (is_negative c.args.decimal.now.sign) c.args.decimal.now.absolute
    (c.in-Err-Overflow.ensures.overflow (rw c.in-Err-Overflow.field-0-is refl)))
