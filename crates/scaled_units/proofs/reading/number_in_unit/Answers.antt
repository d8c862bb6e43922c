use Rattle.std.proofs.Common.{refl, inl}
use Rattle.scaled_units.proofs.Results.{IfOk-two}
use Rattle.scaled_units.proofs.reading.number_in_unit.Goals as goal

pub returns-in-Ok-clause-read : goal.returns-in-Ok-clause-read
returns-in-Ok-clause-read c =
    IfOk-two c.decimal_in_unit.result _ _ _ (λ d s u. (c.in-Ok.decimal.absolute, rw s c.in-Ok.ensures.reads, u)) c.decimal_in_unit.ensures.sign
    c.decimal_in_unit.ensures.in_unit

pub returns-in-Err-Syntax-clause-number : goal.returns-in-Err-Syntax-clause-number
returns-in-Err-Syntax-clause-number c =
    let h = rw c.in-Err-Syntax.field-0-is at c.in-Err-Syntax.ensures.syntax in
    (λ e. h.0 refl, λ e. refl)

pub returns-in-Err-Limit-clause-limit : goal.returns-in-Err-Limit-clause-limit
returns-in-Err-Limit-clause-limit c =
    let h = rw c.in-Err-Limit.field-0-is at c.in-Err-Limit.ensures.limit in
    λ e. record { sign = (h.0 refl).0; number = (h.0 refl).1; reads = (h.0 refl).2; past = inl (h.0 refl).3 }
