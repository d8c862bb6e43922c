use Rattle.std.proofs.Common.{refl, ◌∙◌}
use Rattle.fixed_decimal.specs.declared.signs.Sign.TheVariants.{None as no_sign}
use Rattle.icu_dimension.specs.Percent.{hundredfold}
use Rattle.icu_dimension.proofs.PointMoved.{reads_hundredfold, read_is_hundredfold, within_hundredfold, past_hundredfold}
use Rattle.icu_dimension.proofs.hundredfold.percents_of.Goals as goal

pub returns-in-Ok-try_from_utf8-clause-times : goal.returns-in-Ok-try_from_utf8-clause-times
returns-in-Ok-try_from_utf8-clause-times c =
    let text = c.deref.ensures.value ∙ c.in-Ok.ensures.text in
    let is = reads_hundredfold c.deref.result.now c.args.value.now text c.in-Ok.ensures.integer c.in-Ok.ensures.fraction in
    read_is_hundredfold c.deref.result.now c.args.value.now _ _ is c.in-Ok-try_from_utf8.ensures.reads

pub returns-in-Ok-try_from_utf8-clause-within : goal.returns-in-Ok-try_from_utf8-clause-within
returns-in-Ok-try_from_utf8-clause-within c =
    let text = c.deref.ensures.value ∙ c.in-Ok.ensures.text in
    let is = reads_hundredfold c.deref.result.now c.args.value.now text c.in-Ok.ensures.integer c.in-Ok.ensures.fraction in
    let times = read_is_hundredfold c.deref.result.now c.args.value.now _ _ is c.in-Ok-try_from_utf8.ensures.reads in
    within_hundredfold c.args.value.now _ times c.in-Ok-try_from_utf8.ensures.valid

pub returns-in-Err-Limit-clause-limit : goal.returns-in-Err-Limit-clause-limit
returns-in-Err-Limit-clause-limit c = λ distinct.
    let text = c.deref.ensures.value ∙ c.in-Ok.ensures.text in
    let is = reads_hundredfold c.deref.result.now c.args.value.now text c.in-Ok.ensures.integer c.in-Ok.ensures.fraction in
    past_hundredfold c.deref.result.now c.args.value.now is (c.in-Err-Limit.ensures.limit.0 (rw c.in-Err-Limit.field-0-is refl))

pub unreachable-requires : goal.unreachable-requires
unreachable-requires c =
    let text = c.deref.ensures.value ∙ c.in-Ok.ensures.text in
    let is = reads_hundredfold c.deref.result.now c.args.value.now text c.in-Ok.ensures.integer c.in-Ok.ensures.fraction in
    c.in-Err-Syntax.ensures.syntax.0 (rw c.in-Err-Syntax.field-0-is refl) no_sign (hundredfold c.args.value.now) is
