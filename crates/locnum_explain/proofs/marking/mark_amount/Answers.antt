use Rattle.std.proofs.Common.{◌≡◌, List, ap, sym, ◌∙◌}
use Rattle.std.proofs.lemmas.Result.{IfOk-weaker}
use Rattle.fixed_decimal.specs.declared.signs.Sign.TheVariants.{None as NoSign}
use Rattle.writeable.specs.Events.{Event}
use Rattle.icu_decimal.specs.CompactFormat.{CompactFormat, events_with_exponent}
use Rattle.icu_dimension.specs.CompactMoney.{formatter_of}
use Rattle.icu_dimension.specs.Money.{sign_framed}
use Rattle.icu_dimension_data.specs.Surrounding.{surrounded}
use Rattle.locnum_explain.proofs.Marks.{amount-entered, amount-framed, number-marked}
use Rattle.locnum_explain.proofs.marking.mark_amount.Goals as goal

pub returns-then-has_entry : goal.returns-then-has_entry
returns-then-has_entry c =
    let money = c.args.money.now in
    let d = c.args.decimal.now in
    let told = rw c.for_sign-formatter.ensures at c.in-Ok.ensures in
    let is = number-marked (formatter_of money d.sign) d.absolute c.in-Ok.formatted.value c.value-number.result.now told.value
    c.value-number.ensures NoSign _ _ _ c.in_ok-significand.ensures.0 c.in_ok-significand.ensures.1 c.exponent.ensures in
    let entered = amount-entered money d.sign d.absolute c.in-Ok.formatted.value c.value-number.result.now told.value c.value-number.ensures
    _ c.has_entry.ensures c.if-has_entry.true in
    let by : events_with_exponent c.for_sign-formatter.result.now c.in_ok-significand.significand.sign c.in_ok-significand.significand.absolute
    c.exponent.result
    ≡ events_with_exponent (formatter_of money d.sign) c.in_ok-significand.significand.sign c.in_ok-significand.significand.absolute c.exponent.result =
    ap (λ (k : CompactFormat). events_with_exponent k c.in_ok-significand.significand.sign c.in_ok-significand.significand.absolute c.exponent.result)
    c.for_sign-formatter.ensures in
    IfOk-weaker c.mark_with_exponent.result _ _ (λ text events. events ∙ by ∙ is ∙ sym entered) c.mark_with_exponent.ensures

pub returns : goal.returns
returns c =
    let money = c.args.money.now in
    let d = c.args.decimal.now in
    let told = rw c.for_sign-formatter.ensures at c.in-Ok.ensures in
    let is = number-marked (formatter_of money d.sign) d.absolute c.in-Ok.formatted.value c.value-number.result.now told.value
    c.value-number.ensures NoSign _ _ _ c.in_ok-significand.ensures.0 c.in_ok-significand.ensures.1 c.exponent-2.ensures in
    let framed = amount-framed money d.sign d.absolute c.in-Ok.formatted.value c.value-number.result.now told.value c.value-number.ensures
    _ c.has_entry.ensures c.if-has_entry.false in
    let around : (es : List Event) → surrounded c.for_sign-pattern.result es ≡ sign_framed money.patterns d.sign es =
    λ es. ap (λ p. surrounded p es) c.for_sign-pattern.ensures ∙ ap (λ p. sign_framed p d.sign es) c.patterns.ensures in
    let by : events_with_exponent c.for_sign-formatter.result.now c.in_ok-significand.significand.sign c.in_ok-significand.significand.absolute
    c.exponent-2.result
    ≡ events_with_exponent (formatter_of money d.sign) c.in_ok-significand.significand.sign c.in_ok-significand.significand.absolute c.exponent-2.result =
    ap (λ (k : CompactFormat). events_with_exponent k c.in_ok-significand.significand.sign c.in_ok-significand.significand.absolute c.exponent-2.result)
    c.for_sign-formatter.ensures in
    IfOk-weaker c.mark_framed.result _ _ (λ text events. events ∙ around _ ∙ ap (sign_framed money.patterns d.sign) (by ∙ is) ∙ sym framed)
    c.mark_framed.ensures
