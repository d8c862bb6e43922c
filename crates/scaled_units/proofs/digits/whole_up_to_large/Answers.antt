use Rattle.std.proofs.Common.{◌≡◌, ◌+◌, ◌*◌, ◌∙◌, ap, sym, take, get_or, min}
use Rattle.std.proofs.lemmas.List.{take_more}
use Rattle.fixed_decimal.specs.Size.{weighed}
use Rattle.scaled_units.proofs.Products.{weighed-push, min_more}
use Rattle.scaled_units.proofs.digits.whole_up_to_large.Goals as goal

pub loop-digit-preserved : goal.loop-digit-preserved
loop-digit-preserved c =
    let xs = c.args.digits.now in
    let i = c.loop-digit.digit-index in
    let d = get_or xs i 0 in
    let more : weighed 0 (take (i + 1) xs) ≡ 10 * weighed 0 (take i xs) + d = ap (weighed 0) (take_more xs i 0 c.loop-digit-test.true)
    ∙ weighed-push (take i xs) d in
    c.min-value.ensures ∙ min_more (weighed 0 (take i xs)) d c.loop-digit.value 10000000000000000000000000000 c.loop-digit.invariant
    ∙ ap (λ n. min n 10000000000000000000000000000) (sym more)
