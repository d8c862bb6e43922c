use Rattle.std.proofs.Common.{◌∙◌, ap}
use Rattle.std.proofs.lemmas.Result.{IfOk-weaker}
use Rattle.scaled_units.proofs.Spelled.{spelled_one, spelled_size, spelled_some, spelled_limit}
use Rattle.scaled_units.proofs.spelling.decimal_of.Goals as goal

pub returns-in-Ok-clause-limit : goal.returns-in-Ok-clause-limit
returns-in-Ok-clause-limit c = λ h.
    let text = rw c.split_at.ensures.back at c.in-Ok.ensures in
    spelled_limit c.args.digits.now c.args.scale c.zeros_in_front-zeros.result c.requires.digits c.requires.some c.zeros_in_front-zeros.ensures.within
    c.deref.result.now (c.deref.ensures ∙ text) c.zeros_in_front-zeros.ensures.zeros c.requires.small c.zeros_in_front-zeros.ensures.stops
    (c.try_from_utf8.ensures.limit.0 h)

pub returns-in-Ok-clause-no_syntax : goal.returns-in-Ok-clause-no_syntax
returns-in-Ok-clause-no_syntax c = λ h.
    let text = rw c.split_at.ensures.back at c.in-Ok.ensures in
    spelled_some c.args.digits.now c.args.scale c.zeros_in_front-zeros.result c.requires.digits c.requires.some c.zeros_in_front-zeros.ensures.within
    c.deref.result.now (c.deref.ensures ∙ text) (c.try_from_utf8.ensures.syntax.0 h)

pub returns-in-Ok-clause-size : goal.returns-in-Ok-clause-size
returns-in-Ok-clause-size c =
    let text = rw c.split_at.ensures.back at c.in-Ok.ensures in
    IfOk-weaker c.try_from_utf8.result _ _
    (λ d reads. spelled_size c.args.digits.now c.args.scale c.zeros_in_front-zeros.result c.requires.digits c.requires.some
    c.zeros_in_front-zeros.ensures.within c.deref.result.now (c.deref.ensures ∙ text) c.zeros_in_front-zeros.ensures.zeros d.sign d.absolute reads)
    c.try_from_utf8.ensures.reads

pub returns-in-Ok-clause-scale : goal.returns-in-Ok-clause-scale
returns-in-Ok-clause-scale c =
    let text = rw c.split_at.ensures.back at c.in-Ok.ensures in
    IfOk-weaker c.try_from_utf8.result _ _
    (λ d reads. ap (λ u. u.scale) (spelled_one c.args.digits.now c.args.scale c.zeros_in_front-zeros.result c.requires.digits c.requires.some
    c.zeros_in_front-zeros.ensures.within c.deref.result.now (c.deref.ensures ∙ text) d.sign d.absolute reads))
    c.try_from_utf8.ensures.reads
