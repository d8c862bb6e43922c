use Rattle.std.proofs.Common.{◌≡◌, None, Err, inr, refl, sym, ◌∙◌, arith, rules}
use Rattle.std.proofs.lemmas.Str.Pattern.{split_parts}
use Rattle.locnum_options.specs.Fields.{fields_named, ranges_named}
use Rattle.locnum_options.specs.Texts.{parts_of}
use Rattle.locnum_options.proofs.Ranges.{bad-here, bad-last, onto_ranges-none, range-here, range-last}
use Rattle.locnum_options.proofs.fields.fields_named.Goals as goal

pub loop-part-init : goal.loop-part-init
unfolding fields_named
loop-part-init c = (rw c.new-fields.ensures.items (sym (onto_ranges-none (ranges_named (parts_of 44 c.args.text.now)))), search rules)

pub returns-in_err-range_given : goal.returns-in_err-range_given
returns-in_err-range_given c =
    let l = c.loop-part in
    let cut = rw c.in-Some.is at (split_parts 44 l.rest.now c.split_once.result c.split_once.ensures.cases (omega arith)) in
    let bad = bad-here l.fields.items c.in-Some.part.now cut.1 l.rest.now c.in-Some.behind.now c.in_err-range_given.field-0.0 cut.0
    (sym c.range_given.ensures ∙ c.in_err-range_given.was) in
    let none : fields_named c.args.text.now ≡ None = l.invariant.0 ∙ bad.0 in
    let gone : c.from_residual.result ≡ Err c.in_err-range_given.field-0.0 = grind arith in
    rw (gone, bad.1, none) (inr refl)

pub loop-part-preserved : goal.loop-part-preserved
loop-part-preserved c =
    let l = c.loop-part in
    let cut = rw c.in-Some.is at (split_parts 44 l.rest.now c.split_once.result c.split_once.ensures.cases (omega arith)) in
    let more = range-here l.fields.items c.in-Some.part.now cut.1 l.rest.now c.in-Some.behind.now c.in_ok-range_given.field-0 cut.0
    (sym c.range_given.ensures ∙ c.in_ok-range_given.was) in
    (rw c.in_ok-push.ensures.items (l.invariant.0 ∙ more), search rules)

pub returns-in_err-range_given-2 : goal.returns-in_err-range_given-2
returns-in_err-range_given-2 c =
    let l = c.loop-part in
    let lacks = rw c.in_default.is at (split_parts 44 l.rest.now c.split_once.result c.split_once.ensures.cases (omega arith)) in
    let bad = bad-last l.fields.items l.rest.now lacks c.in_err-range_given-2.field-0.0 (sym c.range_given-2.ensures ∙ c.in_err-range_given-2.was) in
    let none : fields_named c.args.text.now ≡ None = l.invariant.0 ∙ bad.0 in
    let gone : c.from_residual-in_err-range_given-2.result ≡ Err c.in_err-range_given-2.field-0.0 = grind arith in
    rw (gone, bad.1, none) (inr refl)

pub returns : goal.returns
returns c =
    let l = c.loop-part in
    let lacks = rw c.in_default.is at (split_parts 44 l.rest.now c.split_once.result c.split_once.ensures.cases (omega arith)) in
    let last = range-last l.fields.items l.rest.now lacks c.in_ok-range_given-2.field-0 (sym c.range_given-2.ensures ∙ c.in_ok-range_given-2.was) in
    rw (l.invariant.0 ∙ last, c.in_ok-push-2.ensures.items) refl
