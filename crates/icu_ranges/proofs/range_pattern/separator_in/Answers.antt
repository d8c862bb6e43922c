-- A range pattern is cut at its two places; whatever else is found is none.
use Rattle.std.proofs.Common.{refl, sym, ◌∙◌, subst, arith}
use Rattle.icu_ranges.specs.Separator.{Lacks}
use Rattle.icu_ranges.proofs.PatternCuts.{cut_at_start, cut_at_end, is_cut_at_end, cut_has, cuts_make, differs_from, found_empty, found_some, same_as}
use Rattle.icu_ranges.proofs.range_pattern.separator_in.Goals as goal

pub returns-then-ne : goal.returns-then-ne
returns-then-ne c = λ s p.
    let first = cut_at_start c.args.text.now s (c.in-Some.start, c.in-Some.rest) c.in-Some.ensures.cases p in
    differs_from c.ne.result c.in-Some.start.now _ c.if-ne.true c.ne.ensures first.0

pub returns-in_default-split_once : goal.returns-in_default-split_once
returns-in_default-split_once c = λ s p.
    let first = cut_at_start c.args.text.now s (c.in-Some.start, c.in-Some.rest) c.in-Some.ensures.cases p in
    is_cut_at_end c.args.text.now c.in-Some.rest.now s c.in_default-split_once.ensures.cases first.1 p

pub returns-then-ne-2 : goal.returns-then-ne-2
returns-then-ne-2 c = λ s p.
    let first = cut_at_start c.args.text.now s (c.in-Some.start, c.in-Some.rest) c.in-Some.ensures.cases p in
    let second =
    cut_at_end c.args.text.now c.in-Some.rest.now s (c.in-Some-split_once.separator, c.in-Some-split_once.end) c.in-Some-split_once.ensures.cases first.1 p in
    differs_from c.ne-2.result c.in-Some-split_once.end.now _ c.if-ne-2.true c.ne-2.ensures second.1

pub returns-then-is_empty : goal.returns-then-is_empty
returns-then-is_empty c = λ s p.
    let first = cut_at_start c.args.text.now s (c.in-Some.start, c.in-Some.rest) c.in-Some.ensures.cases p in
    let second =
    cut_at_end c.args.text.now c.in-Some.rest.now s (c.in-Some-split_once.separator, c.in-Some-split_once.end) c.in-Some-split_once.ensures.cases first.1 p in
    found_empty c.is_empty.result c.in-Some-split_once.separator.now c.if-is_empty.true c.is_empty.ensures (λ none. p.some (sym second.0 ∙ none))

pub returns-in-Some-split_once-2 : goal.returns-in-Some-split_once-2
returns-in-Some-split_once-2 c = λ s p.
    let first = cut_at_start c.args.text.now s (c.in-Some.start, c.in-Some.rest) c.in-Some.ensures.cases p in
    let second =
    cut_at_end c.args.text.now c.in-Some.rest.now s (c.in-Some-split_once.separator, c.in-Some-split_once.end) c.in-Some-split_once.ensures.cases first.1 p in
    cut_has 125 c.in-Some-split_once.separator.now c.in-Some-split_once-2.field-0 (omega arith) c.in-Some-split_once-2.ensures.cases
    (subst (Lacks 125) (sym second.0) p.no_closing_brace)

pub returns-in-None : goal.returns-in-None
returns-in-None c =
    cuts_make c.args.text.now c.in-Some.rest.now (c.in-Some.start, c.in-Some.rest) (c.in-Some-split_once.separator, c.in-Some-split_once.end)
    c.in-Some.ensures.cases refl c.in-Some-split_once.ensures.cases c.in-None.ensures.cases (same_as c.ne.result _ _ c.if-ne.false c.ne.ensures)
    (same_as c.ne-2.result _ _ c.if-ne-2.false c.ne-2.ensures)
    (found_some c.is_empty.result c.in-Some-split_once.separator.now c.if-is_empty.false c.is_empty.ensures)
