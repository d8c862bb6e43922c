use Rattle.std.proofs.Common.{◌∙◌}
use Rattle.icu_dimension_tables.proofs.Repeated.{repeats_by_texts}
use Rattle.icu_dimension_tables.proofs.currency_compact.repeats.Goals as goal

pub returns-then-before-entry : goal.returns-then-before-entry
returns-then-before-entry c =
    c.equal_without_explicit_one.ensures
    ∙ repeats_by_texts c.args.before.now c.args.entry.now c.elements-texts.result c.elements.result c.elements-texts.ensures c.elements.ensures
    c.if-before-entry.true
