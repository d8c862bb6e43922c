use Rattle.std.proofs.Common.{◌∙◌}
use Rattle.icu_dimension_data.proofs.SignedTables.{tables_have_exponents}
use Rattle.icu_dimension_data.specs.LentTexts.{lent_texts}
use Rattle.icu_dimension_data.proofs.compact_rows.CompactRows.resolve.Goals as goal

pub returns-clause-exponents : goal.returns-clause-exponents
returns-clause-exponents c =
    tables_have_exponents c.args.digits.now (lent_texts c.args.texts.now) c.args.self.now c.in_ok-none.none c.in_ok-minus.minus c.in_ok-plus.plus
    (rw (c.deref.ensures.value ∙ c.self.view_is) at c.in_ok-none.ensures) (rw (c.deref-2.ensures.value ∙ c.self.view_is) at c.in_ok-minus.ensures)
    (rw (c.deref-3.ensures.value ∙ c.self.view_is) at c.in_ok-plus.ensures)
