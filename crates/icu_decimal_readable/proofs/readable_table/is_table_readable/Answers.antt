use Rattle.std.proofs.Common.{sym}
use Rattle.icu_decimal_symbols.specs.LentTexts.{lent_texts}
use Rattle.icu_decimal_readable.proofs.ReadableTables.{readable_table_of, distinct_throughout, distinct_with}
use Rattle.icu_decimal_readable.proofs.readable_table.is_table_readable.Goals as goal

pub returns : goal.returns
returns c =
    let texts = c.args.symbols.now.strings in
    let given = lent_texts c.from.result in
    let table = c.args.table.now in (
      λ e. readable_table_of texts c.args.digits.now table (c.all_pass.ensures.0 c.if-not-all_pass.false)
          (distinct_with texts given table c.from.ensures.0 (c.all_pass-2.ensures.0 e)),
      λ h. c.all_pass-2.ensures.1 (distinct_with given texts table (sym c.from.ensures.0) (distinct_throughout texts c.args.digits.now table h)),
    )
