use Rattle.icu_decimal_interface.proofs.ShownOnce.{shows_compact}
use Rattle.icu_decimal_interface.proofs.abstract_formatter.CompactDecimalFormatterAbstractFormatter.with_shown.Goals as goal

pub returns-clause-used : goal.returns-clause-used
returns-clause-used g c = (_, shows_compact _ _ c.in_ok-number.number c.in_ok-number.ensures.nearest, c.use_shown.ensures)
