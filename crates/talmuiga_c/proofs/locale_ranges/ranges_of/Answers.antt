use Rattle.std.proofs.Common.{rules}
use Rattle.number_forms.specs.Making.{started}
use Rattle.talmuiga_c.specs.LocaleRanges.{categories_loaded}
use Rattle.talmuiga_c.specs.Patterns.{pattern_loaded}
use Rattle.talmuiga_c.proofs.Patterned.{unpatterned-stops}
use Rattle.talmuiga_c.proofs.locale_ranges.ranges_of.Goals as goal

pub returns-in_err-pattern : goal.returns-in_err-pattern
returns-in_err-pattern c =
    let settings = c.args.settings.now in let tables = c.args.tables.now in
    let stops = unpatterned-stops c.in_err-pattern.field-0.0 (categories_loaded settings tables) (started (pattern_loaded settings tables))
    c.in_err-pattern.ensures in
    search (rules, stops, c.from_residual.ensures)
