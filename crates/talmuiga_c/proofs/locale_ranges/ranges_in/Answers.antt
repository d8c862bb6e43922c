use Rattle.std.proofs.Common.{rules}
use Rattle.talmuiga_c.specs.LocaleRanges.{ranges_loaded}
use Rattle.talmuiga_c.proofs.locale_ranges.ranges_in.Goals as goal

pub returns-in_err-tables : goal.returns-in_err-tables
returns-in_err-tables c =
    let reported = c.in_err-tables.ensures.refused (ranges_loaded c.args.settings.now) in
    search (rules, reported, c.from_residual.ensures)

pub returns : goal.returns
returns c = rw c.in_ok-tables.ensures.tables c.ranges_of.ensures
