use Rattle.std.proofs.Common.{◌≡◌, length, true, false, arith}
use Rattle.std.proofs.lemmas.Bool.Decides.{nat_tests}
use Rattle.icu_decimal.specs.Decimal.{strategy_of}
use Rattle.icu_decimal_options.specs.Grouping.{is_grouped}
use Rattle.icu_decimal.proofs.EventSteps.{grouped-whole, grouped-cut}
use Rattle.icu_decimal.proofs.formatted_decimal.FormattedUnsignedDecimal.write_grouped.Goals as goal

pub returns-then-not-is_grouped : goal.returns-then-not-is_grouped
returns-then-not-is_grouped g c =
    let f = c.args.self.now.format in
    let asked : is_grouped (length c.args.integer.now) f.symbols.grouping_sizes (strategy_of f.options) ≡ false =
    grind (arith, nat_tests, c.is_grouped.ensures, c.if-not-is_grouped.true, c.self.view_is) in
    rw (grouped-whole f c.args.integer.now asked, ← c.self.view_is) c.write_digits.ensures

pub returns : goal.returns
returns g c =
    let f = c.args.self.now.format in
    let asked : is_grouped (length c.args.integer.now) f.symbols.grouping_sizes (strategy_of f.options) ≡ true =
    grind (arith, nat_tests, c.is_grouped.ensures, c.if-not-is_grouped.false, c.self.view_is) in
    let cut_is = rw (c.from.ensures, c.secondary_size.ensures, c.grouping_separator.ensures, c.symbols-symbols.ensures) at c.write_groups.ensures in
    rw (grouped-cut f c.args.integer.now asked, ← c.self.view_is) cut_is
