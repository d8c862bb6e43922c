use Rattle.std.proofs.Common.{sym}
use Rattle.icu_tables.proofs.ForLocale.{OnOk-map}
use Rattle.icu_dimension_tables.proofs.ForLocale.{adds_digits, adds_percents, adds_units, adds_money, adds_symbols, adds_decimals, adds_compact, adds_numbers}
use Rattle.icu_dimension_tables.proofs.for_locale.AllFoundKept.add.Goals as goal

pub returns-in-currency_digits : goal.returns-in-currency_digits
returns-in-currency_digits c =
    rw (← c.self.view_is) (OnOk-map c.once.result (adds_digits c.args.locale.now c.args.reader.now _
    c.once.new.reader c.args.name.now _ c.in-currency_digits.is) c.once.ensures)

pub returns-in-percents : goal.returns-in-percents
returns-in-percents c =
    rw (← c.self.view_is) (OnOk-map c.once-in-percents.result (adds_percents c.args.locale.now c.args.reader.now _
    c.once-in-percents.new.reader c.args.name.now _ c.in-percents.is) c.once-in-percents.ensures)

pub returns-in-units : goal.returns-in-units
returns-in-units c =
    rw (← c.self.view_is) (OnOk-map c.once-in-units.result (adds_units c.args.locale.now c.args.reader.now _
    c.once-in-units.new.reader c.args.name.now _ c.in-units.is) c.once-in-units.ensures)

pub returns-in-currencies : goal.returns-in-currencies
returns-in-currencies c =
    rw (← c.self.view_is) (OnOk-map c.once-in-currencies.result (adds_money c.args.locale.now c.args.reader.now _
    c.once-in-currencies.new.reader c.args.name.now _ c.in-currencies.is) c.once-in-currencies.ensures)

pub returns-in-currency_symbols : goal.returns-in-currency_symbols
returns-in-currency_symbols c =
    rw (← c.self.view_is) (OnOk-map c.once-in-currency_symbols.result (adds_symbols c.args.locale.now c.args.reader.now _
    c.once-in-currency_symbols.new.reader c.args.name.now _ c.in-currency_symbols.is) c.once-in-currency_symbols.ensures)

pub returns-in-currency_decimals : goal.returns-in-currency_decimals
returns-in-currency_decimals c =
    rw (← c.self.view_is) (OnOk-map c.once-in-currency_decimals.result (adds_decimals c.args.locale.now c.args.reader.now _
    c.once-in-currency_decimals.new.reader c.args.name.now _ c.in-currency_decimals.is) c.once-in-currency_decimals.ensures)

pub returns-in-currency_compact : goal.returns-in-currency_compact
returns-in-currency_compact c =
    rw (← c.self.view_is) (OnOk-map c.once-in-currency_compact.result (adds_compact c.args.locale.now c.args.reader.now _
    c.once-in-currency_compact.new.reader c.args.name.now _ c.in-currency_compact.is) c.once-in-currency_compact.ensures)

pub returns-in_default : goal.returns-in_default
returns-in_default c =
    let n = c.in_default in
    rw (← c.self.view_is) (OnOk-map c.add.result (adds_numbers c.args.locale.now c.args.name.now c.args.reader.now c.add.new.reader _ c.add.new.self
    (λ e. n.not-currency_digits (sym e)) (λ e. n.not-percents (sym e)) (λ e. n.not-units (sym e))
    (λ e. n.not-currencies (sym e)) (λ e. n.not-currency_symbols (sym e)) (λ e. n.not-currency_decimals (sym e))
    (λ e. n.not-currency_compact (sym e))) c.add.ensures)
