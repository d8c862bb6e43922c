use Rattle.std.proofs.Common.{Global, Vec, ap, option_map}
use Rattle.icu_decimal_data.specs.declared.decimal_symbols.DecimalSymbols.{DecimalSymbols}
use Rattle.icu_tables.specs.Digits.{SystemDigits}
use Rattle.icu_table_entries.specs.Named.{NamedEntry}
use Rattle.icu_tables.proofs.ForLocale.{tables_for}
use Rattle.icu_tables.proofs.for_locale.Found.tables.Goals as goal

pub returns : goal.returns
returns c =
    let some = c.in-Some-Some in
    let symbols = ap (option_map (λ (v : Vec (NamedEntry DecimalSymbols) Global). v.items)) some.is-0 in
    let digits = ap (option_map (λ (v : Vec SystemDigits Global). v.items)) some.is-1 in
    λ locale text ds holds reads. tables_for locale text ds _ some.symbols.items some.digits.items (rw (← c.self.view_is) at holds) reads symbols digits
