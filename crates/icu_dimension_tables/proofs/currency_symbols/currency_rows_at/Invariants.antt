use Rattle.std.proofs.Common.{◌≡◌, drop, map}
use Rattle.serde_json.specs.View.{view}
use Rattle.icu_dimension_tables.specs.CurrencySymbols.{currency_row_at}
use Rattle.icu_dimension_tables.proofs.currency_symbols.currency_rows_at.Given as goal
use Rattle.icu_table_entries.proofs.Lists.{with_front}
use Rattle.icu_table_entries.specs.Reading.{entries_at}
use Rattle.icu_table_entries.specs.declared.error.Key.TheVariants.{Symbols}

abbrev pub invariant-loop-index : goal.invariant-loop-index
invariant-loop-index l = with_front l.found.items (entries_at (λ _. currency_row_at l.position) Symbols l.index (map view (drop l.index l.values)))
    ≡ entries_at (λ _. currency_row_at l.position) Symbols 0 (map view l.values)
