use Rattle.std.proofs.Common.{◌≡◌, map, drop}
use Rattle.serde_json.specs.View.{view}
use Rattle.icu_range_tables.specs.PluralRanges.{names_lent, spelled_range_in}
use Rattle.icu_range_tables.proofs.plural_ranges.spelled_ranges_in.Given as goal
use Rattle.icu_table_entries.proofs.Lists.{with_front}
use Rattle.icu_table_entries.specs.Reading.{entries_at}
use Rattle.icu_table_entries.specs.declared.error.Key.TheVariants.{Ranges}

-- what is read and what is left make all triples
abbrev pub invariant-loop-index : goal.invariant-loop-index
invariant-loop-index l =
    with_front (map names_lent l.found.items) (entries_at (λ position. spelled_range_in) Ranges l.index (map view (drop l.index l.values)))
    ≡ entries_at (λ position. spelled_range_in) Ranges 0 (map view l.values)
