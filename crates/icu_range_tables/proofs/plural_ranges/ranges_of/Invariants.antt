use Rattle.std.proofs.Common.{◌≡◌, map, drop}
use Rattle.icu_range_tables.specs.PluralRanges.{names_lent, ranges_of}
use Rattle.icu_range_tables.proofs.plural_ranges.ranges_of.Given as goal
use Rattle.icu_table_entries.proofs.Lists.{with_front}

-- what is read and what is left make all triples
abbrev pub invariant-loop-index : goal.invariant-loop-index
invariant-loop-index l =
    with_front l.found.items (ranges_of l.position l.index (map names_lent (drop l.index l.spelled))) ≡ ranges_of l.position 0 (map names_lent l.spelled)
