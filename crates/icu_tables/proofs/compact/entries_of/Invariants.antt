use Rattle.std.proofs.Common.{◌≡◌, drop}
use Rattle.icu_decimal_data.specs.Kept.{as_table}
use Rattle.icu_tables.specs.Compact.{entries_of}
use Rattle.icu_table_entries.proofs.Lists.{with_front}
use Rattle.icu_tables.proofs.Maps.{GoesOn}
use Rattle.icu_tables.proofs.compact.entries_of.Given as goal

abbrev pub invariant-loop-index : goal.invariant-loop-index
invariant-loop-index l = (with_front (as_table l.map.entries) (entries_of l.position (drop l.index l.entries)) ≡ entries_of l.position l.entries)
    × GoesOn l.map.entries (drop l.index l.entries)
