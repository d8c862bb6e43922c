use Rattle.std.proofs.Common.{◌≡◌, map, drop, None}
use Rattle.serde_json.specs.View.{view}
use Rattle.icu_tables.specs.Compact.{Rise, listed_entries_in}
use Rattle.icu_table_entries.proofs.Lists.{with_front}
use Rattle.icu_tables.proofs.Maps.{last_type}
use Rattle.icu_tables.proofs.compact.listed_entries_in.Given as goal

abbrev pub invariant-loop-index : goal.invariant-loop-index
invariant-loop-index l =
    (with_front l.found.items (listed_entries_in l.before (map view (drop l.index l.values))) ≡ listed_entries_in None (map view l.values))
    × Rise None l.found.items
    × (l.before ≡ last_type None l.found.items)
