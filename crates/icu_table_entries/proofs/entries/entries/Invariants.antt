use Rattle.std.proofs.Common.{◌≡◌, map, drop}
use Rattle.serde_json.specs.View.{view}
use Rattle.icu_table_entries.specs.Reading.{entries_at}
use Rattle.icu_table_entries.proofs.Lists.{with_front}
use Rattle.icu_table_entries.proofs.entries.entries.Given as goal

abbrev pub invariant-loop-index : goal.invariant-loop-index
invariant-loop-index g l = with_front l.found.items (entries_at g.T.EntryKind.read_at l.key l.index (map view (drop l.index l.values)))
    ≡ entries_at g.T.EntryKind.read_at l.key 0 (map view l.values)
