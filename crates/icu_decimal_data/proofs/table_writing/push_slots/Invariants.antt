use Rattle.std.proofs.Common.{◌≡◌, ◌++◌, length, drop}
use Rattle.icu_plurals.specs.Elements.{slots}
use Rattle.icu_decimal_data.specs.PackedTable.{ArePatterns, slot_literals}
use Rattle.icu_decimal_data.specs.TableBytes.{slots_bytes}
use Rattle.icu_decimal_data.proofs.table_writing.push_slots.Given as goal

abbrev pub invariant-loop-slot : goal.invariant-loop-slot
invariant-loop-slot g l =
    (l.records.items ++ slots_bytes (length l.pool.items) (drop l.slot (slots l.elements)) ≡ l.initial.records.items
    ++ slots_bytes (length l.initial.pool.items) (slots l.elements))
    × (l.pool.items ++ slot_literals (drop l.slot (slots l.elements)) ≡ l.initial.pool.items ++ slot_literals (slots l.elements))
    × (ArePatterns g.P.PatternBackend.accepted (drop l.slot (slots l.elements)) → ArePatterns g.P.PatternBackend.accepted (slots l.elements))
