use Rattle.std.proofs.Common.{◌≡◌, ◌++◌, drop, map}
use Rattle.icu_decimal_data.specs.Kept.{as_table}
use Rattle.icu_dimension_data.specs.LentTexts.{lent_texts}
use Rattle.icu_dimension_data.specs.SignedTables.{entry_for}
use Rattle.icu_dimension_data.proofs.RisingRows.{GoesOn}
use Rattle.icu_dimension_data.proofs.signed_tables.entries_for.Given as goal

-- what the map has and what is left make all entries; what is left rises behind the keys of the map
abbrev pub invariant-loop-index : goal.invariant-loop-index
invariant-loop-index l =
    (as_table l.entries.entries ++ map (entry_for l.digits (lent_texts l.texts) l.sign) (drop l.index l.rows)
    ≡ map (entry_for l.digits (lent_texts l.texts) l.sign) l.rows)
    × GoesOn l.entries.entries (drop l.index l.rows)
