-- What views of a table show.
use Rattle.std.specs.Prelude.{List}
use Rattle.icu_decimal_data.specs.CompactTable.{TableEntry}
use Rattle.icu_decimal_data.specs.TableReading.{table_in, entry_of}
use Rattle.icu_decimal_data.specs.declared.compact_view.CompactView.{CompactView}
use Rattle.icu_decimal_data.specs.declared.compact_view.EntryView.{EntryView}

-- the table in its bytes
abbrev pub viewed_table : {P : Type 0} {backend equality : _} → CompactView P backend equality → List TableEntry
viewed_table v = table_in v.bytes.now

-- the entry in its bytes
abbrev pub viewed_entry : {P : Type 0} {backend equality : _} → EntryView P backend equality → TableEntry
viewed_entry v = entry_of v.bytes.now v.index
