use Rattle.icu_decimal_data.specs.Kept.{as_table, kept, at}
use Rattle.icu_decimal_data.specs.KeptSince.{kept_since}
use Rattle.icu_decimal_data.proofs.TableWriting.{IsWritten}
use Rattle.icu_decimal_data.proofs.table_writing.records_and_pool.Given as goal

abbrev pub invariant-loop-log10_type : goal.invariant-loop-log10_type
invariant-loop-log10_type g l = IsWritten g.P.PatternBackend.accepted (kept_since (at l.zero_magnitude) (at l.last) (as_table l.log10_type-iterator))
    (kept (at l.zero_magnitude) (as_table l.map.entries)) l.records.items l.pool.items
