use Rattle.std.proofs.Common.{refl}
use Rattle.icu_decimal_data.proofs.PackedTables.{backend_is, table_again}
use Rattle.icu_decimal_data.proofs.laws.tables_are_read_again.Goals as goal

pub returns : goal.returns
returns g c = λ t h.
    let again = table_again g.P.PatternBackend.accepted (backend_is g.P.PatternBackend.accepted g.met.P.PatternBackend.fits g.met.P.PatternBackend.opens) t h in
    let step = again.0 in
    (rw step refl, again.1)
