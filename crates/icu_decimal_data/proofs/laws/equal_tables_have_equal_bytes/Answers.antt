use Rattle.std.proofs.Common.{◌∙◌, sym, ap, refl}
use Rattle.icu_decimal_data.specs.TableBytes.{table_bytes}
use Rattle.icu_decimal_data.specs.TableReading.{table_in}
use Rattle.icu_decimal_data.proofs.PackedTables.{backend_is, is_only}
use Rattle.icu_decimal_data.proofs.SameEntries.{same_table-Decides}
use Rattle.icu_decimal_data.proofs.laws.equal_tables_have_equal_bytes.Goals as goal

pub returns : goal.returns
returns g c = λ a b ha hb.
    let backend = backend_is g.P.PatternBackend.accepted g.met.P.PatternBackend.fits g.met.P.PatternBackend.opens in
    let read_a = is_only g.P.PatternBackend.accepted (table_bytes a) a backend ha refl in
    let read_b = is_only g.P.PatternBackend.accepted (table_bytes b) b backend hb refl in
    (λ h. ap table_bytes ((same_table-Decides a b).0 h), λ e. (same_table-Decides a b).1 (sym read_a ∙ ap table_in e ∙ read_b))
