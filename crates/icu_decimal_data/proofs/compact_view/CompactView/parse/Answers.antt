use Rattle.std.proofs.Common.{rules, arith, IsOk, ◌≤◌, length}
use Rattle.icu_decimal_data.specs.TableReading.{table_step}
use Rattle.icu_decimal_data.proofs.DamageInside.{damage_inside}
use Rattle.icu_decimal_data.proofs.PackedTables.{backend_is, is_found, is_only}
use Rattle.icu_decimal_data.proofs.compact_view.CompactView.parse.Goals as goal

pub returns-clause-found : goal.returns-clause-found
returns-clause-found g c =
    let h : IsOk (table_step g.P.PatternBackend.accepted c.args.bytes.now) = search rules in
    is_found g.P.PatternBackend.accepted c.args.bytes.now (λ i. omega (arith, c.type_inv.bytes i)) h

pub returns-clause-every : goal.returns-clause-every
returns-clause-every g c = λ t h e.
    is_only g.P.PatternBackend.accepted c.args.bytes.now t (backend_is g.P.PatternBackend.accepted g.met.P.PatternBackend.fits g.met.P.PatternBackend.opens) h e

pub returns-in_err-check-clause-inside : goal.returns-in_err-check-clause-inside
returns-in_err-check-clause-inside g c =
    let here : c.in_err-check.field-0.0.byte ≤ length c.args.bytes.now =
    damage_inside g.P.PatternBackend.accepted c.args.bytes.now c.in_err-check.field-0.0.byte (λ i. omega (arith, c.type_inv.bytes i))
    c.in_err-check.ensures in
    search rules
