use Rattle.std.proofs.Common.{rules, ◌≡◌, None}
use Rattle.icu_decimal_data.specs.CompactFaults.{fault_of}
use Rattle.icu_decimal_data.specs.Kept.{as_table, kept, at}
use Rattle.icu_decimal_data.proofs.PackedTables.{backend_is, is_only}
use Rattle.icu_decimal_data.proofs.TableCalls.{written_is_table}
use Rattle.icu_decimal_data.proofs.TableOfMap.{short_kept, packable}
use Rattle.icu_decimal_data.proofs.compact.CompactPatterns.new.Goals as goal

pub table_of-requires : goal.table_of-requires
table_of-requires g c =
    let none : fault_of (at c.args.zero_magnitude) (as_table c.args.patterns.entries) ≡ None = search rules in
    short_kept (at c.args.zero_magnitude) c.args.patterns.entries none

pub invariant_of-result : goal.invariant_of-result
invariant_of-result g c =
    let none : fault_of (at c.args.zero_magnitude) (as_table c.args.patterns.entries) ≡ None = search rules in
    let accepts = g.P.PatternBackend.accepted in
    let made = c.in_ok-bytes.ensures in
    written_is_table accepts c.in_ok-bytes.bytes.items (kept (at c.args.zero_magnitude) (as_table c.args.patterns.entries))
    (backend_is accepts g.met.P.PatternBackend.fits g.met.P.PatternBackend.opens)
    (packable (at c.args.zero_magnitude) c.args.patterns.entries accepts made.sorted made.writable none) made.bytes made.are_bytes

pub returns-clause-kept : goal.returns-clause-kept
returns-clause-kept g c =
    let none : fault_of (at c.args.zero_magnitude) (as_table c.args.patterns.entries) ≡ None = search rules in
    let accepts = g.P.PatternBackend.accepted in
    let made = c.in_ok-bytes.ensures in
    is_only accepts c.in_ok-bytes.bytes.items (kept (at c.args.zero_magnitude) (as_table c.args.patterns.entries))
    (backend_is accepts g.met.P.PatternBackend.fits g.met.P.PatternBackend.opens)
    (packable (at c.args.zero_magnitude) c.args.patterns.entries accepts made.sorted made.writable none) made.bytes
