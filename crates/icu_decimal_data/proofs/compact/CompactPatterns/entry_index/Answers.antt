use Rattle.std.proofs.Common.{◌≡◌, arith, sym, to_z, of_z, w32}
use Rattle.std.proofs.lemmas.Int.{ints}
use Rattle.fixed_decimal.specs.Size.{place}
use Rattle.icu_decimal_data.specs.CompactTable.{reached}
use Rattle.icu_decimal_data.specs.TableReading.{table_in}
use Rattle.icu_decimal_data.proofs.EntryPlaces.{entry_none_at, entry_some_at, next_none_at, next_some_at}
use Rattle.icu_decimal_data.proofs.TableCalls.{is_compact, reached_is}
use Rattle.icu_decimal_data.proofs.compact.CompactPatterns.entry_index.Goals as goal

pub returns-in-0-clause-entry : goal.returns-in-0-clause-entry
returns-in-0-clause-entry g c =
    let bytes = c.self.inside.bytes.items in
    let m : to_z w32 (of_z w32 c.args.magnitude) ≡ c.args.magnitude = omega (arith, ints) in
    let n : c.reached.result ≡ reached (table_in bytes) (place c.args.magnitude) =
    reached_is bytes (place c.args.magnitude) c.reached.result (rw (m, c.deref.ensures.value) at c.reached.ensures) in
    rw (← c.self.view_is) ((entry_none_at (table_in bytes) (place c.args.magnitude) c.reached.result
    (is_compact g.P.PatternBackend.accepted bytes c.self.invariant) n c.in-0.is))

pub returns-in_default-clause-entry : goal.returns-in_default-clause-entry
returns-in_default-clause-entry g c =
    let bytes = c.self.inside.bytes.items in
    let m : to_z w32 (of_z w32 c.args.magnitude) ≡ c.args.magnitude = omega (arith, ints) in
    let n : c.reached.result ≡ reached (table_in bytes) (place c.args.magnitude) =
    reached_is bytes (place c.args.magnitude) c.reached.result (rw (m, c.deref.ensures.value) at c.reached.ensures) in
    rw (← c.self.view_is) ((entry_some_at (table_in bytes) (place c.args.magnitude) c.reached.result
    (is_compact g.P.PatternBackend.accepted bytes c.self.invariant) n (omega arith)))

pub returns-in-0-clause-next : goal.returns-in-0-clause-next
returns-in-0-clause-next g c =
    let bytes = c.self.inside.bytes.items in
    let m : to_z w32 (of_z w32 c.args.magnitude) ≡ c.args.magnitude = omega (arith, ints) in
    let n : c.reached.result ≡ reached (table_in bytes) (place c.args.magnitude) =
    reached_is bytes (place c.args.magnitude) c.reached.result (rw (m, c.deref.ensures.value) at c.reached.ensures) in
    rw (← c.self.view_is) (sym (next_none_at (table_in bytes) (place c.args.magnitude) c.reached.result
    (is_compact g.P.PatternBackend.accepted bytes c.self.invariant) n c.in-0.is))

pub returns-in_default-clause-next : goal.returns-in_default-clause-next
returns-in_default-clause-next g c =
    let bytes = c.self.inside.bytes.items in
    let m : to_z w32 (of_z w32 c.args.magnitude) ≡ c.args.magnitude = omega (arith, ints) in
    let n : c.reached.result ≡ reached (table_in bytes) (place c.args.magnitude) =
    reached_is bytes (place c.args.magnitude) c.reached.result (rw (m, c.deref.ensures.value) at c.reached.ensures) in
    rw (← c.self.view_is) (sym (next_some_at (table_in bytes) (place c.args.magnitude) c.reached.result
    (is_compact g.P.PatternBackend.accepted bytes c.self.invariant) n (omega arith)))
