use Rattle.std.proofs.Common.{◌≡◌, refl}
use Rattle.std.specs.Prelude.{codes}
use Rattle.writeable.specs.Events.{text_of}
use Rattle.icu_decimal.specs.CompactFormat.{significand_of, signed_compact_events}
use Rattle.decimal_lines.specs.Compact.{compact_result}
use Rattle.decimal_lines.proofs.Answering.{appended}
use Rattle.decimal_lines.proofs.Displaying.{result-written, result-past}
use Rattle.decimal_lines.proofs.line.push_compact.Goals as goal

pub returns-in-Ok-write_events : goal.returns-in-Ok-write_events
returns-in-Ok-write_events c =
    let format = c.args.formatter.now in
    let d = c.args.decimal.now in
    let f = c.in-Ok.formatted in
    let told = c.in-Ok.ensures in
    let e : compact_result format d.sign d.absolute ≡ text_of (signed_compact_events f) =
    result-written format d.sign d.absolute (significand_of f.value) f.value.exponent (signed_compact_events f) told.nearest
    (λ past. cc (told.overflow.1 past)) in
    rw e c.in-Ok-write_events.ensures

pub returns-in-Err-Overflow : goal.returns-in-Err-Overflow
returns-in-Err-Overflow c =
    let format = c.args.formatter.now in
    let d = c.args.decimal.now in
    let told = rw c.in-Err-Overflow.field-0-is at c.in-Err-Overflow.ensures.overflow in
    let e : compact_result format d.sign d.absolute ≡ codes "error: overflow" = result-past format d.sign d.absolute (told.0 refl) in
    rw e (appended c.extend_from_slice.result _ c.args.out.now.items (codes "error: overflow") c.extend_from_slice.ensures.items)
