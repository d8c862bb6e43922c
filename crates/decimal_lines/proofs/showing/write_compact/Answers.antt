use Rattle.std.proofs.Common.{◌≡◌, inl, inr, refl}
use Rattle.std.specs.Prelude.{Ok}
use Rattle.icu_decimal.specs.CompactFormat.{significand_of, signed_compact_events}
use Rattle.decimal_lines.specs.SingleText.{compact_events}
use Rattle.decimal_lines.proofs.OneText.{compact_events-past, compact_events-written}
use Rattle.decimal_lines.proofs.showing.write_compact.Goals as goal

pub returns-in-Ok-write_events : goal.returns-in-Ok-write_events
returns-in-Ok-write_events g c =
    let format = c.args.formatter.now in
    let d = c.args.decimal.now in
    let f = c.in-Ok.formatted in
    let told = c.in-Ok.ensures in
    let e : compact_events format d.sign d.absolute ≡ Ok (signed_compact_events f) =
    compact_events-written format d.sign d.absolute (significand_of f.value) f.value.exponent (signed_compact_events f) told.nearest
    (λ past. cc (told.overflow.1 past)) in
    (signed_compact_events f, e, c.in-Ok-write_events.ensures)

pub returns-in-Ok : goal.returns-in-Ok
returns-in-Ok g c =
    let format = c.args.formatter.now in
    let d = c.args.decimal.now in
    let f = c.in-Ok.formatted in
    let told = c.in-Ok.ensures in
    let e : compact_events format d.sign d.absolute ≡ Ok (signed_compact_events f) =
    compact_events-written format d.sign d.absolute (significand_of f.value) f.value.exponent (signed_compact_events f) told.nearest
    (λ past. cc (told.overflow.1 past)) in
    (inl refl, inr (refl, (signed_compact_events f, (λ shown. e), rw c.in-Err.is at c.write_events.ensures)))

pub returns-in-Err-Overflow : goal.returns-in-Err-Overflow
returns-in-Err-Overflow g c =
    let d = c.args.decimal.now in
    let told = rw c.in-Err-Overflow.field-0-is at c.in-Err-Overflow.ensures.overflow in
    (inr (compact_events-past c.args.formatter.now d.sign d.absolute (told.0 refl)), inl refl)
