use Rattle.std.proofs.Common.{◌≡◌, None, slice_index_or, ap, ◌∙◌, ◌^◌, ◌-◌, arith}
use Rattle.icu_decimal_data.specs.CompactFaults.{slot_size}
use Rattle.icu_plurals.specs.Elements.{slots}
use Rattle.icu_decimal_data.proofs.KeptSteps.{size_step}
use Rattle.icu_decimal_data.proofs.kept.with_literals.Goals as goal

pub loop-slot-preserved : goal.loop-slot-preserved
loop-slot-preserved g c =
    let this : c.literal_size.result ≡ slot_size (slice_index_or (slots c.args.elements.now) c.loop-slot.slot None) =
    c.literal_size.ensures ∙ ap slot_size c.slot.ensures in (
      omega arith,
      rw (c.saturating_add-size.ensures, this) (size_step (slots c.args.elements.now) c.loop-slot.slot c.loop-slot.size (2 ^ 64 - 1)
          c.loop-slot-test.true ∙ c.loop-slot.invariant.1),
    )

pub returns : goal.returns
returns g c =
    let end : c.loop-slot.slot ≡ 8 = omega arith in
    let all = rw end at c.loop-slot.invariant.1 in
    let fits = c.loop-slot.invariant.0 in
    omega arith
