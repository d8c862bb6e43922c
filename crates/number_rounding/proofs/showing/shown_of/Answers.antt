use Rattle.std.proofs.Common.{◌≡◌, arith, inl, ap, Ok, Err, FitsSigned, w16}
use Rattle.std.specs.Prelude.{IsErrOf}
use Rattle.std.proofs.lemmas.Int.{ints, to_z-of_z}
use Rattle.fixed_decimal.specs.Size.{size}
use Rattle.number_rounding.specs.Showable.{FitsTable}
use Rattle.number_rounding.specs.Shown.{entries_of}
use Rattle.number_rounding.proofs.ShownSteps.{exponent_is, exponent_within, entry_is, shown_size, past_shown, is_shown, past_written, within_limits}
use Rattle.number_rounding.specs.declared.error.ShownError.{ShownError}
use Rattle.number_rounding.specs.declared.error.ShownError.TheVariants.{Overflow}
use Rattle.number_rounding.proofs.showing.shown_of.Goals as goal

-- an error is the same, whatever would have been answered
alike : {T U : Type 0} (e : ShownError) → IsErrOf {T = T} (Err e) Overflow → IsErrOf {T = U} (Err e) Overflow
alike e over = let same : e ≡ Overflow = cc in ap Err same

-- what was answered is no error
answered : {T : Type 0} (x : T) → IsErrOf {E = ShownError} (Ok x) Overflow → ⊥
answered x over = absurd cc

pub rounded_for-requires-clause-exponent : goal.rounded_for-requires-clause-exponent
rounded_for-requires-clause-exponent g c =
    let fits16 : FitsSigned w16 c.nonzero_magnitude_start-power.result = omega (arith, ints, c.nonzero_magnitude_start-power.type_inv) in
    let entry = (simp to_z-of_z at c.entry_index.ensures).entry in
    rw (to_z-of_z w16 c.nonzero_magnitude_start-power.result fits16)
    (exponent_within (entries_of c.args.table) (size c.args.decimal.absolute) c.exponent_at-exponent.result c.nonzero_magnitude_start-power.result _
    c.entry_index.ensures.table c.nonzero_magnitude_start-power.ensures.power entry c.exponent_at-exponent.ensures)

pub returns-in-Err-clause-overflow : goal.returns-in-Err-clause-overflow
returns-in-Err-clause-overflow g c over =
    let fits16 : FitsSigned w16 c.nonzero_magnitude_start-power.result = omega (arith, ints, c.nonzero_magnitude_start-power.type_inv) in
    let entry = (simp to_z-of_z at c.entry_index.ensures).entry in
    let fits : FitsTable c.args.rounding.now.precision (entries_of c.args.table) = record { is_table = c.entry_index.ensures.table; divides = c.requires } in
    let exponent = exponent_is (entries_of c.args.table) (size c.args.decimal.absolute) c.exponent_at-exponent.result c.nonzero_magnitude_start-power.result _
    c.nonzero_magnitude_start-power.ensures.power entry c.exponent_at-exponent.ensures in
    let r = simp to_z-of_z at c.in-Err.ensures in
    rw (← c.is_minus-minus.ensures) (inl (past_shown c.args.rounding.now (entries_of c.args.table) c.is_minus-minus.result c.args.decimal.absolute
    fits c.exponent_at-exponent.result
    c.nonzero_magnitude_start-power.result c.nonzero_magnitude_start-power.ensures.power exponent (r.overflow.0 (alike c.in-Err.error over))))

pub returns-in-Ok-significand_of-clause-shown : goal.returns-in-Ok-significand_of-clause-shown
returns-in-Ok-significand_of-clause-shown g c =
    let fits16 : FitsSigned w16 c.nonzero_magnitude_start-power.result = omega (arith, ints, c.nonzero_magnitude_start-power.type_inv) in
    let entry = (simp to_z-of_z at c.entry_index.ensures).entry in
    let fits : FitsTable c.args.rounding.now.precision (entries_of c.args.table) = record { is_table = c.entry_index.ensures.table; divides = c.requires } in
    let exponent = exponent_is (entries_of c.args.table) (size c.args.decimal.absolute) c.exponent_at-exponent.result c.nonzero_magnitude_start-power.result _
    c.nonzero_magnitude_start-power.ensures.power entry c.exponent_at-exponent.ensures in
    let r = simp to_z-of_z at c.in-Ok.ensures in
    let taken = shown_size c.args.rounding.now (entries_of c.args.table) c.is_minus-minus.result c.args.decimal.absolute fits c.exponent_at-exponent.result
    c.nonzero_magnitude_start-power.result c.nonzero_magnitude_start-power.ensures.power exponent (size c.in-Ok.rounded) r.taken in
    let fits' : FitsSigned w16 c.nonzero_magnitude_start.result = omega (arith, ints, c.nonzero_magnitude_start.type_inv) in
    let decomposed = entry_is (entries_of c.args.table) (size c.in-Ok.rounded) c.nonzero_magnitude_start.result _ c.nonzero_magnitude_start.ensures.power
    (simp to_z-of_z at c.entry_index-entry.ensures).entry in
    let s = c.in-Ok-significand_of.ensures in
    rw (← c.is_minus-minus.ensures) (
      size c.in-Ok.rounded,
      is_shown c.args.rounding.now (entries_of c.args.table) c.is_minus-minus.result c.args.decimal.absolute fits c.exponent_at-exponent.result
          c.nonzero_magnitude_start-power.result c.nonzero_magnitude_start-power.ensures.power exponent (size c.in-Ok.rounded)
          c.exponent_at-exponent-2.result _ taken decomposed c.exponent_at-exponent-2.ensures c.in-Ok-significand_of.absolute s.size s.valid s.high s.scale,
    )

pub returns-in-Ok-significand_of-clause-within : goal.returns-in-Ok-significand_of-clause-within
returns-in-Ok-significand_of-clause-within g c =
    let fits16 : FitsSigned w16 c.nonzero_magnitude_start-power.result = omega (arith, ints, c.nonzero_magnitude_start-power.type_inv) in
    let entry = (simp to_z-of_z at c.entry_index.ensures).entry in
    let fits : FitsTable c.args.rounding.now.precision (entries_of c.args.table) = record { is_table = c.entry_index.ensures.table; divides = c.requires } in
    let exponent = exponent_is (entries_of c.args.table) (size c.args.decimal.absolute) c.exponent_at-exponent.result c.nonzero_magnitude_start-power.result _
    c.nonzero_magnitude_start-power.ensures.power entry c.exponent_at-exponent.ensures in
    let r = simp to_z-of_z at c.in-Ok.ensures in
    let taken = shown_size c.args.rounding.now (entries_of c.args.table) c.is_minus-minus.result c.args.decimal.absolute fits c.exponent_at-exponent.result
    c.nonzero_magnitude_start-power.result c.nonzero_magnitude_start-power.ensures.power exponent (size c.in-Ok.rounded) r.taken in
    let fits' : FitsSigned w16 c.nonzero_magnitude_start.result = omega (arith, ints, c.nonzero_magnitude_start.type_inv) in
    let decomposed = entry_is (entries_of c.args.table) (size c.in-Ok.rounded) c.nonzero_magnitude_start.result _ c.nonzero_magnitude_start.ensures.power
    (simp to_z-of_z at c.entry_index-entry.ensures).entry in
    let s = c.in-Ok-significand_of.ensures in
    rw (← c.is_minus-minus.ensures) (within_limits c.args.rounding.now (entries_of c.args.table) c.is_minus-minus.result c.args.decimal.absolute fits
    c.exponent_at-exponent.result
    c.nonzero_magnitude_start-power.result c.nonzero_magnitude_start-power.ensures.power exponent (size c.in-Ok.rounded)
    c.exponent_at-exponent-2.result _ taken decomposed c.exponent_at-exponent-2.ensures c.in-Ok-significand_of.absolute
    (λ past. answered c.in-Ok.rounded (r.overflow.1 past)) s.within s.size s.valid s.scale)

pub returns-in-Err-significand_of-clause-overflow : goal.returns-in-Err-significand_of-clause-overflow
returns-in-Err-significand_of-clause-overflow g c over =
    let fits16 : FitsSigned w16 c.nonzero_magnitude_start-power.result = omega (arith, ints, c.nonzero_magnitude_start-power.type_inv) in
    let entry = (simp to_z-of_z at c.entry_index.ensures).entry in
    let fits : FitsTable c.args.rounding.now.precision (entries_of c.args.table) = record { is_table = c.entry_index.ensures.table; divides = c.requires } in
    let exponent = exponent_is (entries_of c.args.table) (size c.args.decimal.absolute) c.exponent_at-exponent.result c.nonzero_magnitude_start-power.result _
    c.nonzero_magnitude_start-power.ensures.power entry c.exponent_at-exponent.ensures in
    let r = simp to_z-of_z at c.in-Ok.ensures in
    let taken = shown_size c.args.rounding.now (entries_of c.args.table) c.is_minus-minus.result c.args.decimal.absolute fits c.exponent_at-exponent.result
    c.nonzero_magnitude_start-power.result c.nonzero_magnitude_start-power.ensures.power exponent (size c.in-Ok.rounded) r.taken in
    let fits' : FitsSigned w16 c.nonzero_magnitude_start.result = omega (arith, ints, c.nonzero_magnitude_start.type_inv) in
    let decomposed = entry_is (entries_of c.args.table) (size c.in-Ok.rounded) c.nonzero_magnitude_start.result _ c.nonzero_magnitude_start.ensures.power
    (simp to_z-of_z at c.entry_index-entry.ensures).entry in
    rw (← c.is_minus-minus.ensures) (past_written c.args.rounding.now (entries_of c.args.table) c.is_minus-minus.result c.args.decimal.absolute fits
    c.exponent_at-exponent.result
    c.nonzero_magnitude_start-power.result c.nonzero_magnitude_start-power.ensures.power exponent (size c.in-Ok.rounded)
    c.exponent_at-exponent-2.result _ taken decomposed c.exponent_at-exponent-2.ensures (c.in-Err-significand_of.ensures.overflow (alike
    c.in-Err-significand_of.error over)))
