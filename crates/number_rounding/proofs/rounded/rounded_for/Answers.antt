use Rattle.std.proofs.Common.{◌≡◌, ◌-◌, ◌*◌, ◌^◌, ◌+◌, inl, inr, arith, sym, FitsSigned, w16}
use Rattle.std.proofs.lemmas.Int.{ints, to_z-of_z}
use Rattle.fixed_decimal.specs.Size.{place}
use Rattle.fixed_decimal.specs.Increments.{step_of}
use Rattle.number_rounding.specs.Steps.{step_place, step}
use Rattle.number_rounding.proofs.PlaceLemmas.{finest_is}
use Rattle.number_rounding.proofs.StepPlaces.{unit_is, step_low}
use Rattle.number_rounding.proofs.rounded.rounded_for.Goals as goal

pub overflow_add-at : goal.overflow_add-at
overflow_add-at c =
    elim c.step_place.ensures.coarse [
      | inl low ↦ omega (arith, finest_is, low)
      | inr low ↦ omega (arith, finest_is, low, c.place_of.ensures.high)
    ]

pub rounded-requires-clause-coarse : goal.rounded-requires-clause-coarse
rounded-requires-clause-coarse c =
    elim c.requires.divides [
      | inl none ↦ elim c.step_place.ensures.coarse [
        | inl low ↦ omega (arith, none, low)
        | inr low ↦ omega (arith, low, c.place_of.ensures.high)
      ]
      | inr divides ↦
          let low = step_low c.args.rounding.now.precision (c.place_of.result - c.args.exponent) divides in
          omega (arith, low, c.step_place.ensures.place, c.place_of.ensures.high, c.place_of.ensures.place, c.requires.exponent)
    ]

pub returns-clause-taken : goal.returns-clause-taken
returns-clause-taken c =
    let fits : FitsSigned w16 c.args.power = omega (arith, ints) in
    let at : c.place_of.result ≡ place c.args.power = (simp to_z-of_z at c.place_of.ensures).place in
    let same : step_of c.increment_of-increment.result * 10 ^ (c.step_place.result + c.args.exponent)
    ≡ step c.args.rounding.now.precision (place c.args.power - c.args.exponent) * 10 ^ c.args.exponent =
    rw (c.increment_of-increment.ensures, c.step_place.ensures.place, at)
    (sym (unit_is c.args.rounding.now.precision (place c.args.power - c.args.exponent) c.args.exponent)) in
    rw same at c.rounded.ensures.taken

pub returns-clause-overflow : goal.returns-clause-overflow
returns-clause-overflow c =
    let fits : FitsSigned w16 c.args.power = omega (arith, ints) in
    let at : c.place_of.result ≡ place c.args.power = (simp to_z-of_z at c.place_of.ensures).place in
    let same : step_of c.increment_of-increment.result * 10 ^ (c.step_place.result + c.args.exponent)
    ≡ step c.args.rounding.now.precision (place c.args.power - c.args.exponent) * 10 ^ c.args.exponent =
    rw (c.increment_of-increment.ensures, c.step_place.ensures.place, at)
    (sym (unit_is c.args.rounding.now.precision (place c.args.power - c.args.exponent) c.args.exponent)) in
    rw same at c.rounded.ensures.overflow
