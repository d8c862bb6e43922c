use Rattle.std.proofs.Common.{◌≡◌, ap, Err, refl, arith}
use Rattle.std.specs.Prelude.{IsErrOf}
use Rattle.fixed_decimal.specs.declared.error.DecimalError.{DecimalError}
use Rattle.fixed_decimal.specs.declared.error.DecimalError.TheVariants.{Limit, OutOfMemory}
use Rattle.std.proofs.lemmas.Int.{ints, to_z-of_z}
use Rattle.fixed_decimal.specs.Size.{size}
use Rattle.icu_decimal.proofs.RoundingSteps.{unrounded_significand, unrounded_within, exponent_below_high, past_to, past_from, significand_nearest}
use Rattle.icu_decimal.proofs.RoundingSteps.{significand_high}
use Rattle.icu_decimal.proofs.compact_rounding.significand_at.Goals as goal

pub returns-in-Ok-clause-nearest : goal.returns-in-Ok-clause-nearest
returns-in-Ok-clause-nearest c =
    let fits = c.ranges.power in
    let u = simp to_z-of_z at c.round_power-at.ensures.place in
    let taken = (simp to_z-of_z at c.round_power-at.ensures.high) c.requires.exponent in
    let same : size c.trimmed_end.result ≡ size c.args.value.now = rw c.in-Ok.ensures.equal at c.trimmed_end.ensures.size in
    unrounded_significand c.args.value.now c.args.exponent c.args.power c.round_power-at.result c.requires.power u c.requires.valid (omega (arith, ints))
    c.trimmed_end.result same (omega (arith, ints, taken))

pub returns-in-Ok-clause-overflow : goal.returns-in-Ok-clause-overflow
returns-in-Ok-clause-overflow c =
    let fits = c.ranges.power in
    let u = simp to_z-of_z at c.round_power-at.ensures.place in (
      λ none. absurd (cc),
      λ past. absurd (unrounded_within c.args.value.now c.args.exponent c.args.power c.round_power-at.result c.requires.power u
          c.requires.valid (omega (arith, ints)) past),
    )

pub returns-in-Err-clause-overflow : goal.returns-in-Err-clause-overflow
returns-in-Err-clause-overflow c =
    let fits = c.ranges.power in
    let u = simp to_z-of_z at c.round_power-at.ensures.place in (
      λ other. absurd (cc),
      λ past. absurd (unrounded_within c.args.value.now c.args.exponent c.args.power c.round_power-at.result c.requires.power u
          c.requires.valid (omega (arith, ints)) past),
    )

pub rounded_significand-requires-clause-high : goal.rounded_significand-requires-clause-high
rounded_significand-requires-clause-high c =
    let fits = c.ranges.power in
    let u = simp to_z-of_z at c.round_power-at.ensures.place in
    exponent_below_high c.args.value.now c.args.exponent c.args.power c.round_power-at.result c.requires.power u c.requires.valid c.requires.exponent

pub returns-in-Ok-rounded_significand-clause-nearest : goal.returns-in-Ok-rounded_significand-clause-nearest
returns-in-Ok-rounded_significand-clause-nearest c =
    let fits = c.ranges.power in
    let u = simp to_z-of_z at c.round_power-at.ensures.place in
    significand_nearest c.args.value.now c.args.exponent c.args.power c.round_power-at.result c.requires.power u _ (omega (arith, ints)) _
    c.in-Ok-rounded_significand.ensures.significand

pub returns-in-Ok-rounded_significand-clause-high : goal.returns-in-Ok-rounded_significand-clause-high
returns-in-Ok-rounded_significand-clause-high c =
    let fits = c.ranges.power in
    let u = simp to_z-of_z at c.round_power-at.ensures.place in
    significand_high c.args.value.now c.args.exponent c.args.power c.round_power-at.result c.requires.power u _ (omega (arith, ints)) _
    c.in-Ok-rounded_significand.ensures.significand c.requires.valid (omega (arith, ints)) c.requires.exponent

pub returns-in-Ok-rounded_significand-clause-overflow : goal.returns-in-Ok-rounded_significand-clause-overflow
returns-in-Ok-rounded_significand-clause-overflow c =
    let fits = c.ranges.power in
    let u = simp to_z-of_z at c.round_power-at.ensures.place in (
      λ none. absurd (cc),
      λ past. absurd (let limit = c.in-Ok-rounded_significand.ensures.limit.1
          (past_to c.args.value.now c.args.exponent c.args.power c.round_power-at.result c.requires.power u _ (omega (arith, ints)) past) in cc),
    )

pub returns-in-Err-Limit-clause-overflow : goal.returns-in-Err-Limit-clause-overflow
returns-in-Err-Limit-clause-overflow c =
    let fits = c.ranges.power in
    let u = simp to_z-of_z at c.round_power-at.ensures.place in (
      λ _. past_from c.args.value.now c.args.exponent c.args.power c.round_power-at.result c.requires.power u _ (omega (arith, ints))
          (c.in-Err-Limit.ensures.limit.0 (ap Err c.in-Err-Limit.field-0-is)),
      λ _. refl,
    )

pub returns-in-Err-OutOfMemory-clause-overflow : goal.returns-in-Err-OutOfMemory-clause-overflow
returns-in-Err-OutOfMemory-clause-overflow c =
    let fits = c.ranges.power in
    let u = simp to_z-of_z at c.round_power-at.ensures.place in (
      λ other. absurd (cc),
      λ past. absurd (one_error (c.in-Err-OutOfMemory.ensures.limit.1
          (past_to c.args.value.now c.args.exponent c.args.power c.round_power-at.result c.requires.power u _ (omega (arith, ints)) past))
          c.in-Err-OutOfMemory.field-0-is),
    )
  where
    one_error : {T : Type 0} {e : DecimalError} → IsErrOf {T = T} (Err e) Limit → e ≡ OutOfMemory → ⊥
    one_error same other = let both : OutOfMemory ≡ Limit = cc in absurd (cc)
