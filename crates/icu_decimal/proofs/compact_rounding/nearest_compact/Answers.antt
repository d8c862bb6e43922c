-- The goals split on whether the magnitude that rounding reached has the entry of the input's magnitude. If it has, the significand is the
-- rounded one. If it has another entry, rounding carried, the rounded size is a power of ten, and the significand is what the other
-- entry's exponent leaves of that power. `here` gathers in each goal what the first steps say of the input's magnitude (`IsEntryHere` of
-- DisplayedSteps, whose lemmas do the rest). That the power is within the range of its type is known since rounding isn't past the limits.
use Rattle.std.proofs.Common.{◌≡◌, arith, rules, ap, refl, sym, ◌∙◌, Err, Result, ℤ, FitsSigned, w16, to_z, of_z, pos, ◌+ℤ◌, ◌*◌}
use Rattle.std.proofs.Common.{◌^◌}
use Rattle.std.specs.Prelude.{IsErrOf}
use Rattle.std.proofs.lemmas.Result.{err_from_is_err_and}
use Rattle.std.proofs.lemmas.Int.{ints, to_z-of_z}
use Rattle.fixed_decimal.specs.Size.{size, ten_to}
use Rattle.fixed_decimal.specs.Trimming.{IsTrimmed}
use Rattle.fixed_decimal.specs.Unsigned.{IsUnsigned, Unsigned, high}
use Rattle.icu_decimal_data.specs.CompactTable.{entry_at}
use Rattle.icu_decimal.specs.declared.error.FormatError.{FormatError}
use Rattle.icu_decimal.specs.declared.error.FormatError.TheVariants.{Overflow}
use Rattle.icu_decimal.proofs.ChangedEntries.{same_index, other_index}
use Rattle.icu_decimal.proofs.DecomposedSteps.{entry_is_here, exponent_within, overflows, rounds_past, scaled_magnitude, decomposed_same, other_within}
use Rattle.icu_decimal.proofs.DecomposedSteps.{decomposed_other, reached_within, not_refused}
use Rattle.icu_decimal.proofs.compact_rounding.nearest_compact.Goals as goal

pub significand_at-requires-clause-exponent : goal.significand_at-requires-clause-exponent
significand_at-requires-clause-exponent g c =
    let here = entry_is_here c.args.table.now c.args.value.now c.exponent_or_zero-exponent.result c.nonzero_magnitude_start-power.result _ _
    c.nonzero_magnitude_start-power.ensures.power (omega (arith, ints)) c.entry_index-index.ensures.entry c.exponent_or_zero-exponent.ensures in
    exponent_within here c.entry_index-index.ensures.table _ (omega (arith, ints))

pub returns-in_err-significand-clause-overflow : goal.returns-in_err-significand-clause-overflow
returns-in_err-significand-clause-overflow g c =
    let here = entry_is_here c.args.table.now c.args.value.now c.exponent_or_zero-exponent.result c.nonzero_magnitude_start-power.result _ _
    c.nonzero_magnitude_start-power.ensures.power (omega (arith, ints)) c.entry_index-index.ensures.entry c.exponent_or_zero-exponent.ensures in
    let h = c.in_err-significand.ensures.overflow in
    let p = err_from_is_err_and c.from_residual.result c.from_residual.ensures.1 in (
      λ over. overflows here (h.0 (ap Err (which over p.1 p.2))),
      λ past. over_then p.1 p.2 (h.1 (rounds_past here past)),
    )
  where
    which : {T : Type 0} {r : Result T FormatError} {e f : FormatError} → IsErrOf r Overflow → r ≡ Err e → e ≡ f → f ≡ Overflow
    which over is same = cc

    over_then : {T U : Type 0} {r : Result T FormatError} {e f : FormatError} → r ≡ Err e → e ≡ f → IsErrOf {T = U} (Err f) Overflow →
        IsErrOf r Overflow
    over_then is same refused = cc

pub returns-then-eq-clause-decomposed : goal.returns-then-eq-clause-decomposed
returns-then-eq-clause-decomposed g c =
    let here = entry_is_here c.args.table.now c.args.value.now c.exponent_or_zero-exponent.result c.nonzero_magnitude_start-power.result _ _
    c.nonzero_magnitude_start-power.ensures.power (omega (arith, ints)) c.entry_index-index.ensures.entry c.exponent_or_zero-exponent.ensures in
    let e = c.exponent_or_zero-exponent.result in
    let s = c.in_ok-significand.significand in
    let near = c.in_ok-significand.ensures.nearest in
    let taken = exponent_within here c.entry_index-index.ensures.table _ (omega (arith, ints)) in
    let reached = scaled_magnitude here s c.nonzero_magnitude_start.result (c.nonzero_magnitude_start.result +ℤ pos e) near
    c.nonzero_magnitude_start.ensures.power refl taken in
    let has = c.in_ok-significand.ensures in
    let same = ap (entry_at c.args.table.now) (same_index _ _ (sym c.eq.ensures ∙ c.if-eq.true)) in (
      size s * 10 ^ e,
      decomposed_same here _ near _ _ (omega (arith, ints, reached)) c.reached_index-reached.ensures.entry same s refl has.valid has.trimmed has.high,
    )

pub returns-then-eq-clause-overflow : goal.returns-then-eq-clause-overflow
returns-then-eq-clause-overflow g c =
    let here = entry_is_here c.args.table.now c.args.value.now c.exponent_or_zero-exponent.result c.nonzero_magnitude_start-power.result _ _
    c.nonzero_magnitude_start-power.ensures.power (omega (arith, ints)) c.entry_index-index.ensures.entry c.exponent_or_zero-exponent.ensures in (
      λ other. absurd (not_refused other),
      λ past. absurd (not_refused (c.in_ok-significand.ensures.overflow.1 (rounds_past here past))),
    )

pub power_left-left-requires-clause-exponent : goal.power_left-left-requires-clause-exponent
power_left-left-requires-clause-exponent g c =
    let here = entry_is_here c.args.table.now c.args.value.now c.exponent_or_zero-exponent.result c.nonzero_magnitude_start-power.result _ _
    c.nonzero_magnitude_start-power.ensures.power (omega (arith, ints)) c.entry_index-index.ensures.entry c.exponent_or_zero-exponent.ensures in
    let e = c.exponent_or_zero-exponent.result in
    let s = c.in_ok-significand.significand in
    let near = c.in_ok-significand.ensures.nearest in
    let taken = exponent_within here c.entry_index-index.ensures.table _ (omega (arith, ints)) in
    let reached = scaled_magnitude here s c.nonzero_magnitude_start.result (c.nonzero_magnitude_start.result +ℤ pos e) near
    c.nonzero_magnitude_start.ensures.power refl taken in
    let different = other_index c.args.table.now c.entry_index-index.ensures.table.types_rise _ _ c.reached_index-reached.ensures.index
    c.entry_index-index.ensures.index (sym c.eq.ensures ∙ c.if-eq.false) in
    let low = other_within here _ near _ _ (omega (arith, ints, reached)) c.reached_index-reached.ensures.entry c.entry_index-index.ensures.table different _
    c.exponent_or_zero-reached_exponent.ensures in
    omega (arith, ints, reached, low)

pub power_left-left-requires-clause-within : goal.power_left-left-requires-clause-within
power_left-left-requires-clause-within g c =
    let here = entry_is_here c.args.table.now c.args.value.now c.exponent_or_zero-exponent.result c.nonzero_magnitude_start-power.result _ _
    c.nonzero_magnitude_start-power.ensures.power (omega (arith, ints)) c.entry_index-index.ensures.entry c.exponent_or_zero-exponent.ensures in
    let e = c.exponent_or_zero-exponent.result in
    let s = c.in_ok-significand.significand in
    let near = c.in_ok-significand.ensures.nearest in
    let taken = exponent_within here c.entry_index-index.ensures.table _ (omega (arith, ints)) in
    let reached = scaled_magnitude here s c.nonzero_magnitude_start.result (c.nonzero_magnitude_start.result +ℤ pos e) near
    c.nonzero_magnitude_start.ensures.power refl taken in
    let upper = reached_within here _ near (λ past. not_refused (c.in_ok-significand.ensures.overflow.1 past)) _ reached in
    omega (arith, ints, reached, upper)

-- the argument is passed on as it is
passed : (k : ℤ) → FitsSigned w16 k → to_z w16 (of_z w16 k) ≡ k
passed k fits = to_z-of_z w16 k fits

ten : (s : Unsigned) (k : ℤ) → FitsSigned w16 k → size s ≡ ten_to (to_z w16 (of_z w16 k)) → size s ≡ ten_to k
ten s k fits is = is ∙ ap ten_to (passed k fits)

top : (s : Unsigned) (k : ℤ) → FitsSigned w16 k → high s ≡ to_z w16 (of_z w16 k) → high s ≡ k
top s k fits is = is ∙ passed k fits

pub returns-in-Ok-clause-decomposed : goal.returns-in-Ok-clause-decomposed
returns-in-Ok-clause-decomposed g c =
    let here = entry_is_here c.args.table.now c.args.value.now c.exponent_or_zero-exponent.result c.nonzero_magnitude_start-power.result _ _
    c.nonzero_magnitude_start-power.ensures.power (omega (arith, ints)) c.entry_index-index.ensures.entry c.exponent_or_zero-exponent.ensures in
    let e = c.exponent_or_zero-exponent.result in
    let s = c.in_ok-significand.significand in
    let near = c.in_ok-significand.ensures.nearest in
    let taken = exponent_within here c.entry_index-index.ensures.table _ (omega (arith, ints)) in
    let reached = scaled_magnitude here s c.nonzero_magnitude_start.result (c.nonzero_magnitude_start.result +ℤ pos e) near
    c.nonzero_magnitude_start.ensures.power refl taken in
    let different = other_index c.args.table.now c.entry_index-index.ensures.table.types_rise _ _ c.reached_index-reached.ensures.index
    c.entry_index-index.ensures.index (sym c.eq.ensures ∙ c.if-eq.false) in
    let low = other_within here _ near _ _ (omega (arith, ints, reached)) c.reached_index-reached.ensures.entry c.entry_index-index.ensures.table different _
    c.exponent_or_zero-reached_exponent.ensures in
    let fits : FitsSigned w16 c.power_left-left.result = omega (arith, ints, c.power_left-left.type_inv) in
    let high_is : high c.in-Ok.ten ≡ to_z w16 (of_z w16 c.power_left-left.result) = search rules in
    let size_is : size c.in-Ok.ten ≡ ten_to (to_z w16 (of_z w16 c.power_left-left.result)) = search rules in
    let valid : IsUnsigned c.in-Ok.ten = search rules in
    let trimmed : IsTrimmed c.in-Ok.ten = search rules in (
      size s * 10 ^ e,
      decomposed_other here _ near _ _ (omega (arith, ints, reached)) c.reached_index-reached.ensures.entry c.entry_index-index.ensures.table different
          c.in-Ok.ten c.exponent_or_zero-reached_exponent.result c.power_left-left.result c.exponent_or_zero-reached_exponent.ensures
          c.power_left-left.ensures.left
          (ten c.in-Ok.ten c.power_left-left.result fits size_is) valid trimmed (top c.in-Ok.ten c.power_left-left.result fits high_is),
    )

pub returns-in-Ok-clause-overflow : goal.returns-in-Ok-clause-overflow
returns-in-Ok-clause-overflow g c =
    let here = entry_is_here c.args.table.now c.args.value.now c.exponent_or_zero-exponent.result c.nonzero_magnitude_start-power.result _ _
    c.nonzero_magnitude_start-power.ensures.power (omega (arith, ints)) c.entry_index-index.ensures.entry c.exponent_or_zero-exponent.ensures in (
      λ other. absurd (not_refused other),
      λ past. absurd (not_refused (c.in_ok-significand.ensures.overflow.1 (rounds_past here past))),
    )

pub returns-clause-overflow : goal.returns-clause-overflow
returns-clause-overflow g c =
    let here = entry_is_here c.args.table.now c.args.value.now c.exponent_or_zero-exponent.result c.nonzero_magnitude_start-power.result _ _
    c.nonzero_magnitude_start-power.ensures.power (omega (arith, ints)) c.entry_index-index.ensures.entry c.exponent_or_zero-exponent.ensures in (
      λ other. absurd (cc),
      λ past. absurd (not_refused (c.in_ok-significand.ensures.overflow.1 (rounds_past here past))),
    )
