use Rattle.std.proofs.Common.{◌≡◌, ◌∙◌, ℕ, List, Result, Err, IsOk, sym, ap, subst, take, drop}
use Rattle.std.proofs.lemmas.Result.{IfOk-weaker}
use Rattle.std.proofs.lemmas.Bool.{false≢true}
use Rattle.fixed_decimal.specs.declared.signed.Decimal.{Decimal}
use Rattle.fixed_decimal.specs.Text.{ReadsNothing}
use Rattle.scaled_units.specs.declared.scale.Unit.{Unit}
use Rattle.scaled_units.specs.declared.error.NotScaled.{NotScaled}
use Rattle.scaled_units.specs.Suffixes.{number_length, number_part, text_unit}
use Rattle.scaled_units.specs.Reading.{IsPastLimits}
use Rattle.scaled_units.proofs.Texts.{number_is, unit_is, not_both, same_fault}
use Rattle.scaled_units.proofs.reading.read_scaled.Goals as goal
use Rattle.scaled_units.proofs.reading.read_scaled.Goals.{After-suffix_unit}

-- the number of the text is the front of it
front : (c : After-suffix_unit) → number_part c.args.text.now ≡ c.split_at.result.0.now
front c =
    number_is c.args.scale c.args.text.now c.number_length-count.result
    (c.number_length-count.ensures.count ∙ ap number_length c.as_bytes-bytes.ensures.value)
    c.split_at.result.0.now (c.split_at.ensures.front ∙ ap (take c.number_length-count.result) c.as_bytes-bytes.ensures.value)

-- the unit of the text is that of the back of it
unit : (c : After-suffix_unit) → text_unit c.args.scale c.args.text.now ≡ c.suffix_unit.result
unit c =
    unit_is c.args.scale c.args.text.now c.number_length-count.result (c.number_length-count.ensures.count ∙ ap number_length c.as_bytes-bytes.ensures.value)
    c.split_at.result.1.now c.suffix_unit.result (c.split_at.ensures.back ∙ ap (drop c.number_length-count.result) c.as_bytes-bytes.ensures.value)
    c.suffix_unit.ensures.unit

pub returns-in-Ok-clause-read : goal.returns-in-Ok-clause-read
returns-in-Ok-clause-read c =
    let u = unit (goal.at.returns-in-Ok-clause-read c).After-suffix_unit ∙ c.in-Ok.is in
    let f = front (goal.at.returns-in-Ok-clause-read c).After-suffix_unit in
    IfOk-weaker c.number_in_unit.result _ _
    (λ d h. record { unit = c.in-Ok.unit; unit_is = u; number = h.0; reads = rw f h.1; in_unit = h.2 })
    c.number_in_unit.ensures.read

pub returns-in-Ok-clause-suffix : goal.returns-in-Ok-clause-suffix
returns-in-Ok-clause-suffix c =
    let u = unit (goal.at.returns-in-Ok-clause-suffix c).After-suffix_unit ∙ c.in-Ok.is in
    λ fault e. absurd (not_both c.in-Ok.unit fault (sym u ∙ e))

pub returns-in-Ok-clause-number : goal.returns-in-Ok-clause-number
returns-in-Ok-clause-number c =
    let f = front (goal.at.returns-in-Ok-clause-number c).After-suffix_unit in
    λ ok. (
      λ h. subst (λ (l : List ℕ). ReadsNothing l) (sym f) (c.number_in_unit.ensures.number.0 h),
      λ h. c.number_in_unit.ensures.number.1 (subst (λ (l : List ℕ). ReadsNothing l) f h),
    )

pub returns-in-Ok-clause-limit : goal.returns-in-Ok-clause-limit
returns-in-Ok-clause-limit c =
    let u = unit (goal.at.returns-in-Ok-clause-limit c).After-suffix_unit ∙ c.in-Ok.is in
    let f = front (goal.at.returns-in-Ok-clause-limit c).After-suffix_unit in
    λ h. record {
      unit = c.in-Ok.unit;
      unit_is = u;
      past = subst (λ (l : List ℕ). IsPastLimits l c.in-Ok.unit) (sym f) (c.number_in_unit.ensures.limit h);
    }

pub returns-in-Err-clause-suffix : goal.returns-in-Err-clause-suffix
returns-in-Err-clause-suffix c =
    let u = unit (goal.at.returns-in-Err-clause-suffix c).After-suffix_unit ∙ c.in-Err.is in
    λ fault e. ap Err (same_fault {T = Unit} c.in-Err.fault fault (sym u ∙ e))

pub returns-in-Err-clause-suffix_only : goal.returns-in-Err-clause-suffix_only
returns-in-Err-clause-suffix_only c =
    let u = unit (goal.at.returns-in-Err-clause-suffix_only c).After-suffix_unit ∙ c.in-Err.is in
    λ fault of_suffix h. u ∙ ap Err (same_fault {T = Decimal} c.in-Err.fault fault h)

pub returns-in-Err-clause-number : goal.returns-in-Err-clause-number
returns-in-Err-clause-number c =
    let u = unit (goal.at.returns-in-Err-clause-number c).After-suffix_unit ∙ c.in-Err.is in
    λ ok. absurd (false≢true (subst (λ (r : Result Unit NotScaled). IsOk r) u ok))
