use Rattle.std.proofs.Common.{◌≡◌, ◌+◌, length, arith, ◌∙◌, ap, subst}
use Rattle.fixed_decimal.specs.Size.{size}
use Rattle.fixed_decimal.specs.Modes.{IsLeastFrom}
use Rattle.fixed_decimal.specs.Padding.{IsExactWith}
use Rattle.fixed_decimal.proofs.Padded.{padded_size, padded_scale, padded_valid}
use Rattle.fixed_decimal.proofs.unsigned.UnsignedDecimal.padded.Goals as goal

pub returns-clause-size : goal.returns-clause-size
returns-clause-size c =
    let count : c.len.result ≡ length c.trimmed.inside.digits.items = omega arith in
    let front = rw count at c.saturating_sub-front.ensures in
    let is = padded_size c.trimmed.inside.digits.items c.trimmed.inside.scale c.args.integer c.args.fraction c.saturating_sub-front.result
    c.saturating_sub-back.result c.trimmed.invariant (omega (arith, c.if-integer-gt-MAX_DIGITS.false)) (omega (arith, c.if-fraction-gt-MAX_DIGITS.false)) front
    c.saturating_sub-back.ensures in
    rw c.in_ok-widen.ensures.items (is ∙ ap size c.trimmed.view_is ∙ c.trimmed_end-trimmed.ensures.size ∙ c.trimmed_start.ensures.size
    ∙ ap size c.in_ok-copy.ensures.equal)

pub returns-clause-scale : goal.returns-clause-scale
returns-clause-scale c =
    let count : c.len.result ≡ length c.trimmed.inside.digits.items = omega arith in
    let front = rw count at c.saturating_sub-front.ensures in
    let last = rw (← c.trimmed.view_is) at c.trimmed_end-trimmed.ensures.last in
    let is = padded_scale c.trimmed.inside.digits.items c.trimmed.inside.scale c.args.integer c.args.fraction c.saturating_sub-front.result
    c.saturating_sub-back.result c.trimmed.invariant (omega (arith, c.if-integer-gt-MAX_DIGITS.false)) (omega (arith, c.if-fraction-gt-MAX_DIGITS.false)) front
    c.saturating_sub-back.ensures last in
    let same = ap size c.trimmed.view_is ∙ c.trimmed_end-trimmed.ensures.size ∙ c.trimmed_start.ensures.size
    ∙ ap size c.in_ok-copy.ensures.equal in
    subst (λ x. IsLeastFrom (IsExactWith x) c.args.fraction (c.trimmed.inside.scale + c.saturating_sub-back.result)) same is

pub returns-clause-valid : goal.returns-clause-valid
returns-clause-valid c =
    let count : c.len.result ≡ length c.trimmed.inside.digits.items = omega arith in
    let front = rw count at c.saturating_sub-front.ensures in
    rw c.in_ok-widen.ensures.items (padded_valid c.trimmed.inside.digits.items c.trimmed.inside.scale c.args.integer c.args.fraction
    c.saturating_sub-front.result c.saturating_sub-back.result c.trimmed.invariant (omega (arith, c.if-integer-gt-MAX_DIGITS.false))
    (omega (arith, c.if-fraction-gt-MAX_DIGITS.false)) front c.saturating_sub-back.ensures)
