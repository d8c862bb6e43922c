use Rattle.std.proofs.Common.{arith, ◌≡◌, ◌<◌, ◌≤◌, ◌^◌, ◌*◌, ◌+◌, ap, ◌∙◌, sym, get_or, length, take, ℕ}
use Rattle.std.proofs.Math.Nat.{pow-le-pow_right}
use Rattle.std.proofs.lemmas.List.{take_all}
use Rattle.std.proofs.lemmas.List.Elements.{recursion_from_All}
use Rattle.std.proofs.lemmas.Int.Digits.{number_lt}
use Rattle.icu_plurals.specs.Operands.{number_of}
use Rattle.icu_plurals.proofs.DigitNumbers.{number_small, number_after_more}
use Rattle.locnum_explain.proofs.around.number.Goals as goal

pub overflow_mul-number : goal.overflow_mul-number
overflow_mul-number c =
    omega (arith, number_small c.args.digits.now c.loop-digit.digit-index c.requires.below_ten (omega arith) c.requires.few)

pub overflow_add-number : goal.overflow_add-number
overflow_add-number c =
    omega (
      arith,
      number_small c.args.digits.now c.loop-digit.digit-index c.requires.below_ten (omega arith) c.requires.few,
      c.type_inv.digits c.loop-digit.digit-index,
    )

pub loop-digit-preserved : goal.loop-digit-preserved
loop-digit-preserved c =
    ap (λ n. n * 10 + get_or c.args.digits.now c.loop-digit.digit-index 0) c.loop-digit.invariant
    ∙ sym (number_after_more 0 c.args.digits.now c.loop-digit.digit-index (omega arith))

pub returns-clause-small : goal.returns-clause-small
returns-clause-small c =
    let all : take (length c.args.digits.now) c.args.digits.now ≡ c.args.digits.now = take_all (length c.args.digits.now) c.args.digits.now (omega arith) in
    let below : number_of c.args.digits.now < 10 ^ length c.args.digits.now =
    number_lt 10 c.args.digits.now (recursion_from_All _ _ c.requires.below_ten) in
    let most : 10 ^ length c.args.digits.now ≤ 10 ^ 18 = pow-le-pow_right (omega arith) c.requires.few in
    let count : c.loop-digit.digit-index ≡ length c.args.digits.now = omega arith in
    let whole : c.loop-digit.number ≡ number_of c.args.digits.now =
    c.loop-digit.invariant ∙ ap number_of (ap (λ (k : ℕ). take k c.args.digits.now) count ∙ all) in
    omega arith
