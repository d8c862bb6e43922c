use Rattle.std.proofs.Common.{rules, sym, subst, arith}
use Rattle.fixed_decimal.specs.Unsigned.{AreDigits}
use Rattle.icu_ranges.specs.Digits.{IsTrimmed}
use Rattle.icu_ranges.proofs.SizesTold.{fractions_tell, lengths_tell, trimmed_digits, wholes_tell}
use Rattle.icu_ranges.proofs.order.is_larger.Goals as goal

pub returns-then-digits-others : goal.returns-then-digits-others
returns-then-digits-others c =
    let x = c.integer.ensures in
    let y = c.integer-2.ensures in
    let one = subst (λ t. IsTrimmed t c.significant-digits.result.now) x.digits c.significant-digits.ensures in
    let two = subst (λ t. IsTrimmed t c.significant-others.result.now) y.digits c.significant-others.ensures in
    lengths_tell _ c.args.number.now c.args.other.now c.significant-digits.result.now c.significant-others.result.now x.valid y.valid
    (subst AreDigits x.digits x.below_ten) (subst AreDigits y.digits y.below_ten) one two c.if-digits-others.true (search rules)

pub are_more-requires : goal.are_more-requires
are_more-requires c = record {
  digits = trimmed_digits c.integer.result.now c.significant-digits.result.now c.integer.ensures.below_ten c.significant-digits.ensures;
  others = trimmed_digits c.integer-2.result.now c.significant-others.result.now c.integer-2.ensures.below_ten c.significant-others.ensures;
}

pub returns-then-are_more : goal.returns-then-are_more
returns-then-are_more c =
    let x = c.integer.ensures in
    let y = c.integer-2.ensures in
    let one = subst (λ t. IsTrimmed t c.significant-digits.result.now) x.digits c.significant-digits.ensures in
    let two = subst (λ t. IsTrimmed t c.significant-others.result.now) y.digits c.significant-others.ensures in
    let larger =
    wholes_tell c.are_more.result c.args.number.now c.args.other.now c.significant-digits.result.now c.significant-others.result.now x.valid y.valid
    one two c.if-digits-others.false c.are_more.ensures c.if-are_more.true in
    search rules

pub are_more-requires-2 : goal.are_more-requires-2
are_more-requires-2 c = record {
  digits = trimmed_digits c.integer-2.result.now c.significant-others.result.now c.integer-2.ensures.below_ten c.significant-others.ensures;
  others = trimmed_digits c.integer.result.now c.significant-digits.result.now c.integer.ensures.below_ten c.significant-digits.ensures;
}

pub returns-then-are_more-2 : goal.returns-then-are_more-2
returns-then-are_more-2 c =
    let x = c.integer.ensures in
    let y = c.integer-2.ensures in
    let one = subst (λ t. IsTrimmed t c.significant-digits.result.now) x.digits c.significant-digits.ensures in
    let two = subst (λ t. IsTrimmed t c.significant-others.result.now) y.digits c.significant-others.ensures in
    let smaller =
    wholes_tell c.are_more-2.result c.args.other.now c.args.number.now c.significant-others.result.now c.significant-digits.result.now y.valid x.valid
    two one (sym c.if-digits-others.false) c.are_more-2.ensures c.if-are_more-2.true in
    (λ passed. cc, λ less. absurd (omega (arith, smaller, less)))

pub returns : goal.returns
returns c =
    let x = c.integer.ensures in
    let y = c.integer-2.ensures in
    let one = subst (λ t. IsTrimmed t c.significant-digits.result.now) x.digits c.significant-digits.ensures in
    let two = subst (λ t. IsTrimmed t c.significant-others.result.now) y.digits c.significant-others.ensures in
    let rest = rw (c.fraction.ensures.digits, c.fraction-2.ensures.digits) at c.are_more-3.ensures in
    fractions_tell c.are_more-3.result c.are_more.result c.are_more-2.result c.args.number.now c.args.other.now c.significant-digits.result.now
    c.significant-others.result.now x.valid y.valid one two c.if-digits-others.false c.are_more.ensures c.if-are_more.false c.are_more-2.ensures
    c.if-are_more-2.false rest
