use Rattle.std.proofs.Common.{◌≡◌, ◌++◌, ◌%◌, [], ◌∷◌, arith, refl}
use Rattle.std.proofs.lemmas.Grind.{common_steps}
use Rattle.std.proofs.lemmas.List.{length_push}
use Rattle.fixed_decimal.proofs.Magnitudes.{magnitude_only}
use Rattle.fixed_decimal.proofs.NumberDigits.{split_start, split_more, split_short, split_size, split_high, split_valid}
use Rattle.fixed_decimal.proofs.unsigned.UnsignedDecimal.from_u64.Goals as goal

pub loop-rest-init : goal.loop-rest-init
loop-rest-init c =
    let e : c.push_reserved.new.self.items ≡ c.args.value % 10 ∷ [] = grind (arith, common_steps) in
    rw e (split_start c.args.value, omega arith, omega (arith, c.in_ok-digits.ensures.capacity))

pub push_reserved-requires-in-loop-rest : goal.push_reserved-requires-in-loop-rest
push_reserved-requires-in-loop-rest c =
    let short = split_short c.args.value c.loop-rest.rest c.loop-rest.digits.items c.loop-rest-test.true (omega arith) c.loop-rest.invariant.0 in
    omega arith

pub loop-rest-preserved : goal.loop-rest-preserved
loop-rest-preserved c =
    let e : c.push_reserved-in-loop-rest.new.self.items ≡ c.loop-rest.digits.items ++ c.loop-rest.rest % 10 ∷ [] = grind (arith, common_steps) in
    rw e (
      split_more c.args.value c.loop-rest.rest c.loop-rest.digits.items c.loop-rest-test.true c.loop-rest.invariant.0,
      omega (
        arith,
        length_push c.loop-rest.digits.items (c.loop-rest.rest % 10),
        split_short c.args.value c.loop-rest.rest c.loop-rest.digits.items c.loop-rest-test.true (omega arith) c.loop-rest.invariant.0,
      ),
      omega arith,
    )

pub invariant_of-result : goal.invariant_of-result
invariant_of-result c = split_valid c.args.value c.loop-rest.rest c.loop-rest.digits.items c.reverse_digits.new.digits.items c.reverse_digits.ensures
    c.loop-rest.invariant.1 c.loop-rest.invariant.0

pub returns-clause-valid : goal.returns-clause-valid
returns-clause-valid c = split_valid c.args.value c.loop-rest.rest c.loop-rest.digits.items c.reverse_digits.new.digits.items c.reverse_digits.ensures
    c.loop-rest.invariant.1 c.loop-rest.invariant.0

pub returns-clause-size : goal.returns-clause-size
returns-clause-size c = split_size c.args.value c.loop-rest.rest c.loop-rest.digits.items c.reverse_digits.new.digits.items c.reverse_digits.ensures
    c.loop-rest-test.false c.loop-rest.invariant.0

pub returns-clause-high : goal.returns-clause-high
returns-clause-high c = magnitude_only _ _ (split_high c.args.value c.loop-rest.rest c.loop-rest.digits.items c.reverse_digits.new.digits.items _
    c.reverse_digits.ensures c.loop-rest-test.false c.loop-rest.invariant.0 refl)
