use Rattle.std.proofs.Common.{◌≡◌, ◌+◌, ◌-◌, ◌*◌, ◌%◌, ◌<◌, arith, take, length, get_or, ap}
use Rattle.std.proofs.lemmas.List.{length-set}
use Rattle.std.proofs.lemmas.List.Elements.{All-set}
use Rattle.scaled_units.proofs.Products.{place_more, carried_out, carry_small, digit_before, fronts_before}
use Rattle.scaled_units.proofs.digits.multiply.Goals as goal

pub loop-left-preserved : goal.loop-left-preserved
loop-left-preserved c =
    let k = c.loop-left.left - 1 in
    let ys = c.loop-left.digits in
    let xs = c.args.digits.now in
    let f = c.args.factor in
    let inside : k < length ys = omega (arith, c.loop-left-test.true, c.loop-left.invariant.within) in
    let same : length ys ≡ length xs = c.loop-left.auto.digits in
    let next : k + 1 ≡ c.loop-left.left = omega arith in
    let fronts : take (k + 1) ys ≡ take (k + 1) xs = rw next c.loop-left.invariant.before in
    let below : get_or ys k 0 < 10 = c.loop-left.invariant.digits k 0 inside in
    let v = get_or ys k 0 * f + c.loop-left.carry in
    record {
      within = omega (arith, length-set ys k (v % 10));
      small = carry_small (get_or ys k 0) f c.loop-left.carry below c.loop-left.invariant.small;
      digits = All-set (λ d. d < 10) ys k (v % 10) (omega arith) c.loop-left.invariant.digits;
      before = fronts_before xs ys k (v % 10) fronts;
      product = place_more xs ys k v f c.loop-left.carry (omega arith) same (ap (λ d. d * f + c.loop-left.carry) (digit_before xs ys k fronts))
          (rw next c.loop-left.invariant.product);
    }

pub returns-clause-product : goal.returns-clause-product
returns-clause-product c =
    let none : c.loop-left.left ≡ 0 = omega (arith, c.loop-left-test.false) in
    let all : length c.args.digits.now - 0 ≡ length c.args.digits.now = omega arith in
    carried_out _ c.loop-left.carry _ _ (rw (none, all) at c.loop-left.invariant.product) c.requires.room
