use Rattle.std.proofs.Common.{rules, arith, ◌≡◌, ◌≤◌, ◌^◌}
use Rattle.std.proofs.Math.Nat.{pow-le-pow_right}
use Rattle.fixed_decimal.proofs.Weights.{ten_pos}
use Rattle.locnum_explain.proofs.around.ten_to.Goals as goal

pub returns-clause-some : goal.returns-clause-some
returns-clause-some c =
    let power : c.pow.result ≡ 10 ^ c.args.power = search rules in
    omega (arith, ten_pos c.args.power)

pub returns-clause-small : goal.returns-clause-small
returns-clause-small c =
    let power : c.pow.result ≡ 10 ^ c.args.power = search rules in
    let most : 10 ^ c.args.power ≤ 10 ^ 18 = pow-le-pow_right (omega arith) c.requires in
    omega arith
