use Rattle.std.proofs.Common.{◌≡◌, ◌*◌, arith}
use Rattle.std.proofs.lemmas.Int.{to_z-of_z}
use Rattle.fixed_decimal.specs.Size.{ten_to}
use Rattle.fixed_decimal.proofs.unsigned.UnsignedDecimal.rounded_with_mode_and_increment.Goals as goal

pub returns-in-MultiplesOf1-clause-limit : goal.returns-in-MultiplesOf1-clause-limit
returns-in-MultiplesOf1-clause-limit c =
    let fits = c.ranges.power in
    let one : 1 * ten_to c.args.power ≡ ten_to c.args.power = omega arith in
    rw (c.in-MultiplesOf1.is, one) (simp to_z-of_z at c.rounded_with_mode.ensures.limit)
