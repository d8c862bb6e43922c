use Rattle.std.proofs.Common.{arith, FitsSigned, w16}
use Rattle.std.proofs.lemmas.Int.{ints, to_z-of_z}
use Rattle.number_rounding.proofs.PlaceLemmas.{place_counted}
use Rattle.number_rounding.proofs.StepPlaces.{one_divides, two_divides, five_divides, twenty_five_divides}
use Rattle.number_rounding.proofs.precision.increment_divides_one.Goals as goal

pub returns-in-MultiplesOf1 : goal.returns-in-MultiplesOf1
returns-in-MultiplesOf1 c =
    let fits : FitsSigned w16 c.args.power = omega (arith, ints) in
    rw (c.in-MultiplesOf1.is, to_z-of_z w16 c.args.power fits) (one_divides c.args.power (place_counted c.args.power fits))

pub returns-in-MultiplesOf2 : goal.returns-in-MultiplesOf2
returns-in-MultiplesOf2 c =
    let fits : FitsSigned w16 c.args.power = omega (arith, ints) in
    rw (c.in-MultiplesOf2.is, to_z-of_z w16 c.args.power fits) (two_divides c.args.power (place_counted c.args.power fits))

pub returns-in-MultiplesOf5 : goal.returns-in-MultiplesOf5
returns-in-MultiplesOf5 c =
    let fits : FitsSigned w16 c.args.power = omega (arith, ints) in
    rw (c.in-MultiplesOf5.is, to_z-of_z w16 c.args.power fits) (five_divides c.args.power (place_counted c.args.power fits))

pub returns-in-MultiplesOf25 : goal.returns-in-MultiplesOf25
returns-in-MultiplesOf25 c =
    let fits : FitsSigned w16 c.args.power = omega (arith, ints) in
    rw (c.in-MultiplesOf25.is, to_z-of_z w16 c.args.power fits) (twenty_five_divides c.args.power (place_counted c.args.power fits))
