use Rattle.std.proofs.Common.{◌≡◌, FitsSigned, w16, pos, ◌+ℤ◌, arith}
use Rattle.std.proofs.lemmas.Int.{ints}
use Rattle.fixed_decimal.specs.Size.{place}
use Rattle.number_rounding.proofs.PlaceLemmas.{finest_is, place_counted}
use Rattle.number_rounding.proofs.places.place_of.Goals as goal

pub returns : goal.returns
returns c =
    let fits : FitsSigned w16 c.args.power = omega (arith, ints) in
    let at : pos (place c.args.power) ≡ c.args.power +ℤ pos 33024 = place_counted c.args.power fits in
    record { place = omega (arith, ints); high = omega (arith, ints, finest_is); low = omega (arith, ints, finest_is) }
