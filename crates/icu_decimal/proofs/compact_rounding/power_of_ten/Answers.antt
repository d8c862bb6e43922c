use Rattle.std.proofs.Common.{ap}
use Rattle.std.proofs.lemmas.Int.{to_z-of_z}
use Rattle.fixed_decimal.specs.Size.{size}
use Rattle.icu_decimal.proofs.PowerPlaces.{ten_to-from_one}
use Rattle.icu_decimal.proofs.compact_rounding.power_of_ten.Goals as goal

pub returns-in-Ok-clause-size : goal.returns-in-Ok-clause-size
returns-in-Ok-clause-size c =
    let fits = c.ranges.power in
    ten_to-from_one c.args.power _ _ c.requires (ap size c.in_ok-one.ensures.one) (simp to_z-of_z at c.in-Ok.ensures.size)
