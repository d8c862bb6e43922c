use Rattle.std.proofs.lemmas.Int.{to_z-of_z}
use Rattle.fixed_decimal.proofs.signed.Decimal.rounded_with_mode_and_increment.Goals as goal

pub returns-in-Ok-clause-limit : goal.returns-in-Ok-clause-limit
returns-in-Ok-clause-limit c = let fits = c.ranges.power in rw (← c.is_negative-minus.ensures) (simp to_z-of_z at c.in-Ok.ensures.limit)
