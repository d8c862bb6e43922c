use Rattle.std.proofs.lemmas.Int.{to_z-of_z}
use Rattle.fixed_decimal.proofs.unsigned.UnsignedDecimal.rounded_with_mode.Goals as goal

pub returns-in-Ok-clause-limit : goal.returns-in-Ok-clause-limit
returns-in-Ok-clause-limit c =
    let fits = c.ranges.power in
    let r = simp to_z-of_z at c.in-Ok.ensures.limit in
    (λ none. absurd none, λ past. let e = r.1 past in absurd (cc))
