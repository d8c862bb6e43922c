use Rattle.std.proofs.lemmas.Int.{to_z-of_z}
use Rattle.fixed_decimal.proofs.Rounded.{not_past_by}
use Rattle.fixed_decimal.proofs.unsigned.UnsignedDecimal.round_with_mode.Goals as goal

pub returns-in-Ok-clause-limit : goal.returns-in-Ok-clause-limit
returns-in-Ok-clause-limit c =
    let fits = c.ranges.power in
    let e = simp (c.deref.ensures, to_z-of_z, c.size_mode-mode.ensures) at c.in-Some.ensures in
    rw (← c.self.view_is) (λ other. absurd (cc), λ past. absurd (not_past_by _ _ _ _ c.args.power e.valid e.rounded past))

pub returns-in-Err-clause-limit : goal.returns-in-Err-clause-limit
returns-in-Err-clause-limit c =
    let fits = c.ranges.power in
    let e = simp (c.deref.ensures, to_z-of_z, c.size_mode-mode.ensures) at c.in-Some.ensures in
    rw (← c.self.view_is) (λ other. absurd (cc), λ past. absurd (not_past_by _ _ _ _ c.args.power e.valid e.rounded past))
