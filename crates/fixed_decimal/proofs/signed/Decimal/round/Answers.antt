use Rattle.std.proofs.lemmas.Int.{to_z-of_z}
use Rattle.std.proofs.lemmas.Result.{on_ok_weaker}
use Rattle.fixed_decimal.proofs.Rounded.{half_even_rounded, half_even_past, past_half_even}
use Rattle.fixed_decimal.proofs.signed.Decimal.round.Goals as goal

pub returns-clause-rounded : goal.returns-clause-rounded
returns-clause-rounded c =
    let fits = c.ranges.power in
    let r = simp to_z-of_z at c.round_with_mode.ensures.rounded in
    on_ok_weaker c.round_with_mode.result (half_even_rounded c.args.self.now.absolute _ c.args.power) r

pub returns-clause-limit : goal.returns-clause-limit
returns-clause-limit c =
    let fits = c.ranges.power in
    let r = simp to_z-of_z at c.round_with_mode.ensures.limit in (
      λ e. half_even_past c.args.self.now.absolute c.args.power (r.0 e),
      λ past. r.1 (past_half_even c.args.self.now.absolute c.args.power past),
    )
