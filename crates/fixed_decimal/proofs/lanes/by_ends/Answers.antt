use Rattle.std.proofs.Common.{◌-◌, length, replicate, refl}
use Rattle.std.proofs.lemmas.List.{take_rest}
use Rattle.fixed_decimal.proofs.LaneLemmas.{both_ends}
use Rattle.fixed_decimal.proofs.lanes.by_ends.Goals as goal

pub returns : goal.returns
returns c =
    both_ends c.args.text.now (replicate 16 0) _ _ _ _ c.args.part c.requires.part c.requires.both c.requires.short refl refl
    (take_rest c.args.text.now (length c.args.text.now - c.args.part)) c.with_text-front.ensures c.with_text.ensures
