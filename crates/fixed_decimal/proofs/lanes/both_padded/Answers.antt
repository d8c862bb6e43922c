use Rattle.std.proofs.Common.{◌≡◌, ◌-◌, ◌+◌, length, drop, replicate, refl}
use Rattle.fixed_decimal.proofs.LaneLemmas.{both_left}
use Rattle.fixed_decimal.proofs.lanes.both_padded.Goals as goal

pub returns : goal.returns
returns c =
    let zeros : drop (length c.args.back.now) c.split_at_mut-before.result.1.now ≡ replicate (16 - (length c.args.front.now + length c.args.back.now)) 0 =
    both_left c.args.front.now c.args.back.now _ _ c.split_at_mut-before.ensures.back refl c.requires in
    rw (c.copy_from_slice.ensures.after, c.copy_from_slice-2.ensures.after, zeros) refl
