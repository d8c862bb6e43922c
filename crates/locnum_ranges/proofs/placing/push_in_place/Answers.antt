use Rattle.locnum_lines.proofs.Cuts.{blanks_before-within, content_length-within}
use Rattle.locnum_ranges.proofs.placing.push_in_place.Goals as goal

pub split_at-requires : goal.split_at-requires
split_at-requires c = rw c.blanks_before.ensures (blanks_before-within c.args.text.now)

pub split_at-requires-2 : goal.split_at-requires-2
split_at-requires-2 c = rw c.content_length.ensures (content_length-within c.split_at.result.1.now)
