use Rattle.locnum_lines.proofs.Passing.{one-line}
use Rattle.locnum_lines.proofs.blocks.end_record.Goals as goal

pub push_record-requires-clause-count : goal.push_record-requires-clause-count
push_record-requires-clause-count c = one-line c.args.settings.now.end c.args.rest.now c.requires.rest_part
