use Rattle.std.proofs.Common.{sym}
use Rattle.locnum_lines.proofs.records.is_csv_open_behind.Goals as goal

pub returns-then-ends_outside : goal.returns-then-ends_outside
returns-then-ends_outside c = sym (c.ends_outside.ensures c.if-ends_outside.true c.args.before)
