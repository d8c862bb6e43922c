use Rattle.decimal_lines.proofs.Runs.{unread}
use Rattle.decimal_lines.proofs.running.run.Goals as goal

pub returns-in_default-clause-err : goal.returns-in_default-clause-err
returns-in_default-clause-err g c = unread _ _ _
