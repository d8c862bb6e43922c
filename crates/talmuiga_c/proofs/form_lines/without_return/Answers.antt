use Rattle.std.proofs.Common.{arith}
use Rattle.std.proofs.lemmas.Grind.{common_steps}
use Rattle.std.proofs.lemmas.Bool.Decides.{nat_tests}
use Rattle.decimal_lines.proofs.Returns.{without_return-value, without_return-empty}
use Rattle.talmuiga_c.proofs.form_lines.without_return.Goals as goal
use Rattle.talmuiga_c.proofs.form_lines.without_return.Goals.{else-not-is_empty-via-then-not-is_empty+else-line-eq13, else-not-is_empty-via-else-not-is_empty}

-- the line ends otherwise, or is empty
pub returns-else-not-is_empty : goal.returns-else-not-is_empty
returns-else-not-is_empty c = elim c.else-not-is_empty.branch [
  | else-not-is_empty-via-then-not-is_empty+else-line-eq13 w ↦ grind (arith, common_steps, without_return-value c.args.line.now)
  | else-not-is_empty-via-else-not-is_empty w ↦ without_return-empty c.args.line.now (grind (arith, nat_tests, c.is_empty.ensures))
]
