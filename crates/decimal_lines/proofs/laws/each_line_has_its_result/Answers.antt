use Rattle.decimal_lines.proofs.EachLine.{output_has_results}
use Rattle.decimal_lines.proofs.laws.each_line_has_its_result.Goals as goal

pub returns : goal.returns
returns c = output_has_results _ c.mode_has_table.ensures
