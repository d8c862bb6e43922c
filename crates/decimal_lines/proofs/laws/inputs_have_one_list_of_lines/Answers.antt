use Rattle.decimal_lines.proofs.LineLaws.{lines_of-is, lines-unique}
use Rattle.decimal_lines.proofs.laws.inputs_have_one_list_of_lines.Goals as goal

pub returns-clause-exists : goal.returns-clause-exists
returns-clause-exists c = λ input. lines_of-is input

pub returns-clause-unique : goal.returns-clause-unique
returns-clause-unique c = λ input lines is. lines-unique input lines is
