use Rattle.decimal_lines.specs.LineResults.{text_result}
use Rattle.decimal_lines.proofs.Apart.{pieces_apart}
use Rattle.decimal_lines.proofs.Parts.{output_of-append}
use Rattle.decimal_lines.proofs.laws.lines_run_apart.Goals as goal

pub returns-clause-two : goal.returns-clause-two
returns-clause-two c = λ mode first second whole. output_of-append (text_result mode) first second whole

pub returns-clause-pieces : goal.returns-clause-pieces
returns-clause-pieces c = λ mode pieces last whole. pieces_apart (text_result mode) pieces last whole
