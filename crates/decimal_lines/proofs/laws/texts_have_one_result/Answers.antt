use Rattle.decimal_lines.proofs.Answering.{text_result-is, text_result-only}
use Rattle.decimal_lines.proofs.laws.texts_have_one_result.Goals as goal

pub returns-clause-exists : goal.returns-clause-exists
returns-clause-exists c = λ mode text has. text_result-is mode text has

pub returns-clause-unique : goal.returns-clause-unique
returns-clause-unique c = λ mode text result is. text_result-only mode text result is
