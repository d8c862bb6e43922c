-- Goals that a search finds; it is not tried longer where one is false.
use Rattle.std.proofs.Common.{rules}
use Rattle.icu_decimal.proofs.loading.load_compact.Goals as goal

pub returns-in_err-formatter-clause-answers : goal.returns-in_err-formatter-clause-answers
returns-in_err-formatter-clause-answers g c = search rules

pub returns-in_err-formatter-clause-table : goal.returns-in_err-formatter-clause-table
returns-in_err-formatter-clause-table g c = search rules

pub returns-in_err-rules-clause-answers : goal.returns-in_err-rules-clause-answers
returns-in_err-rules-clause-answers g c = search rules

pub returns-in_err-rules-clause-table : goal.returns-in_err-rules-clause-table
returns-in_err-rules-clause-table g c = search rules

pub returns-in_err-patterns-clause-answers : goal.returns-in_err-patterns-clause-answers
returns-in_err-patterns-clause-answers g c = search rules

pub returns-in_err-patterns-clause-table : goal.returns-in_err-patterns-clause-table
returns-in_err-patterns-clause-table g c = search rules

pub returns-clause-answers : goal.returns-clause-answers
returns-clause-answers g c = search rules

pub returns-clause-table : goal.returns-clause-table
returns-clause-table g c = search rules
