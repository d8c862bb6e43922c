-- The goals that a search finds at once; it is not tried longer where one is false.
use Rattle.std.proofs.Common.{rules}
use Rattle.icu_provider.proofs.identifier.DataIdentifierBorrowedPartialEq.eq.Goals as goal

pub returns-clause-computed : goal.returns-clause-computed
returns-clause-computed c = search rules

pub returns-clause-same : goal.returns-clause-same
returns-clause-same c = search rules
