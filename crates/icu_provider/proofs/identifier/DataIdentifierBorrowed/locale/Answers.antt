-- The goals that a search finds at once; it is not tried longer where one is false.
use Rattle.std.proofs.Common.{rules}
use Rattle.icu_provider.proofs.identifier.DataIdentifierBorrowed.locale.Goals as goal

pub returns-text : goal.returns-text
returns-text c = search rules

pub returns-clause-text : goal.returns-clause-text
returns-clause-text c = search rules

pub returns-clause-valid : goal.returns-clause-valid
returns-clause-valid c = search rules
