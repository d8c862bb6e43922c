-- Goals that a search finds; it is not tried longer where one is false.
use Rattle.std.proofs.Common.{rules}
use Rattle.icu_decimal_data.proofs.compact.CompactPatterns.copy.Goals as goal

pub returns-in_err-from_slice-clause-equal : goal.returns-in_err-from_slice-clause-equal
returns-in_err-from_slice-clause-equal g c = search rules

pub returns-in_err-from_slice-clause-memory : goal.returns-in_err-from_slice-clause-memory
returns-in_err-from_slice-clause-memory g c = search rules

pub invariant_of-result : goal.invariant_of-result
invariant_of-result g c = search rules

pub returns-clause-equal : goal.returns-clause-equal
returns-clause-equal g c = search rules

pub returns-clause-memory : goal.returns-clause-memory
returns-clause-memory g c = search rules
