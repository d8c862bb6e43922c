-- Goals that a search finds; it is not tried longer where one is false.
use Rattle.std.proofs.Common.{rules}
use Rattle.icu_pattern.proofs.pattern.Pattern.try_new.Goals as goal

pub returns-then-not-accepts-clause-bad_place : goal.returns-then-not-accepts-clause-bad_place
returns-then-not-accepts-clause-bad_place g c = search rules

pub returns-in_err-from_str-clause-bad_place : goal.returns-in_err-from_str-clause-bad_place
returns-in_err-from_str-clause-bad_place g c = search rules

pub invariant_of-result : goal.invariant_of-result
invariant_of-result g c = search rules

pub returns-clause-bad_place : goal.returns-clause-bad_place
returns-clause-bad_place g c = search rules
