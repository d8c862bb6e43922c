-- Goals that a search finds; it is not tried longer where one is false.
use Rattle.std.proofs.Common.{rules}
use Rattle.icu_decimal.proofs.compact_formatter.CompactDecimalFormatter.try_new_short_unstable.Goals as goal

pub returns-clause-answers : goal.returns-clause-answers
returns-clause-answers g c = search rules

pub returns-clause-table : goal.returns-clause-table
returns-clause-table g c = search rules
