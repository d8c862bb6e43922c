use Rattle.std.proofs.Common.{arith, rules}
use Rattle.std.proofs.lemmas.Grind.{common_steps}
use Rattle.icu_decimal.proofs.CompactShown.{compacted_of}
use Rattle.icu_decimal.proofs.compact_formatter.CompactDecimalFormatter.format_unsigned.Goals as goal

pub returns-in_err-compacted-clause-nearest : goal.returns-in_err-compacted-clause-nearest
returns-in_err-compacted-clause-nearest c = search rules

pub returns-in_err-compacted-clause-overflow : goal.returns-in_err-compacted-clause-overflow
returns-in_err-compacted-clause-overflow c = search rules

pub returns-in_err-compacted-clause-no_sink : goal.returns-in_err-compacted-clause-no_sink
returns-in_err-compacted-clause-no_sink c = search rules

pub returns-clause-overflow : goal.returns-clause-overflow
returns-clause-overflow c = grind (arith, common_steps)

pub returns-clause-no_sink : goal.returns-clause-no_sink
returns-clause-no_sink c = search rules

pub returns-clause-value : goal.returns-clause-value
returns-clause-value c =
    rw (← c.self.view_is)
    (compacted_of _ _ _ _ _ _ c.format_unsigned-number.result _ c.in_ok-compacted.ensures.decomposed.1 c.in_ok-compacted.ensures.exponent
    (rw (← c.self.view_is) at c.pattern_of-pattern.ensures) c.format_unsigned-number.ensures)
