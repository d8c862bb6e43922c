use Rattle.std.proofs.Common.{rules}
use Rattle.icu_decimal.proofs.compact_formatter.CompactDecimalFormatter.format_to_string.Goals as goal

-- the text is that of the number's events
pub returns-in-Ok-clause-nearest : goal.returns-in-Ok-clause-nearest
returns-in-Ok-clause-nearest c = search rules
