use Rattle.std.proofs.Common.{rules}
use Rattle.icu_decimal.proofs.decimal_formatter.DecimalFormatter.format_to_string.Goals as goal

-- the text is that of the number's events
pub returns-in-Ok-clause-text : goal.returns-in-Ok-clause-text
returns-in-Ok-clause-text c = search rules
