-- The plain text of a decimal, and the formatter of a run without arguments.
use Rattle.std.specs.Prelude.{ℕ, List, None, codes}
use Rattle.writeable.specs.Events.{text_of}
use Rattle.icu_decimal_symbols.specs.DecimalSymbols.{english_symbols}
use Rattle.fixed_decimal.specs.declared.signs.Sign.{Sign}
use Rattle.fixed_decimal.specs.Unsigned.{Unsigned}
use Rattle.icu_decimal.specs.Decimal.{DecimalFormat, decimal_events}

-- the characters that a plain formatter writes for a decimal
unfoldable pub plain_text : DecimalFormat → Sign → Unsigned → List ℕ
plain_text format sign d = text_of (decimal_events format sign d)

-- English symbols and digits, and the default options: `-1,234.5`
abbrev pub english : DecimalFormat
english = record { symbols = english_symbols; digits = codes "0123456789"; options = record { grouping_strategy = None } }
