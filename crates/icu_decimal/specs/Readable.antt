-- Compact formatters whose texts determine their numbers.
use Rattle.icu_decimal_readable.specs.Readable.{IsReadable, IsReadableTable}
use Rattle.icu_decimal.specs.CompactFormat.{CompactFormat}

-- A compact formatter is readable: its plain numbers are; each pattern has a placeholder and no digit; and the affixes and
-- the pattern around a number together determine the sign and the exponent.
pub record IsReadableCompact (f : CompactFormat) : Type 0 where
  pub plain_readable : IsReadable f.decimal.symbols.strings f.decimal.digits
  pub table_readable : IsReadableTable f.decimal.symbols.strings f.decimal.digits f.table
