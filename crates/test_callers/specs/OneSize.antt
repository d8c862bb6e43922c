-- What two equal compact texts determine.
use Rattle.std.specs.Prelude.{ℕ}
use Rattle.icu_decimal.specs.CompactFormat.{CompactFormat}
use Rattle.icu_decimal.specs.CompactNumber.{IsNearestCompact}

-- one compact number of a formatter's table is nearest to both sizes
pub record ShowOneSize (f : CompactFormat) (one other : ℕ) : Type 0 where
  pub shown : ℕ
  pub of_one : IsNearestCompact f.table one shown
  pub of_other : IsNearestCompact f.table other shown
