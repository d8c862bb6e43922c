-- Decimals without the zeros at their end (ICU4X `trimmed_end`).
use Rattle.std.specs.Prelude.{◌≡◌, ◌≢◌, ℕ, ◌+◌, ◌⊎◌, ◌++◌, replicate, pos}
use Rattle.fixed_decimal.specs.Unsigned.{Unsigned, low, digit_at}

-- no zero at its end below power 0
abbrev pub IsTrimmed : Unsigned → Type 0
IsTrimmed d = (low d ≡ pos 0) ⊎ (digit_at d (low d) ≢ 0)

-- y is d without the zeros at its end that stand below power 0; it has as many digits less below power 0
pub record IsTrimmedEnd (d y : Unsigned) : Type 0 where
  pub zeros : ℕ
  pub same : d.digits ≡ y.digits ++ replicate zeros 0
  pub shorter : d.scale ≡ y.scale + zeros
  pub last : IsTrimmed y
