-- What a text with a suffix is read as (coreutils `numfmt --from`): its number times its unit.
-- By `iec`, `1.5K` is 1.5 * 1024 = 1536, and `007.50` is 7.50; by `si`, `1.5K` is 1500.
use Rattle.std.specs.Prelude.{◌≡◌, ℕ, zero, suc, ◌*◌, ◌^◌, ◌≤◌, ◌⊎◌, ⊤, List, Ok, pos}
use Rattle.std.specs.Int.{int_max}
use Rattle.fixed_decimal.specs.declared.signs.Sign.{Sign}
use Rattle.fixed_decimal.specs.Unsigned.{Unsigned, IsWithinLimits, high}
use Rattle.fixed_decimal.specs.Size.{size, magnitude, ten_to}
use Rattle.fixed_decimal.specs.Modes.{IsLeastFrom}
use Rattle.fixed_decimal.specs.Padding.{IsExactWith}
use Rattle.fixed_decimal.specs.Text.{Reads}
use Rattle.scaled_units.specs.declared.scale.FromScale.{FromScale}
use Rattle.scaled_units.specs.declared.scale.Unit.{Unit}
use Rattle.scaled_units.specs.declared.error.NotScaled.{NotScaled}
use Rattle.scaled_units.specs.declared.error.NotScaled.TheVariants.{Number, UnknownSuffix, SuffixNotTaken, MissingI, BehindSuffix, Limit, OutOfMemory}
use Rattle.scaled_units.specs.Scales.{base_value}
use Rattle.scaled_units.specs.Suffixes.{text_unit, number_part}

-- the number of a unit
abbrev pub unit_value : Unit → ℕ
unit_value unit = base_value unit.base ^ unit.power

-- d is written without zeros in front, and below power 0 with the digits that it needs, that many at least
pub record IsWritten (d : Unsigned) (least : ℕ) : Type 0 where
  pub high_is : high d ≡ int_max (pos 0) (magnitude (size d))
  pub scale_is : IsLeastFrom (IsExactWith (size d)) least d.scale

-- how many digits below power 0 stay at least: those of the number where it has no suffix
abbrev pub digits_kept : ℕ → ℕ → ℕ
digits_kept zero scale = scale
digits_kept (suc power) scale = 0

-- d is a number times a unit
pub record IsInUnit (unit : Unit) (number d : Unsigned) : Type 0 where
  pub size_is : size d ≡ size number * unit_value unit
  pub written : IsWritten d (digits_kept unit.power number.scale)

-- the sign and the number that a text is read as
pub record IsRead (scale : FromScale) (text : List ℕ) (sign : Sign) (d : Unsigned) : Type 0 where
  pub unit : Unit
  pub unit_is : text_unit scale text ≡ Ok unit
  pub number : Unsigned
  pub reads : Reads (number_part text) sign number
  pub in_unit : IsInUnit unit number d

-- a text spells a number that has a power out of range, or has one times the unit
pub record IsPastLimits (text : List ℕ) (unit : Unit) : Type 0 where
  pub sign : Sign
  pub number : Unsigned
  pub reads : Reads text sign number
  pub past : (¬ (IsWithinLimits number)) ⊎ (ten_to (pos 32768) ≤ size number * unit_value unit)

-- the number of a text, or the number times its unit, has a power out of range
pub record IsReadPastLimits (scale : FromScale) (text : List ℕ) : Type 0 where
  pub unit : Unit
  pub unit_is : text_unit scale text ≡ Ok unit
  pub past : IsPastLimits (number_part text) unit

-- whether a fault is one of the suffix
abbrev pub IsOfSuffix : NotScaled → Type 0
IsOfSuffix Number = ⊥
IsOfSuffix (UnknownSuffix at) = ⊤
IsOfSuffix (SuffixNotTaken at) = ⊤
IsOfSuffix (MissingI at) = ⊤
IsOfSuffix (BehindSuffix at) = ⊤
IsOfSuffix Limit = ⊥
IsOfSuffix OutOfMemory = ⊥
