-- The settings of a skeleton as data: a lent name is its bytes.
use Rattle.std.specs.Prelude.{ℕ, ℤ, Bool, List, Option, option_map}
use Rattle.std.specs.Borrow.{Bor}
use Rattle.fixed_decimal.specs.declared.modes.SignedRoundingMode.{SignedRoundingMode}
use Rattle.fixed_decimal.specs.declared.signs.SignDisplay.{SignDisplay}
use Rattle.skeleton_settings.specs.declared.settings.CurrencyLetters.{CurrencyLetters}
use Rattle.skeleton_settings.specs.declared.settings.Grouping.{Grouping}
use Rattle.skeleton_settings.specs.declared.settings.Notation.{Notation}
use Rattle.skeleton_settings.specs.declared.settings.NumberUnit.{NumberUnit}
use Rattle.skeleton_settings.specs.declared.settings.NumberUnit.TheVariants as number_unit
use Rattle.skeleton_settings.specs.declared.settings.Precision.{Precision}
use Rattle.skeleton_settings.specs.declared.settings.Skeleton.{Skeleton}
use Rattle.skeleton_settings.specs.declared.settings.UnitWidth.{UnitWidth}

-- what a number counts
pub data UnitData : Type 0 where
  nothing : UnitData
  percent : UnitData
  permille : UnitData
  currency : CurrencyLetters → UnitData
  named : List ℕ → UnitData

-- the settings, with defaults
pub record SkeletonData : Type 0 where
  pub notation : Notation
  pub unit : UnitData
  pub width : UnitWidth
  pub precision : Option Precision
  pub hides_zeros_of_whole : Bool
  pub mode : SignedRoundingMode
  pub integer_digits : ℕ
  pub scale : ℤ
  pub grouping : Option Grouping
  pub system : Option (List ℕ)
  pub sign : SignDisplay
  pub is_accounting : Bool

-- the bytes of a lent name
abbrev pub name_data : Bor (List ℕ) → List ℕ
name_data name = name.now

abbrev pub unit_data : NumberUnit → UnitData
unit_data number_unit.None = nothing
unit_data number_unit.Percent = percent
unit_data number_unit.Permille = permille
unit_data (number_unit.Currency letters) = currency letters
unit_data (number_unit.Named name) = named (name_data name)

abbrev pub skeleton_data : Skeleton → SkeletonData
skeleton_data s = record {
  notation = s.notation;
  unit = unit_data s.unit;
  width = s.width;
  precision = s.precision;
  hides_zeros_of_whole = s.hides_zeros_of_whole;
  mode = s.mode;
  integer_digits = s.integer_digits;
  scale = s.scale;
  grouping = s.grouping;
  system = option_map name_data s.system;
  sign = s.sign;
  is_accounting = s.is_accounting;
}
