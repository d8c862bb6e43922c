-- What a form is to be, besides the tables.
use Rattle.std.specs.Prelude.{ℕ, ℤ, Bool, true, false, List, Option, codes}
use Rattle.fixed_decimal.specs.declared.modes.SignedRoundingMode.{SignedRoundingMode}
use Rattle.fixed_decimal.specs.declared.modes.SignedRoundingMode.TheVariants.{Unsigned as OfSizes, Ceil, Floor, HalfCeil, HalfFloor}
use Rattle.fixed_decimal.specs.declared.modes.UnsignedRoundingMode.TheVariants.{Expand, Trunc, HalfExpand, HalfTrunc, HalfEven}
use Rattle.fixed_decimal.specs.declared.signs.SignDisplay.{SignDisplay}
use Rattle.skeleton_settings.specs.declared.settings.Precision.{Precision}
use Rattle.number_formatters.specs.declared.settings.FormGrouping.{FormGrouping}
use Rattle.number_formatters.specs.declared.settings.Kind.{Kind}
use Rattle.number_formatters.specs.declared.settings.UnitName.{UnitName}
use Rattle.number_formatters.specs.declared.settings.UnitName.TheVariants as unit

-- half to even
abbrev pub is_half_even : SignedRoundingMode → Bool
is_half_even (OfSizes Expand) = false
is_half_even (OfSizes Trunc) = false
is_half_even (OfSizes HalfExpand) = false
is_half_even (OfSizes HalfTrunc) = false
is_half_even (OfSizes HalfEven) = true
is_half_even Ceil = false
is_half_even Floor = false
is_half_even HalfCeil = false
is_half_even HalfFloor = false

-- the name of a unit in the tables
abbrev pub unit_text : UnitName → List ℕ
unit_text unit.Percent = codes "percent"
unit_text unit.Permille = codes "permille"
unit_text (unit.Named name) = name.now

-- what is asked for; without a system none is preferred, without a grouping or a precision the default of the kind applies
pub record FormSettings : Type 0 where
  pub locale : List ℕ
  pub system : Option (List ℕ)
  pub grouping : Option FormGrouping
  pub precision : Option Precision
  pub mode : SignedRoundingMode
  pub hides_zeros_of_whole : Bool
  pub integer_digits : ℕ
  pub scale : ℤ
  pub sign : SignDisplay
  pub kind : Kind
