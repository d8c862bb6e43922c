-- What the tokens of a skeleton set, as data: a lent name is its bytes.
use Rattle.std.specs.Prelude.{ℕ, ℤ, List, Option, None, Result, Ok, Err, option_map}
use Rattle.fixed_decimal.specs.declared.modes.SignedRoundingMode.{SignedRoundingMode}
use Rattle.number_skeleton.specs.declared.draft.DecimalDisplay.{DecimalDisplay}
use Rattle.number_skeleton.specs.declared.draft.Digits.{Digits}
use Rattle.number_skeleton.specs.declared.draft.Draft.{Draft}
use Rattle.number_skeleton.specs.declared.draft.Signs.{Signs}
use Rattle.number_skeleton.specs.declared.fault.SkeletonFault.{SkeletonFault}
use Rattle.skeleton_settings.specs.declared.settings.Grouping.{Grouping}
use Rattle.skeleton_settings.specs.declared.settings.Notation.{Notation}
use Rattle.skeleton_settings.specs.declared.settings.Skeleton.{Skeleton}
use Rattle.skeleton_settings.specs.declared.settings.UnitWidth.{UnitWidth}
use Rattle.skeleton_settings.specs.Settings.{SkeletonData, UnitData, name_data, unit_data, skeleton_data}

-- what is set
pub record DraftData : Type 0 where
  pub notation : Option Notation
  pub unit : Option UnitData
  pub width : Option UnitWidth
  pub digits : Option Digits
  pub mode : Option SignedRoundingMode
  pub integer_digits : Option ℕ
  pub scale : Option ℤ
  pub grouping : Option Grouping
  pub system : Option (List ℕ)
  pub signs : Option Signs
  pub decimal : Option DecimalDisplay

abbrev pub draft_data : Draft → DraftData
draft_data d = record {
  notation = d.notation;
  unit = option_map unit_data d.unit;
  width = d.width;
  digits = d.digits;
  mode = d.mode;
  integer_digits = d.integer_digits;
  scale = d.scale;
  grouping = d.grouping;
  system = option_map name_data d.system;
  signs = d.signs;
  decimal = d.decimal;
}

-- the data of what was read, or the fault
abbrev pub drafted : Result Draft SkeletonFault → Result DraftData SkeletonFault
drafted (Ok d) = Ok (draft_data d)
drafted (Err fault) = Err fault

abbrev pub read : Result Skeleton SkeletonFault → Result SkeletonData SkeletonFault
read (Ok s) = Ok (skeleton_data s)
read (Err fault) = Err fault

-- nothing is set
abbrev pub nothing_drafted : Draft
nothing_drafted = record {
  notation = None;
  unit = None;
  width = None;
  digits = None;
  mode = None;
  integer_digits = None;
  scale = None;
  grouping = None;
  system = None;
  signs = None;
  decimal = None;
}
