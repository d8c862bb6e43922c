-- What one token sets.
use Rattle.std.specs.Prelude.{ℕ, ℤ, pos, Bool, List, Some, None}
use Rattle.fixed_decimal.specs.declared.modes.SignedRoundingMode.{SignedRoundingMode}
use Rattle.number_skeleton.specs.declared.draft.DecimalDisplay.TheVariants.{Auto}
use Rattle.number_skeleton.specs.declared.draft.Signs.{Signs}
use Rattle.skeleton_settings.specs.declared.settings.Grouping.{Grouping}
use Rattle.skeleton_settings.specs.declared.settings.Notation.{Notation}
use Rattle.skeleton_settings.specs.declared.settings.Precision.{Precision}
use Rattle.skeleton_settings.specs.declared.settings.UnitWidth.{UnitWidth}
use Rattle.skeleton_settings.specs.Settings.{UnitData, percent}
use Rattle.number_skeleton.specs.Data.{DraftData}

-- a notation
abbrev pub only_notation : Notation → DraftData
only_notation n = record {
  notation = Some n;
  unit = None;
  width = None;
  digits = None;
  mode = None;
  integer_digits = None;
  scale = None;
  grouping = None;
  system = None;
  signs = None;
  decimal = None;
}

-- a unit
abbrev pub only_unit : UnitData → DraftData
only_unit u = record {
  notation = None;
  unit = Some u;
  width = None;
  digits = None;
  mode = None;
  integer_digits = None;
  scale = None;
  grouping = None;
  system = None;
  signs = None;
  decimal = None;
}

-- a width
abbrev pub only_width : UnitWidth → DraftData
only_width w = record {
  notation = None;
  unit = None;
  width = Some w;
  digits = None;
  mode = None;
  integer_digits = None;
  scale = None;
  grouping = None;
  system = None;
  signs = None;
  decimal = None;
}

-- a precision, and whether `/w` stands behind it
abbrev pub only_digits : Precision → Bool → DraftData
only_digits p hides = record {
  notation = None;
  unit = None;
  width = None;
  digits = Some (record { precision = p; hides_zeros_of_whole = hides });
  mode = None;
  integer_digits = None;
  scale = None;
  grouping = None;
  system = None;
  signs = None;
  decimal = None;
}

-- a rounding mode
abbrev pub only_mode : SignedRoundingMode → DraftData
only_mode m = record {
  notation = None;
  unit = None;
  width = None;
  digits = None;
  mode = Some m;
  integer_digits = None;
  scale = None;
  grouping = None;
  system = None;
  signs = None;
  decimal = None;
}

-- a least count of integer digits
abbrev pub only_integer_digits : ℕ → DraftData
only_integer_digits n = record {
  notation = None;
  unit = None;
  width = None;
  digits = None;
  mode = None;
  integer_digits = Some n;
  scale = None;
  grouping = None;
  system = None;
  signs = None;
  decimal = None;
}

-- a power of ten
abbrev pub only_scale : ℤ → DraftData
only_scale k = record {
  notation = None;
  unit = None;
  width = None;
  digits = None;
  mode = None;
  integer_digits = None;
  scale = Some k;
  grouping = None;
  system = None;
  signs = None;
  decimal = None;
}

-- a grouping
abbrev pub only_grouping : Grouping → DraftData
only_grouping g = record {
  notation = None;
  unit = None;
  width = None;
  digits = None;
  mode = None;
  integer_digits = None;
  scale = None;
  grouping = Some g;
  system = None;
  signs = None;
  decimal = None;
}

-- a numbering system
abbrev pub only_system : List ℕ → DraftData
only_system name = record {
  notation = None;
  unit = None;
  width = None;
  digits = None;
  mode = None;
  integer_digits = None;
  scale = None;
  grouping = None;
  system = Some name;
  signs = None;
  decimal = None;
}

-- signs
abbrev pub only_signs : Signs → DraftData
only_signs s = record {
  notation = None;
  unit = None;
  width = None;
  digits = None;
  mode = None;
  integer_digits = None;
  scale = None;
  grouping = None;
  system = None;
  signs = Some s;
  decimal = None;
}

-- the decimal separator as it is by default
abbrev pub only_decimal : DraftData
only_decimal = record {
  notation = None;
  unit = None;
  width = None;
  digits = None;
  mode = None;
  integer_digits = None;
  scale = None;
  grouping = None;
  system = None;
  signs = None;
  decimal = Some Auto;
}

-- percent, of a number times a hundred
abbrev pub percent_times_hundred : DraftData
percent_times_hundred = record {
  notation = None;
  unit = Some percent;
  width = None;
  digits = None;
  mode = None;
  integer_digits = None;
  scale = Some (pos 2);
  grouping = None;
  system = None;
  signs = None;
  decimal = None;
}

-- nothing
abbrev pub nothing_data : DraftData
nothing_data = record {
  notation = None;
  unit = None;
  width = None;
  digits = None;
  mode = None;
  integer_digits = None;
  scale = None;
  grouping = None;
  system = None;
  signs = None;
  decimal = None;
}
