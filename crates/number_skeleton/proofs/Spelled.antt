-- Settings that are one word are read of their canonical token.
use Rattle.std.proofs.Common.{ℕ, ℤ, List, [], Bool, true, false, refl, arith}
use Rattle.std.specs.Prelude.{Option, Some, None, codes}
use Rattle.fixed_decimal.specs.declared.modes.SignedRoundingMode.{SignedRoundingMode}
use Rattle.fixed_decimal.specs.declared.modes.SignedRoundingMode.TheVariants as mode
use Rattle.fixed_decimal.specs.declared.modes.UnsignedRoundingMode.TheVariants as unsigned_mode
use Rattle.fixed_decimal.specs.declared.signs.SignDisplay.{SignDisplay}
use Rattle.fixed_decimal.specs.declared.signs.SignDisplay.TheVariants as sign
use Rattle.number_skeleton.specs.declared.draft.Digits.{Digits}
use Rattle.number_skeleton.specs.declared.draft.Signs.{Signs}
use Rattle.skeleton_settings.specs.declared.settings.Grouping.{Grouping}
use Rattle.skeleton_settings.specs.declared.settings.Grouping.TheVariants as grouping
use Rattle.skeleton_settings.specs.declared.settings.Notation.{Notation}
use Rattle.skeleton_settings.specs.declared.settings.Notation.TheVariants as notation
use Rattle.skeleton_settings.specs.declared.settings.UnitWidth.{UnitWidth}
use Rattle.skeleton_settings.specs.declared.settings.UnitWidth.TheVariants as width
use Rattle.number_skeleton.specs.Bytes.{piece_len}
use Rattle.skeleton_settings.specs.Canonical.{put, notation_text, mode_text, grouping_text, width_text, sign_text}
use Rattle.skeleton_settings.specs.Settings.{UnitData}
use Rattle.number_skeleton.specs.Data.{DraftData}
use Rattle.number_skeleton.specs.Laws.{AreSigns}
use Rattle.number_skeleton.specs.Options.{ended}
use Rattle.number_skeleton.specs.Stems.{stem_of, named_stem}
use Rattle.number_skeleton.specs.Tokens.{with_token, fresh}
use Rattle.number_skeleton.specs.Values.{value_of}
use Rattle.number_skeleton.specs.Words.{sign_named, grouping_named, mode_named, width_named, plain_stem, signs_of}
use Rattle.number_skeleton.proofs.Joined.{Written, written-nothing, written-more}

-- a draft of its parts
abbrev pub drafted : Option Notation → Option UnitData → Option Digits → Option SignedRoundingMode → Option Grouping → Option ℕ → Option (List
    ℕ) → Option UnitWidth →
    Option Signs → Option ℤ → DraftData
drafted n u d m g i y w s k = record {
  notation = n;
  unit = u;
  width = w;
  digits = d;
  mode = m;
  integer_digits = i;
  scale = k;
  grouping = g;
  system = y;
  signs = s;
  decimal = None;
}

-- what the canonical token of a notation sets
abbrev pub set_notation : Notation → Option Notation
set_notation notation.Simple = None
set_notation notation.CompactShort = Some notation.CompactShort
set_notation notation.CompactLong = Some notation.CompactLong

pub put_notation : (n : Notation) → Written (put [] (notation_text n)) (drafted (set_notation n) None None None None None None None None None)
unfolding with_token piece_len stem_of named_stem plain_stem fresh value_of ended
put_notation notation.Simple = written-nothing
put_notation notation.CompactShort = written-more [] (codes "compact-short") _ _ written-nothing refl (omega arith) (λ at. refl)
put_notation notation.CompactLong = written-more [] (codes "compact-long") _ _ written-nothing refl (omega arith) (λ at. refl)

-- what the canonical token of a rounding mode sets
abbrev pub set_mode : SignedRoundingMode → Option SignedRoundingMode
set_mode (mode.Unsigned unsigned_mode.HalfEven) = None
set_mode (mode.Unsigned unsigned_mode.Expand) = Some (mode.Unsigned unsigned_mode.Expand)
set_mode (mode.Unsigned unsigned_mode.Trunc) = Some (mode.Unsigned unsigned_mode.Trunc)
set_mode (mode.Unsigned unsigned_mode.HalfExpand) = Some (mode.Unsigned unsigned_mode.HalfExpand)
set_mode (mode.Unsigned unsigned_mode.HalfTrunc) = Some (mode.Unsigned unsigned_mode.HalfTrunc)
set_mode mode.Ceil = Some mode.Ceil
set_mode mode.Floor = Some mode.Floor
set_mode mode.HalfCeil = Some mode.HalfCeil
set_mode mode.HalfFloor = Some mode.HalfFloor

-- rounding modes
pub put_mode : (n : Option Notation) (u : Option UnitData) (d : Option Digits) (out : List ℕ) (x : SignedRoundingMode) →
    Written out (drafted n u d None None None None None None None) → Written (put out (mode_text x)) (drafted n u d (set_mode x) None None None None None
    None)
unfolding with_token piece_len stem_of named_stem mode_named fresh value_of ended
put_mode n u d out (mode.Unsigned unsigned_mode.HalfEven) h = h
put_mode n u d out (mode.Unsigned unsigned_mode.Expand) h = written-more out (codes "rounding-mode-up") _ _ h refl (omega arith) (λ at. refl)
put_mode n u d out (mode.Unsigned unsigned_mode.Trunc) h = written-more out (codes "rounding-mode-down") _ _ h refl (omega arith) (λ at. refl)
put_mode n u d out (mode.Unsigned unsigned_mode.HalfExpand) h = written-more out (codes "rounding-mode-half-up") _ _ h refl (omega arith) (λ at. refl)
put_mode n u d out (mode.Unsigned unsigned_mode.HalfTrunc) h = written-more out (codes "rounding-mode-half-down") _ _ h refl (omega arith) (λ at. refl)
put_mode n u d out mode.Ceil h = written-more out (codes "rounding-mode-ceiling") _ _ h refl (omega arith) (λ at. refl)
put_mode n u d out mode.Floor h = written-more out (codes "rounding-mode-floor") _ _ h refl (omega arith) (λ at. refl)
put_mode n u d out mode.HalfCeil h = written-more out (codes "rounding-mode-half-ceiling") _ _ h refl (omega arith) (λ at. refl)
put_mode n u d out mode.HalfFloor h = written-more out (codes "rounding-mode-half-floor") _ _ h refl (omega arith) (λ at. refl)

-- grouping
pub put_grouping : (n : Option Notation) (u : Option UnitData) (d : Option Digits) (m : Option SignedRoundingMode) (out : List ℕ) (x : Option Grouping) →
    Written out (drafted n u d m None None None None None None) → Written (put out (grouping_text x)) (drafted n u d m x None None None None None)
unfolding with_token piece_len stem_of named_stem grouping_named fresh value_of ended
put_grouping n u d m out None h = h
put_grouping n u d m out (Some grouping.Off) h = written-more out (codes "group-off") _ _ h refl (omega arith) (λ at. refl)
put_grouping n u d m out (Some grouping.Min2) h = written-more out (codes "group-min2") _ _ h refl (omega arith) (λ at. refl)
put_grouping n u d m out (Some grouping.Auto) h = written-more out (codes "group-auto") _ _ h refl (omega arith) (λ at. refl)
put_grouping n u d m out (Some grouping.OnAligned) h = written-more out (codes "group-on-aligned") _ _ h refl (omega arith) (λ at. refl)
put_grouping n u d m out (Some grouping.Thousands) h = written-more out (codes "group-thousands") _ _ h refl (omega arith) (λ at. refl)

-- what the canonical token of a width sets
abbrev pub set_width : UnitWidth → Option UnitWidth
set_width width.Narrow = Some width.Narrow
set_width width.Short = None
set_width width.FullName = Some width.FullName
set_width width.IsoCode = Some width.IsoCode
set_width width.Hidden = Some width.Hidden

-- widths
pub put_width : (n : Option Notation) (u : Option UnitData) (d : Option Digits) (m : Option SignedRoundingMode) (g : Option Grouping) (i : Option ℕ) (y :
    Option (List ℕ)) (out : List ℕ) (x : UnitWidth) →
    Written out (drafted n u d m g i y None None None) → Written (put out (width_text x)) (drafted n u d m g i y (set_width x) None None)
unfolding with_token piece_len stem_of named_stem width_named fresh value_of ended
put_width n u d m g i y out width.Narrow h = written-more out (codes "unit-width-narrow") _ _ h refl (omega arith) (λ at. refl)
put_width n u d m g i y out width.Short h = h
put_width n u d m g i y out width.FullName h = written-more out (codes "unit-width-full-name") _ _ h refl (omega arith) (λ at. refl)
put_width n u d m g i y out width.IsoCode h = written-more out (codes "unit-width-iso-code") _ _ h refl (omega arith) (λ at. refl)
put_width n u d m g i y out width.Hidden h = written-more out (codes "unit-width-hidden") _ _ h refl (omega arith) (λ at. refl)

-- what the canonical token of signs sets
abbrev pub set_signs : SignDisplay → Bool → Option Signs
set_signs sign.Auto false = None
set_signs sign.Always false = Some (signs_of sign.Always false)
set_signs sign.Never false = Some (signs_of sign.Never false)
set_signs sign.ExceptZero false = Some (signs_of sign.ExceptZero false)
set_signs sign.Negative false = Some (signs_of sign.Negative false)
set_signs sign.Auto true = Some (signs_of sign.Auto true)
set_signs sign.Always true = Some (signs_of sign.Always true)
set_signs sign.ExceptZero true = Some (signs_of sign.ExceptZero true)
set_signs sign.Negative true = Some (signs_of sign.Negative true)
set_signs sign.Never true = None

-- signs
pub put_signs : (n : Option Notation) (u : Option UnitData) (d : Option Digits) (m : Option SignedRoundingMode) (g : Option Grouping) (i : Option ℕ) (y :
    Option (List ℕ)) (w : Option UnitWidth) (out : List ℕ) (x : SignDisplay) (a : Bool) → AreSigns x a →
    Written out (drafted n u d m g i y w None None) → Written (put out (sign_text x a)) (drafted n u d m g i y w (set_signs x a) None)
unfolding with_token piece_len stem_of named_stem sign_named fresh value_of ended
put_signs n u d m g i y w out sign.Auto false e h = h
put_signs n u d m g i y w out sign.Always false e h = written-more out (codes "sign-always") _ _ h refl (omega arith) (λ at. refl)
put_signs n u d m g i y w out sign.Never false e h = written-more out (codes "sign-never") _ _ h refl (omega arith) (λ at. refl)
put_signs n u d m g i y w out sign.ExceptZero false e h = written-more out (codes "sign-except-zero") _ _ h refl (omega arith) (λ at. refl)
put_signs n u d m g i y w out sign.Negative false e h = written-more out (codes "sign-negative") _ _ h refl (omega arith) (λ at. refl)
put_signs n u d m g i y w out sign.Auto true e h = written-more out (codes "sign-accounting") _ _ h refl (omega arith) (λ at. refl)
put_signs n u d m g i y w out sign.Always true e h = written-more out (codes "sign-accounting-always") _ _ h refl (omega arith) (λ at. refl)
put_signs n u d m g i y w out sign.ExceptZero true e h = written-more out (codes "sign-accounting-except-zero") _ _ h refl (omega arith) (λ at. refl)
put_signs n u d m g i y w out sign.Negative true e h = written-more out (codes "sign-accounting-negative") _ _ h refl (omega arith) (λ at. refl)
put_signs n u d m g i y w out sign.Never true e h = absurd cc
