-- The canonical text of settings is read as these.
use Rattle.std.proofs.Common.{◌≡◌, ℕ, ℤ, pos, negsuc, suc, zero, Bool, true, false, refl, arith, sym}
use Rattle.std.proofs.lemmas.Bool.Decides.{nat_tests}
use Rattle.std.specs.Prelude.{Option, Some, None, Ok, ◌==◌, ◌&&◌, if◌then◌else◌, option_map}
use Rattle.fixed_decimal.specs.declared.modes.SignedRoundingMode.{SignedRoundingMode}
use Rattle.fixed_decimal.specs.declared.modes.SignedRoundingMode.TheVariants as mode
use Rattle.fixed_decimal.specs.declared.modes.UnsignedRoundingMode.TheVariants as unsigned_mode
use Rattle.fixed_decimal.specs.declared.signs.SignDisplay.{SignDisplay}
use Rattle.fixed_decimal.specs.declared.signs.SignDisplay.TheVariants as sign
use Rattle.number_skeleton.specs.declared.draft.Signs.{Signs}
use Rattle.skeleton_settings.specs.declared.settings.Notation.{Notation}
use Rattle.skeleton_settings.specs.declared.settings.Notation.TheVariants as notation
use Rattle.skeleton_settings.specs.declared.settings.Precision.{Precision}
use Rattle.skeleton_settings.specs.declared.settings.UnitWidth.{UnitWidth}
use Rattle.skeleton_settings.specs.declared.settings.UnitWidth.TheVariants as width
use Rattle.skeleton_settings.specs.Canonical.{canonical_of}
use Rattle.skeleton_settings.specs.Settings.{SkeletonData, UnitData, nothing, percent, permille, currency, named}
use Rattle.number_skeleton.specs.Data.{DraftData}
use Rattle.number_skeleton.specs.Drafts.{or_else, finished, digits_precision, hides_zeros, default_signs, is_compact, are_no_divisor}
use Rattle.number_skeleton.specs.Laws.{AreSettings, AreDigits, AreSigns, GoTogether}
use Rattle.number_skeleton.specs.Tokens.{skeleton_of}
use Rattle.number_skeleton.proofs.AllDigits.{put_digits, set_digits}
use Rattle.number_skeleton.proofs.Named.{put_unit, put_system, set_unit}
use Rattle.number_skeleton.proofs.Scales.{put_integer, put_scale, set_integer, set_scale}
use Rattle.number_skeleton.proofs.Spelled.{drafted, put_notation, put_mode, put_grouping, put_width, put_signs, set_notation, set_mode, set_width, set_signs}

-- defaults are what isn't set
notation_kept : (n : Notation) → or_else (set_notation n) notation.Simple ≡ n
notation_kept notation.Simple = refl
notation_kept notation.CompactShort = refl
notation_kept notation.CompactLong = refl

unit_kept : (u : UnitData) → or_else (set_unit u) nothing ≡ u
unit_kept nothing = refl
unit_kept percent = refl
unit_kept permille = refl
unit_kept (currency c) = refl
unit_kept (named name) = refl

width_kept : (w : UnitWidth) → or_else (set_width w) width.Short ≡ w
width_kept width.Narrow = refl
width_kept width.Short = refl
width_kept width.FullName = refl
width_kept width.IsoCode = refl
width_kept width.Hidden = refl

mode_kept : (m : SignedRoundingMode) → or_else (set_mode m) (mode.Unsigned unsigned_mode.HalfEven) ≡ m
mode_kept (mode.Unsigned unsigned_mode.HalfEven) = refl
mode_kept (mode.Unsigned unsigned_mode.Expand) = refl
mode_kept (mode.Unsigned unsigned_mode.Trunc) = refl
mode_kept (mode.Unsigned unsigned_mode.HalfExpand) = refl
mode_kept (mode.Unsigned unsigned_mode.HalfTrunc) = refl
mode_kept mode.Ceil = refl
mode_kept mode.Floor = refl
mode_kept mode.HalfCeil = refl
mode_kept mode.HalfFloor = refl

precision_kept : (p : Option Precision) (h : Bool) → option_map digits_precision (set_digits p h) ≡ p
precision_kept None h = refl
precision_kept (Some p) h = refl

hides_kept : (p : Option Precision) (h : Bool) → AreDigits p h → hides_zeros (set_digits p h) ≡ h
hides_kept None h k = sym k
hides_kept (Some p) h k = refl

integer_either : (x : Bool) (k : ℕ) → (x ≡ true → k ≡ 1) → or_else (if x then None else Some k) 1 ≡ k
integer_either true k f = sym (f refl)
integer_either false k f = refl

is_one : (k : ℕ) → (k == 1) ≡ true → k ≡ 1
is_one k h = grind (arith, nat_tests)

integer_kept : (k : ℕ) → or_else (set_integer k) 1 ≡ k
integer_kept k = integer_either (k == 1) k (is_one k)

scale_kept : (k : ℤ) → or_else (set_scale k) (pos 0) ≡ k
scale_kept (pos zero) = refl
scale_kept (pos (suc n)) = refl
scale_kept (negsuc n) = refl

abbrev signs_in : Option Signs → Signs
signs_in s = or_else s default_signs

display_kept : (s : SignDisplay) (a : Bool) → AreSigns s a → (signs_in (set_signs s a)).display ≡ s
display_kept sign.Auto false h = refl
display_kept sign.Always false h = refl
display_kept sign.Never false h = refl
display_kept sign.ExceptZero false h = refl
display_kept sign.Negative false h = refl
display_kept sign.Auto true h = refl
display_kept sign.Always true h = refl
display_kept sign.Never true h = absurd cc
display_kept sign.ExceptZero true h = refl
display_kept sign.Negative true h = refl

accounting_kept : (s : SignDisplay) (a : Bool) → AreSigns s a → (signs_in (set_signs s a)).is_accounting ≡ a
accounting_kept sign.Auto false h = refl
accounting_kept sign.Always false h = refl
accounting_kept sign.Never false h = refl
accounting_kept sign.ExceptZero false h = refl
accounting_kept sign.Negative false h = refl
accounting_kept sign.Auto true h = refl
accounting_kept sign.Always true h = refl
accounting_kept sign.Never true h = absurd cc
accounting_kept sign.ExceptZero true h = refl
accounting_kept sign.Negative true h = refl

-- the draft of settings
abbrev draft_of : SkeletonData → DraftData
draft_of s =
    drafted (set_notation s.notation) (set_unit s.unit) (set_digits s.precision s.hides_zeros_of_whole) (set_mode s.mode) s.grouping (set_integer
    s.integer_digits) s.system
    (set_width s.width) (set_signs s.sign s.is_accounting) (set_scale s.scale)

finished_is : (s : SkeletonData) → AreSettings s → finished (draft_of s) ≡ s
finished_is s h =
    rw (
      notation_kept s.notation,
      unit_kept s.unit,
      width_kept s.width,
      precision_kept s.precision s.hides_zeros_of_whole,
      hides_kept s.precision s.hides_zeros_of_whole h.digits,
      mode_kept s.mode,
      integer_kept s.integer_digits,
      scale_kept s.scale,
      display_kept s.sign s.is_accounting h.signs,
      accounting_kept s.sign s.is_accounting h.signs,
    ) refl

together_is : (n : Notation) (p : Option Precision) (h : Bool) → GoTogether n p → (is_compact (set_notation n) && are_no_divisor (set_digits p h)) ≡ false
together_is notation.Simple p h k = refl
together_is notation.CompactShort None h k = refl
together_is notation.CompactShort (Some p) h k = k
together_is notation.CompactLong None h k = refl
together_is notation.CompactLong (Some p) h k = k

-- the canonical text of settings is read as these
pub canonical_read : (s : SkeletonData) → AreSettings s → skeleton_of (canonical_of s) ≡ Ok s
unfolding skeleton_of canonical_of
canonical_read s h =
    let w =
    put_scale _ _ _ _ _ _ _ _ _ _
    (put_signs _ _ _ _ _ _ _ _ _ s.sign s.is_accounting h.signs
    (put_width _ _ _ _ _ _ _ _ s.width
    (put_system _ _ _ _ _ _ _ s.system h.system
    (put_integer _ _ _ _ _ _
    (put_grouping _ _ _ _ _ s.grouping
    (put_mode _ _ _ _ s.mode
    (put_digits _ _ _ s.precision s.hides_zeros_of_whole h.digits (put_unit _ _ s.unit h.unit (put_notation s.notation)))))
    s.integer_digits h.some_integer h.integer)))) s.scale h.above h.below in
    rw (w.read, together_is s.notation s.precision s.hides_zeros_of_whole h.together, finished_is s h) refl
