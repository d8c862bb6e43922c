-- What is read of a text are settings that may be written.
use Rattle.std.proofs.Common.{◌≡◌, ℕ, ℤ, pos, ◌≤◌, List, false, refl, arith, subst, sym, ap, ◌↔◌}
use Rattle.std.specs.Prelude.{Option, Some, None, Ok, ◌&&◌, option_map}
use Rattle.fixed_decimal.specs.Rounding.{zeros_at, scale_at}
use Rattle.number_skeleton.specs.declared.draft.Digits.{Digits}
use Rattle.number_skeleton.specs.declared.draft.Signs.{Signs}
use Rattle.skeleton_settings.specs.declared.settings.Notation.{Notation}
use Rattle.skeleton_settings.specs.declared.settings.Notation.TheVariants as notation
use Rattle.skeleton_settings.specs.Canonical.{canonical_of}
use Rattle.number_skeleton.specs.Cuts.{tokens_from}
use Rattle.skeleton_settings.specs.Settings.{SkeletonData, UnitData, nothing}
use Rattle.number_skeleton.specs.Data.{DraftData}
use Rattle.number_skeleton.specs.Drafts.{or_else, finished, digits_precision, hides_zeros, default_signs, is_compact, are_no_divisor, is_increment_of_compact}
use Rattle.number_skeleton.specs.Laws.{IsUnit, AreDigits, AreSigns, GoTogether, AreSettings}
use Rattle.number_skeleton.specs.Tokens.{with_tokens, at_start, checked, skeleton_of}
use Rattle.number_skeleton.proofs.Drafted.{SomeUnit, SomePrecision, SomeInteger, SomeScale, SomeSigns, IsDraft, nothing_kept, tokens_kept}
use Rattle.number_skeleton.proofs.Orders.{taken, allowed, one_value}
use Rattle.number_skeleton.proofs.Read.{canonical_read}

unit_default : (u : Option UnitData) → SomeUnit u → IsUnit (or_else u nothing)
unit_default None h = tt
unit_default (Some u) h = h

digits_default : (x : Option Digits) → SomePrecision x → AreDigits (option_map digits_precision x) (hides_zeros x)
digits_default None h = refl
digits_default (Some d) h = h

integer_default : (n : Option ℕ) → SomeInteger n → (1 ≤ or_else n 1) × (or_else n 1 ≤ 999)
integer_default None h = (omega arith, omega arith)
integer_default (Some n) h = h

scale_default : (k : Option ℤ) → SomeScale k → (zeros_at (or_else k (pos 0)) ≤ 999) × (scale_at (or_else k (pos 0)) ≤ 999)
scale_default None h = (omega arith, omega arith)
scale_default (Some k) h = h

signs_default : (s : Option Signs) → SomeSigns s → AreSigns (or_else s default_signs).display (or_else s default_signs).is_accounting
signs_default None h = tt
signs_default (Some s) h = h

together_default : (n : Option Notation) (x : Option Digits) → (is_compact n && are_no_divisor x) ≡ false → GoTogether (or_else n notation.Simple)
    (option_map digits_precision x)
together_default n None h = tt
together_default None (Some d) h = refl
together_default (Some notation.Simple) (Some d) h = refl
together_default (Some notation.CompactShort) (Some d) h = h
together_default (Some notation.CompactLong) (Some d) h = h

finished_kept : (d : DraftData) → IsDraft d → is_increment_of_compact d ≡ false → AreSettings (finished d)
finished_kept d k h =
    let integer = integer_default d.integer_digits k.integer in
    let scale = scale_default d.scale k.scale in
    record {
      unit = unit_default d.unit k.unit;
      digits = digits_default d.digits k.digits;
      some_integer = integer.0;
      integer = integer.1;
      above = scale.0;
      below = scale.1;
      system = k.system;
      signs = signs_default d.signs k.signs;
      together = together_default d.notation d.digits h;
    }

-- what is read may be written
pub settings_kept : (text : List ℕ) (s : SkeletonData) → skeleton_of text ≡ Ok s → AreSettings s
unfolding skeleton_of
settings_kept text s h =
    let one = taken (with_tokens (tokens_from 0 0 text) at_start) checked s h in
    let k = tokens_kept (tokens_from 0 0 text) at_start one.0 nothing_kept one.1.0 in
    let two = allowed (is_increment_of_compact one.0.draft) (Ok (finished one.0.draft)) s _ one.1.1 in
    subst AreSettings (sym (one_value (finished one.0.draft) s (Ok (finished one.0.draft)) refl two.1)) (finished_kept one.0.draft k two.0)

-- and read again
pub read_again : (text : List ℕ) (s : SkeletonData) → skeleton_of text ≡ Ok s → AreSettings s × (skeleton_of (canonical_of s) ≡ Ok s)
read_again text s h = let k = settings_kept text s h in (k, canonical_read s k)

-- one canonical text for the same settings
same_settings : (s t : SkeletonData) → skeleton_of (canonical_of s) ≡ Ok s → skeleton_of (canonical_of t) ≡ Ok t → canonical_of s ≡ canonical_of t
    → s ≡ t
same_settings s t h k e = one_value t s (skeleton_of (canonical_of t)) k (rw e at h)

pub one_canonical : (text other : List ℕ) (s t : SkeletonData) → skeleton_of text ≡ Ok s → skeleton_of other ≡ Ok t → (canonical_of s ≡
    canonical_of t ↔ s ≡ t)
one_canonical text other s t h k = (same_settings s t (read_again text s h).1 (read_again other t k).1, λ e. ap canonical_of e)
