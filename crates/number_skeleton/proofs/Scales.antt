-- Integer widths and scales are read of their canonical tokens.
use Rattle.std.proofs.Common.{◌≡◌, ℕ, ℤ, pos, negsuc, suc, zero, ◌+◌, ◌-◌, ◌≤◌, ◌<◌, List, ◌∷◌, ◌++◌, length, Bool}
use Rattle.std.proofs.Common.{true, false, refl, arith, add-one}
use Rattle.std.proofs.lemmas.Bool.Decides.{nat_tests}
use Rattle.std.proofs.lemmas.Int.{ints}
use Rattle.std.specs.List.{list_all}
use Rattle.std.specs.Prelude.{Option, Some, None, Ok, codes, ◌==◌, nat_lt, ◌-ℤ◌, if◌then◌else◌}
use Rattle.fixed_decimal.specs.declared.increments.RoundingIncrement.TheVariants as increment
use Rattle.fixed_decimal.specs.declared.modes.SignedRoundingMode.{SignedRoundingMode}
use Rattle.fixed_decimal.specs.Rounding.{zeros_at, scale_at}
use Rattle.number_skeleton.specs.declared.draft.Digits.{Digits}
use Rattle.number_skeleton.specs.declared.draft.Signs.{Signs}
use Rattle.skeleton_settings.specs.declared.settings.Grouping.{Grouping}
use Rattle.skeleton_settings.specs.declared.settings.Notation.{Notation}
use Rattle.skeleton_settings.specs.declared.settings.UnitWidth.{UnitWidth}
use Rattle.number_skeleton.specs.Bytes.{is_byte, is_inner, piece_len, run_len}
use Rattle.skeleton_settings.specs.Canonical.{put, repeated, integer_text, scale_text, number_text}
use Rattle.skeleton_settings.specs.Settings.{UnitData}
use Rattle.number_skeleton.specs.Fragments.{only_integer_digits, only_scale}
use Rattle.number_skeleton.specs.Numbers.{scale_of, is_far}
use Rattle.number_skeleton.specs.Options.{ended, integer_digits_of}
use Rattle.number_skeleton.specs.Stems.{stem_of, named_stem}
use Rattle.number_skeleton.specs.Tokens.{with_token, fresh}
use Rattle.number_skeleton.specs.Values.{value_of, integer_at, scale_at as scale_value_at}
use Rattle.number_skeleton.specs.Words.{plain_stem, option_stem}
use Rattle.number_skeleton.proofs.Joined.{is_plain, Written, written-more}
use Rattle.number_skeleton.proofs.NumberTexts.{number_read, number_all, number_some, all_of, prefix_all}
use Rattle.number_skeleton.proofs.Pieces.{option_whole, option_last, repeated_length, suc_some}
use Rattle.number_skeleton.proofs.Spelled.{drafted}

-- counts that aren't past 999
pub not_past : (n : ℕ) → n ≤ 999 → nat_lt 999 n ≡ false
not_past n h = grind (arith, nat_tests)

not_less : (n : ℕ) → nat_lt n n ≡ false
not_less n = grind (arith, nat_tests)

-- that many zeros behind a wild byte
wild_zeros : (n : ℕ) → suc n ≤ 999 → integer_digits_of (42 ∷ repeated (suc n) 48) ≡ Ok (suc n)
unfolding integer_digits_of run_len
wild_zeros n h =
    rw (
      repeated_length (suc n) 48,
      suc_some n,
      prefix_all (is_byte 48) (suc n) 48 refl,
      not_less (suc n),
      not_past (suc n) h,
    ) refl

-- what the canonical token of a least count of integer digits sets
abbrev pub set_integer : ℕ → Option ℕ
set_integer n = if n == 1 then None else Some n

module _ (n : Option Notation) (u : Option UnitData) (d : Option Digits) (m : Option SignedRoundingMode) (g : Option Grouping) (out : List ℕ)
    (w : Written out (drafted n u d m g None None None None None)) where
  integer_is : (at k : ℕ) → suc k ≤ 999 → integer_at at (47 ∷ 42 ∷ repeated (suc k) 48) ≡ Ok (only_integer_digits (suc k))
  unfolding integer_at ended
  integer_is at k h = rw (option_whole at 42 (repeated (suc k) 48) (all_of is_inner (suc k) 48 refl), wild_zeros k h) refl

  put_zeros : (k : ℕ) → suc k ≤ 999 → Written (put out (Some (codes "integer-width/*" ++ repeated (suc k) 48))) (drafted n u d m g (Some (suc k)) None
      None None None)
  unfolding with_token piece_len stem_of named_stem plain_stem option_stem fresh value_of
  put_zeros k h =
      written-more out (codes "integer-width/*" ++ repeated (suc k) 48) _ _ w (all_of is_plain (suc k) 48 refl) (omega arith)
      (λ at. rw (integer_is (at + 13) k h) refl)

  either_integer : (x : Bool) (k : ℕ) → suc k ≤ 999 →
      Written (put out (if x then None else Some (codes "integer-width/*" ++ repeated (suc k) 48))) (drafted n u d m g (if x then None else Some (suc k)) None
      None None None)
  either_integer true k h = w
  either_integer false k h = put_zeros k h

  -- a least count of integer digits
  pub put_integer : (k : ℕ) → 1 ≤ k → k ≤ 999 → Written (put out (integer_text k)) (drafted n u d m g (set_integer k) None None None None)
  put_integer zero some h = absurd (omega arith)
  put_integer (suc k) some h = either_integer (suc k == 1) k h

-- a power that isn't past 999
pub not_far : (z f : ℕ) → z ≤ f + 999 → f ≤ z + 999 → is_far z f ≡ false
not_far z f h k = grind (arith, nat_tests)

-- what the canonical token of a power sets
abbrev pub set_scale : ℤ → Option ℤ
set_scale (pos zero) = None
set_scale (pos (suc n)) = Some (pos (suc n))
set_scale (negsuc n) = Some (negsuc n)

-- one token for a power of ten
module _ (n : Option Notation) (u : Option UnitData) (d : Option Digits) (m : Option SignedRoundingMode) (g : Option Grouping) (i : Option ℕ) (y : Option
    (List ℕ))
    (v : Option UnitWidth) (s : Option Signs) (out : List ℕ) (w : Written out (drafted n u d m g i y v s None)) where
  module _ (word : List ℕ) (k : ℤ) (inner : list_all is_inner word ≡ true) (plain : list_all is_plain word ≡ true) (some : 0 < length word) (is :
      scale_of word ≡ Ok k) where
    scale_is : (at : ℕ) → scale_value_at at (47 ∷ word) ≡ Ok (only_scale k)
    unfolding scale_value_at ended
    scale_is at = rw (option_last at word inner some, is) refl

    put_power : Written (put out (Some (codes "scale/" ++ word))) (drafted n u d m g i y v s (Some k))
    unfolding with_token piece_len stem_of named_stem plain_stem option_stem fresh value_of
    put_power = written-more out (codes "scale/" ++ word) _ _ w plain (omega arith) (λ at. rw (scale_is (at + 5)) refl)

  above_read : (k : ℕ) → suc k ≤ 999 → scale_of (number_text increment.MultiplesOf1 (suc k) 0 0) ≡ Ok (pos (suc k))
  unfolding scale_of
  above_read k h =
      let zeros : suc k + (0 - 0) ≡ suc k = omega arith in
      let power : pos (suc k) -ℤ pos 0 ≡ pos (suc k) = omega (arith, ints) in
      rw (number_read increment.MultiplesOf1 (suc k) 0 0 (omega arith) (λ e. absurd (e refl)), zeros, not_far (suc k) 0 (omega arith) (omega arith), power)
      refl

  below_read : (k : ℕ) → suc k ≤ 999 → scale_of (number_text increment.MultiplesOf1 0 (suc k) (suc k)) ≡ Ok (negsuc k)
  unfolding scale_of
  below_read k h =
      let zeros : 0 + (suc k - suc k) ≡ 0 = omega arith in
      let power : pos 0 -ℤ pos (suc k) ≡ negsuc k = omega (arith, ints) in
      rw (number_read increment.MultiplesOf1 0 (suc k) (suc k) (omega arith) (λ e. refl), zeros, not_far 0 (suc k) (omega arith) (omega arith), power) refl

  -- a power of ten
  pub put_scale : (k : ℤ) → zeros_at k ≤ 999 → scale_at k ≤ 999 → Written (put out (scale_text k)) (drafted n u d m g i y v s (set_scale k))
  put_scale (pos zero) h l = w
  put_scale (pos (suc k)) h l =
      put_power (number_text increment.MultiplesOf1 (suc k) 0 0) (pos (suc k)) (number_all is_inner refl refl refl refl refl increment.MultiplesOf1 (suc k) 0 0)
      (number_all is_plain refl refl refl refl refl increment.MultiplesOf1 (suc k) 0 0) (number_some increment.MultiplesOf1 (suc k) 0 0) (above_read k h)
  put_scale (negsuc k) h l =
      rw (add-one k)
      (put_power (number_text increment.MultiplesOf1 0 (suc k) (suc k)) (negsuc k) (number_all is_inner refl refl refl refl refl increment.MultiplesOf1 0 (suc
      k) (suc k))
      (number_all is_plain refl refl refl refl refl increment.MultiplesOf1 0 (suc k) (suc k)) (number_some increment.MultiplesOf1 0 (suc k) (suc k))
      (below_read k (omega arith)))
