-- Every precision is read of its canonical token.
use Rattle.std.proofs.Common.{◌≡◌, ℕ, ℤ, pos, negsuc, suc, zero, ◌+◌, ◌-◌, ◌≤◌, ◌<◌, List, [], ◌∷◌, ◌++◌, length}
use Rattle.std.proofs.Common.{Bool, true, false, refl, arith, append_assoc}
use Rattle.std.proofs.lemmas.Int.{ints}
use Rattle.std.specs.List.{list_all}
use Rattle.std.specs.Prelude.{Option, Some, None, Ok, codes, ◌-ℤ◌}
use Rattle.fixed_decimal.specs.declared.increments.RoundingIncrement.{RoundingIncrement}
use Rattle.fixed_decimal.specs.Rounding.{zeros_at, scale_at}
use Rattle.number_skeleton.specs.declared.draft.Digits.{Digits}
use Rattle.skeleton_settings.specs.declared.settings.Notation.{Notation}
use Rattle.skeleton_settings.specs.declared.settings.Precision.{Precision}
use Rattle.skeleton_settings.specs.declared.settings.Precision.TheVariants as precision
use Rattle.skeleton_settings.specs.declared.settings.Priority.{Priority}
use Rattle.skeleton_settings.specs.declared.settings.Priority.TheVariants as priority
use Rattle.number_skeleton.specs.declared.values.Beside.{Beside}
use Rattle.number_skeleton.specs.declared.values.Limits.{Limits}
use Rattle.number_skeleton.specs.Bytes.{is_inner, piece_len}
use Rattle.skeleton_settings.specs.Canonical.{put, repeated, counts_text, fraction_text, beside_text, number_text, hides_text, digits_text}
use Rattle.skeleton_settings.specs.Settings.{UnitData}
use Rattle.number_skeleton.specs.Fragments.{only_digits}
use Rattle.number_skeleton.specs.Laws.{AreCounts, IsLimited, IsFew, IsPrecision, AreDigits}
use Rattle.number_skeleton.specs.Numbers.{increment_of}
use Rattle.number_skeleton.specs.Options.{ended, option_at}
use Rattle.number_skeleton.specs.Stems.{stem_of, named_stem}
use Rattle.number_skeleton.specs.Tokens.{with_token, fresh}
use Rattle.number_skeleton.specs.Values.{value_of, digits_at, fraction_at, beside_of, increment_at, both}
use Rattle.number_skeleton.specs.Words.{precision_named}
use Rattle.number_skeleton.proofs.Joined.{is_plain, Written, written-more}
use Rattle.number_skeleton.proofs.NumberTexts.{number_read, number_all, number_some, both_all}
use Rattle.number_skeleton.proofs.Pieces.{suc_some, option_any}
use Rattle.number_skeleton.proofs.Precisions.{hides_ends, hides_plain, digits_hides, fraction_hides, counts_all, before, behind, digits_of, put_fraction}
use Rattle.number_skeleton.proofs.Precisions.{put_significant, beside_read}
use Rattle.number_skeleton.proofs.Scales.{not_past, not_far}
use Rattle.number_skeleton.proofs.Spelled.{drafted}

-- the option of significant digits begins with one
beside_first : (few many : ℕ) (y : Priority) (keeps : Bool) → IsFew few keeps → few ≤ many → (bs : List ℕ) × (beside_text few many y keeps ≡ 64
    ∷ bs)
unfolding repeated
beside_first few zero priority.Relaxed true h k = absurd (omega arith)
beside_first few (suc many) priority.Relaxed true h k = (repeated many 64 ++ repeated 1 42, refl)
beside_first few many priority.Strict true h k = (repeated (many - 1) 35, refl)
beside_first zero many priority.Relaxed false h k = absurd (omega arith)
beside_first (suc few) many priority.Relaxed false h k = ((repeated few 64 ++ repeated (many - suc few) 35) ++ 114 ∷ [], refl)
beside_first zero many priority.Strict false h k = absurd (omega arith)
beside_first (suc few) many priority.Strict false h k = ((repeated few 64 ++ repeated (many - suc few) 35) ++ 115 ∷ [], refl)

-- its bytes
beside_all : (p : ℕ → Bool) (few many : ℕ) (y : Priority) (keeps : Bool) → p 64 ≡ true → p 42 ≡ true → p 35 ≡ true → p 114 ≡ true → p
    115 ≡ true →
    list_all p (beside_text few many y keeps) ≡ true
beside_all p few many priority.Relaxed true d w h r s = counts_all p 64 many 42 1 d w
beside_all p few many priority.Strict true d w h r s = counts_all p 64 1 35 (many - 1) d h
beside_all p few many priority.Relaxed false d w h r s = both_all p (counts_text 64 few 35 (many - few)) (114 ∷ []) (counts_all p 64 few 35 (many - few) d
    h) (rw r refl)
beside_all p few many priority.Strict false d w h r s = both_all p (counts_text 64 few 35 (many - few)) (115 ∷ []) (counts_all p 64 few 35 (many - few) d h)
    (rw s refl)

-- fraction digits with significant ones beside them
fraction_beside : (at : ℕ) (limits : Limits) (beside : Beside) (word bs : List ℕ) (h : Bool) → word ≡ 64 ∷ bs → list_all is_inner word ≡ true
    → beside_of word ≡ Ok beside →
    fraction_at at (47 ∷ (word ++ hides_text h)) limits ≡ Ok (only_digits (both limits beside) h)
unfolding fraction_at
fraction_beside at limits beside word bs h first inner is =
    rw (
      suc_some (length (word ++ hides_text h)),
      option_any (hides_text h) (hides_ends h) at word inner (rw first (omega arith)),
      is,
      digits_hides (at + 1 + length word) (both limits beside) h,
      first,
    ) refl

-- an increment
increment_read : (i : RoundingIncrement) (power : ℤ) (least : ℕ) → zeros_at power ≤ 999 → scale_at power ≤ least → least ≤ 999 →
    increment_of (number_text i (zeros_at power) (scale_at power) least) ≡ Ok (precision.Increment i power least)
unfolding increment_of
increment_read i (pos k) least h l s =
    let is : pos (k + (least - 0)) -ℤ pos least ≡ pos k = omega (arith, ints) in
    rw (number_read i k 0 least l (λ e. absurd (e refl)), not_far (k + (least - 0)) least (omega arith) (omega arith), not_past least s, is) refl
increment_read i (negsuc k) least h l s =
    let is : pos (0 + (least - (k + 1))) -ℤ pos least ≡ negsuc k = omega (arith, ints) in
    rw (number_read i 0 (k + 1) least l (λ e. refl), not_far (0 + (least - (k + 1))) least (omega arith) (omega arith), not_past least s, is) refl

-- a draft with a precision
module _ (n : Option Notation) (u : Option UnitData) (out : List ℕ) (w : Written out (before n u)) where
  put_unlimited : (h : Bool) → Written (put out (Some (codes "precision-unlimited" ++ hides_text h))) (behind n u (precision.Fraction 0 None) h)
  unfolding with_token piece_len stem_of named_stem precision_named fresh value_of digits_at option_at ended
  put_unlimited true = written-more out (codes "precision-unlimited/w") _ _ w refl (omega arith) (λ at. refl)
  put_unlimited false = written-more out (codes "precision-unlimited") _ _ w refl (omega arith) (λ at. refl)

  put_currency_digits : (cash h : Bool) → Written (put out (digits_text (Some (precision.Currency cash)) h)) (behind n u (precision.Currency cash) h)
  unfolding with_token piece_len stem_of named_stem precision_named fresh value_of digits_at option_at ended
  put_currency_digits true true = written-more out (codes "precision-currency-cash/w") _ _ w refl (omega arith) (λ at. refl)
  put_currency_digits true false = written-more out (codes "precision-currency-cash") _ _ w refl (omega arith) (λ at. refl)
  put_currency_digits false true = written-more out (codes "precision-currency-standard/w") _ _ w refl (omega arith) (λ at. refl)
  put_currency_digits false false = written-more out (codes "precision-currency-standard") _ _ w refl (omega arith) (λ at. refl)

  module _ (word : List ℕ) (p : Precision) (h : Bool) (inner : list_all is_inner word ≡ true) (plain : list_all is_plain word ≡ true) (some : 0 < length
      word)
      (is : increment_of word ≡ Ok p) where
    increment_is : (at : ℕ) → increment_at at (47 ∷ (word ++ hides_text h)) ≡ Ok (only_digits p h)
    unfolding increment_at
    increment_is at = rw (option_any (hides_text h) (hides_ends h) at word inner some, is) (digits_hides (at + 1 + length word) p h)

    put_increment : Written (put out (Some ((codes "precision-increment/" ++ word) ++ hides_text h))) (behind n u p h)
    unfolding with_token piece_len stem_of named_stem precision_named fresh value_of
    put_increment =
        written-more out ((codes "precision-increment/" ++ word) ++ hides_text h) _ _ w
        (both_all is_plain (codes "precision-increment/" ++ word) (hides_text h) plain (hides_plain h)) (omega arith) (λ at. rw (increment_is (at + 19)) refl)

  put_one_fraction : (least : ℕ) (most : Option ℕ) (h : Bool) → AreCounts least most → IsLimited least most →
      Written (put out (digits_text (Some (precision.Fraction least most)) h)) (behind n u (precision.Fraction least most) h)
  put_one_fraction least most h counts some =
      put_fraction n u out w (precision.Fraction least most) h (hides_text h) (hides_ends h) (hides_plain h) least most counts some
      (λ at. fraction_hides at (record { least = least; most = most }) h)

  put_both : (least : ℕ) (most : Option ℕ) (few many : ℕ) (y : Priority) (keeps h : Bool) → AreCounts least most → IsLimited least most → IsFew
      few keeps → few ≤ many → many ≤ 999 →
      Written (put out (digits_text (Some (precision.Both least most few many y keeps)) h)) (behind n u (precision.Both least most few many y keeps) h)
  put_both least most few many y keeps h counts limited some within small =
      let first = beside_first few many y keeps some within in
      let inner = beside_all is_inner few many y keeps refl refl refl refl refl in
      let plain = beside_all is_plain few many y keeps refl refl refl refl refl in
      rw (append_assoc (fraction_text least most) (codes "/" ++ beside_text few many y keeps) (hides_text h))
      (put_fraction n u out w (precision.Both least most few many y keeps) h (47 ∷ (beside_text few many y keeps ++ hides_text h)) refl
      (both_all is_plain (beside_text few many y keeps) (hides_text h) plain (hides_plain h)) least most counts limited
      (λ at. fraction_beside at (record { least = least; most = most }) (record { few = few; many = many; priority = y; keeps_least = keeps }) (beside_text
      few many y keeps) first.0 h
      first.1 inner (beside_read few many small y keeps some within)))

  -- a precision
  put_precision : (p : Precision) (h : Bool) → IsPrecision p → Written (put out (digits_text (Some p) h)) (behind n u p h)
  put_precision (precision.Fraction zero None) h k = put_unlimited h
  put_precision (precision.Fraction (suc least) None) h k = put_one_fraction (suc least) None h k (omega arith)
  put_precision (precision.Fraction least (Some most)) h k = put_one_fraction least (Some most) h k tt
  put_precision (precision.Significant least most) h k =
      put_significant n u out w (precision.Significant least most) h (hides_text h) (hides_ends h) (hides_plain h) least most k.0 k.1
      (λ at. digits_hides at (precision.Significant least most) h)
  put_precision (precision.Increment i power least) h k =
      put_increment (number_text i (zeros_at power) (scale_at power) least) (precision.Increment i power least) h
      (number_all is_inner refl refl refl refl refl i (zeros_at power) (scale_at power) least)
      (number_all is_plain refl refl refl refl refl i (zeros_at power) (scale_at power) least) (number_some i (zeros_at power) (scale_at power) least)
      (increment_read i power least k.0 k.1.0 k.1.1)
  put_precision (precision.Both least most few many y keeps) h k = put_both least most few many y keeps h k.0 k.1.0 k.1.1.0 k.1.1.1.0 k.1.1.1.1
  put_precision (precision.Currency cash) h k = put_currency_digits cash h

-- what the canonical token of a precision sets
abbrev pub set_digits : Option Precision → Bool → Option Digits
set_digits None h = None
set_digits (Some p) h = Some (digits_of p h)

-- a precision, and `/w`
pub put_digits : (n : Option Notation) (u : Option UnitData) (out : List ℕ) (p : Option Precision) (h : Bool) → AreDigits p h → Written out (before n u)
    →
    Written (put out (digits_text p h)) (drafted n u (set_digits p h) None None None None None None None)
put_digits n u out None h k w = w
put_digits n u out (Some p) h k w = put_precision n u out w p h k
