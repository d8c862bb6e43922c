-- Precisions are read of their canonical tokens.
use Rattle.std.proofs.Common.{◌≡◌, ℕ, suc, zero, ◌+◌, ◌-◌, ◌≤◌, List, [], ◌∷◌, ◌++◌, length, Bool, true, false, refl, arith}
use Rattle.std.proofs.Common.{◌∙◌, append_assoc}
use Rattle.std.proofs.lemmas.Bool.Decides.{nat_tests}
use Rattle.std.specs.List.{list_all, prefix_len}
use Rattle.std.specs.Prelude.{Option, Some, None, Ok, codes, ◌==◌}
use Rattle.number_skeleton.specs.declared.draft.Digits.{Digits}
use Rattle.skeleton_settings.specs.declared.settings.Notation.{Notation}
use Rattle.skeleton_settings.specs.declared.settings.Precision.{Precision}
use Rattle.skeleton_settings.specs.declared.settings.Precision.TheVariants as precision
use Rattle.skeleton_settings.specs.declared.settings.Priority.{Priority}
use Rattle.skeleton_settings.specs.declared.settings.Priority.TheVariants as priority
use Rattle.number_skeleton.specs.declared.stems.Counts.{Counts}
use Rattle.number_skeleton.specs.declared.stems.Stem.TheVariants as stem
use Rattle.number_skeleton.specs.declared.values.Limits.{Limits}
use Rattle.number_skeleton.specs.Bytes.{is_byte, is_inner, piece_len, run_len}
use Rattle.skeleton_settings.specs.Canonical.{put, repeated, counts_text, fraction_text, significant_text, beside_text, hides_text}
use Rattle.skeleton_settings.specs.Settings.{UnitData}
use Rattle.number_skeleton.specs.Data.{DraftData}
use Rattle.number_skeleton.specs.Fragments.{only_digits}
use Rattle.number_skeleton.specs.Laws.{AreCounts, IsLimited, IsFew}
use Rattle.number_skeleton.specs.Options.{ended, option_at}
use Rattle.number_skeleton.specs.Stems.{stem_of, named_stem, counts_of, fraction_stem}
use Rattle.number_skeleton.specs.Tokens.{with_token, fresh}
use Rattle.number_skeleton.specs.Values.{value_of, limits_of, digits_at, fraction_at, beside_of, fraction, significant, beside_end, beside_counts}
use Rattle.number_skeleton.specs.Words.{precision_named}
use Rattle.number_skeleton.proofs.Joined.{is_plain, Written, written-more}
use Rattle.number_skeleton.proofs.NumberTexts.{all_of, both_all, prefix_all, passed_all}
use Rattle.number_skeleton.proofs.Pieces.{all_repeated, counted, passed, cut_len, cut_front, cut_behind}
use Rattle.number_skeleton.proofs.Scales.{not_past}
use Rattle.number_skeleton.proofs.Spelled.{drafted}

-- a precision and `/w`
abbrev pub digits_of : Precision → Bool → Digits
digits_of p hides = record { precision = p; hides_zeros_of_whole = hides }

-- `/w` or nothing
pub hides_ends : (h : Bool) → prefix_len is_inner (hides_text h) ≡ 0
hides_ends true = refl
hides_ends false = refl

pub hides_plain : (h : Bool) → list_all is_plain (hides_text h) ≡ true
hides_plain true = refl
hides_plain false = refl

pub digits_hides : (at : ℕ) (p : Precision) (h : Bool) → digits_at at (hides_text h) p ≡ Ok (only_digits p h)
unfolding digits_at option_at piece_len ended
digits_hides at p true = refl
digits_hides at p false = refl

pub fraction_hides : (at : ℕ) (limits : Limits) (h : Bool) → fraction_at at (hides_text h) limits ≡ Ok (only_digits (fraction limits) h)
unfolding fraction_at option_at piece_len ended
fraction_hides at limits true = refl
fraction_hides at limits false = refl

-- limits of counts
pub limits_small : (start least : ℕ) (most : Option ℕ) → AreCounts least most → limits_of start (record { least = least; most = most }) ≡ Ok (record
    { least = least; most = most })
unfolding limits_of
limits_small start least None h = rw (not_past least h) refl
limits_small start least (Some most) h = rw (not_past least (omega arith), not_past most h.1) refl

-- runs of digits and `#`
run_repeated : (d n : ℕ) (bs : List ℕ) → is_byte d d ≡ true → prefix_len (is_byte d) bs ≡ 0 → run_len d (repeated n d ++ bs) ≡ n
unfolding run_len
run_repeated d n bs h k = counted (is_byte d) n d bs h k

run_end : (d n : ℕ) → is_byte d d ≡ true → run_len d (repeated n d) ≡ n
unfolding run_len
run_end d n h = prefix_all (is_byte d) n d h

no_hash : (d n : ℕ) (bs : List ℕ) → is_byte d 35 ≡ false → prefix_len (is_byte d) bs ≡ 0 → prefix_len (is_byte d) (repeated n 35 ++ bs) ≡ 0
unfolding repeated
no_hash d zero bs h k = k
no_hash d (suc n) bs h k = rw h refl

no_hashes : (d n : ℕ) → is_byte d 35 ≡ false → prefix_len (is_byte d) (repeated n 35) ≡ 0
unfolding repeated
no_hashes d zero h = refl
no_hashes d (suc n) h = rw h refl

-- counts with a greatest one, and without
module _ (d : ℕ) (same : is_byte d d ≡ true) where
  counts_most : (n m : ℕ) → is_byte d 35 ≡ false → counts_of d (repeated n d ++ repeated m 35) ≡ Ok (record { least = n; most = Some (n + m) })
  unfolding counts_of
  counts_most n m other = rw (run_repeated d n (repeated m 35) same (no_hashes d m other), passed n d (repeated m 35), run_end 35 m refl, passed_all m 35) refl

  counts_wild : (n : ℕ) → is_byte d 42 ≡ false → counts_of d (repeated n d ++ repeated 1 42) ≡ Ok (record { least = n; most = None })
  unfolding counts_of repeated run_len
  counts_wild n other =
      let none : prefix_len (is_byte d) (42 ∷ []) ≡ 0 = rw other refl in
      rw (counted (is_byte d) n d (42 ∷ []) same none, passed n d (42 ∷ [])) refl

-- stems of fraction digits
pub fraction_most : (n m : ℕ) → fraction_stem (repeated n 48 ++ repeated m 35) ≡ Ok (stem.Fraction (record { least = n; most = Some (n + m) }))
unfolding fraction_stem
fraction_most zero m = rw (counts_most 48 refl zero m refl) refl
fraction_most (suc n) m = rw (counts_most 48 refl (suc n) m refl) refl

pub fraction_wild : (n : ℕ) → fraction_stem (repeated (suc n) 48 ++ repeated 1 42) ≡ Ok (stem.Fraction (record { least = suc n; most = None }))
unfolding fraction_stem
fraction_wild n = rw (counts_wild 48 refl (suc n) refl) refl

stem_dot : (word : List ℕ) → stem_of (46 ∷ word) ≡ fraction_stem word
unfolding stem_of
stem_dot word = refl

stem_integer : stem_of (codes "precision-integer") ≡ Ok (stem.Fraction (record { least = 0; most = Some 0 }))
unfolding stem_of named_stem precision_named
stem_integer = refl

stem_at_sign : (word : List ℕ) (c : Counts) → counts_of 64 (64 ∷ word) ≡ Ok c → stem_of (64 ∷ word) ≡ Ok (stem.Significant c)
unfolding stem_of
stem_at_sign word c h = rw h refl

-- bytes of counts
pub counts_all : (p : ℕ → Bool) (d least other more : ℕ) → p d ≡ true → p other ≡ true → list_all p (counts_text d least other more) ≡ true
counts_all p d least other more h k = all_repeated p least d (repeated more other) h (all_of p more other k)

-- a draft before a precision, and behind it
abbrev pub before : Option Notation → Option UnitData → DraftData
before n u = drafted n u None None None None None None None None

abbrev pub behind : Option Notation → Option UnitData → Precision → Bool → DraftData
behind n u p h = drafted n u (Some (digits_of p h)) None None None None None None None

-- a stem of digits, and what stands behind it
module _ (n : Option Notation) (u : Option UnitData) (out : List ℕ) (w : Written out (before n u)) (p : Precision) (h : Bool)
    (rest : List ℕ) (ends : prefix_len is_inner rest ≡ 0) (rest_plain : list_all is_plain rest ≡ true) where
  module _ (least : ℕ) (most : Option ℕ) (counts : AreCounts least most) where
    module _ (b : ℕ) (bs : List ℕ) (no_slash : (b == 47) ≡ false) (inner : list_all is_inner (b ∷ bs) ≡ true) (plain : list_all is_plain (b ∷ bs)
        ≡ true) where
      fraction_word : ((at : ℕ) → fraction_at at rest (record { least = least; most = most }) ≡ Ok (only_digits p h)) →
          stem_of (b ∷ bs) ≡ Ok (stem.Fraction (record { least = least; most = most })) → Written (put out (Some (b ∷ bs ++ rest))) (behind n u p h)
      unfolding with_token fresh value_of
      fraction_word reads is =
          written-more out (b ∷ bs ++ rest) _ _ w (both_all is_plain (b ∷ bs) rest plain rest_plain) (omega arith)
          (λ at. rw (
            no_slash,
            cut_front rest ends (b ∷ bs) inner,
            cut_behind rest ends (b ∷ bs) inner,
            cut_len rest ends (b ∷ bs) inner,
            is,
            limits_small at least most counts,
            reads (at + length (b ∷ bs)),
          ) refl)

      significant_word : ((at : ℕ) → digits_at at rest (significant (record { least = least; most = most })) ≡ Ok (only_digits p h)) →
          stem_of (b ∷ bs) ≡ Ok (stem.Significant (record { least = least; most = most })) → Written (put out (Some (b ∷ bs ++ rest))) (behind n u p h)
      unfolding with_token fresh value_of
      significant_word reads is =
          written-more out (b ∷ bs ++ rest) _ _ w (both_all is_plain (b ∷ bs) rest plain rest_plain) (omega arith)
          (λ at. rw (
            no_slash,
            cut_front rest ends (b ∷ bs) inner,
            cut_behind rest ends (b ∷ bs) inner,
            cut_len rest ends (b ∷ bs) inner,
            is,
            limits_small at least most counts,
            reads (at + length (b ∷ bs)),
          ) refl)

  -- fraction digits with a greatest count
  front_most : (least most : ℕ) → least ≤ suc most → suc most ≤ 999 → ((at : ℕ) → fraction_at at rest (record {
    least = least;
    most = Some
        (suc most);
  }) ≡ Ok (only_digits p h)) →
      Written (put out (Some ((codes "." ++ counts_text 48 least 35 (suc most - least)) ++ rest))) (behind n u p h)
  front_most least most within small reads =
      let total : least + (suc most - least) ≡ suc most = omega arith in
      let is = rw total at (stem_dot (counts_text 48 least 35 (suc most - least)) ∙ fraction_most least (suc most - least)) in
      fraction_word least (Some (suc most)) (within, small) 46 (counts_text 48 least 35 (suc most - least)) refl
      (counts_all is_inner 48 least 35 (suc most - least) refl refl) (counts_all is_plain 48 least 35 (suc most - least) refl refl) reads is

  -- fraction digits
  pub put_fraction : (least : ℕ) (most : Option ℕ) → AreCounts least most → IsLimited least most →
      ((at : ℕ) → fraction_at at rest (record { least = least; most = most }) ≡ Ok (only_digits p h)) → Written (put out (Some (fraction_text least
      most ++ rest))) (behind n u p h)
  put_fraction zero None counts some reads = absurd (omega arith)
  put_fraction (suc least) None counts some reads =
      fraction_word (suc least) None counts 46 (counts_text 48 (suc least) 42 1) refl
      (counts_all is_inner 48 (suc least) 42 1 refl refl) (counts_all is_plain 48 (suc least) 42 1 refl refl) reads (stem_dot (counts_text 48 (suc least) 42
      1) ∙ fraction_wild least)
  put_fraction zero (Some zero) counts some reads = fraction_word zero (Some zero) counts 112 (codes "recision-integer") refl refl refl reads stem_integer
  put_fraction (suc least) (Some zero) counts some reads = absurd (omega arith)
  put_fraction zero (Some (suc most)) counts some reads = front_most zero most counts.0 counts.1 reads
  put_fraction (suc least) (Some (suc most)) counts some reads = front_most (suc least) most counts.0 counts.1 reads

  -- significant digits
  pub put_significant : (least : ℕ) (most : Option ℕ) → 1 ≤ least → AreCounts least most →
      ((at : ℕ) → digits_at at rest (significant (record { least = least; most = most })) ≡ Ok (only_digits p h)) → Written (put out (Some
      (significant_text least most ++ rest))) (behind n u p h)
  unfolding repeated
  put_significant zero most some counts reads = absurd (omega arith)
  put_significant (suc least) None some counts reads =
      significant_word (suc least) None counts 64 (counts_text 64 least 42 1) refl
      (counts_all is_inner 64 least 42 1 refl refl) (counts_all is_plain 64 least 42 1 refl refl) reads
      (stem_at_sign (counts_text 64 least 42 1) _ (counts_wild 64 refl (suc least) refl))
  put_significant (suc least) (Some most) some counts reads =
      let total : suc least + (most - suc least) ≡ most = omega arith in
      let is = rw total at (counts_most 64 refl (suc least) (most - suc least) refl) in
      significant_word (suc least) (Some most) counts 64 (counts_text 64 least 35 (most - suc least)) refl
      (counts_all is_inner 64 least 35 (most - suc least) refl refl) (counts_all is_plain 64 least 35 (most - suc least) refl refl) reads
      (stem_at_sign (counts_text 64 least 35 (most - suc least)) _ is)

-- significant digits beside fraction digits
module _ (few many : ℕ) (small : many ≤ 999) where
  relaxed_kept : few ≡ 1 → 1 ≤ many → beside_of (counts_text 64 many 42 1) ≡ Ok (record {
    few = few;
    many = many;
    priority = priority.Relaxed;
    keeps_least = true;
  })
  unfolding beside_of repeated run_len
  relaxed_kept one some =
      let nonzero : (many == 0) ≡ false = grind (arith, nat_tests) in
      rw (counted (is_byte 64) many 64 (42 ∷ []) refl refl, passed many 64 (42 ∷ []), nonzero, not_past many small, one) refl

  strict_kept : few ≡ 1 → 1 ≤ many → beside_of (counts_text 64 1 35 (many - 1)) ≡ Ok (record {
    few = few;
    many = many;
    priority = priority.Strict;
    keeps_least = true;
  })
  unfolding beside_of run_len
  strict_kept one some =
      let total : 1 + (many - 1) ≡ many = omega arith in
      rw (
        counted (is_byte 64) 1 64 (repeated (many - 1) 35) refl (no_hashes 64 (many - 1) refl),
        passed 1 64 (repeated (many - 1) 35),
        prefix_all (is_byte 35) (many - 1) 35 refl,
        passed_all (many - 1) 35,
        total,
        not_past many small,
        one,
      ) refl

  lettered : (letter : ℕ) (y : Priority) → 1 ≤ few → few ≤ many → is_byte 64 letter ≡ false → is_byte 35 letter ≡ false →
      ((hashes : ℕ) → beside_end few hashes (letter ∷ []) ≡ beside_counts few (few + hashes) y false) →
      beside_of (counts_text 64 few 35 (many - few) ++ letter ∷ []) ≡ Ok (record { few = few; many = many; priority = y; keeps_least = false })
  unfolding beside_of run_len
  lettered letter y some within no_at no_hash_here ends =
      let total : few + (many - few) ≡ many = omega arith in
      let at_end : prefix_len (is_byte 64) (letter ∷ []) ≡ 0 = rw no_at refl in
      let hash_end : prefix_len (is_byte 35) (letter ∷ []) ≡ 0 = rw no_hash_here refl in
      rw (
        append_assoc (repeated few 64) (repeated (many - few) 35) (letter ∷ []),
        counted (is_byte 64) few 64 (repeated (many - few) 35 ++ letter ∷ []) refl (no_hash 64 (many - few) (letter ∷ []) refl at_end),
        passed few 64 (repeated (many - few) 35 ++ letter ∷ []),
        counted (is_byte 35) (many - few) 35 (letter ∷ []) refl hash_end,
        passed (many - few) 35 (letter ∷ []),
        ends (many - few),
        total,
        not_past many small,
      ) refl

  ends_relaxed : 1 ≤ few → (hashes : ℕ) → beside_end few hashes (114 ∷ []) ≡ beside_counts few (few + hashes) priority.Relaxed false
  ends_relaxed some hashes = let nonzero : (few == 0) ≡ false = grind (arith, nat_tests) in rw nonzero refl

  ends_strict : 1 ≤ few → (hashes : ℕ) → beside_end few hashes (115 ∷ []) ≡ beside_counts few (few + hashes) priority.Strict false
  ends_strict some hashes = let nonzero : (few == 0) ≡ false = grind (arith, nat_tests) in rw nonzero refl

  pub beside_read : (y : Priority) (keeps : Bool) → IsFew few keeps → few ≤ many → beside_of (beside_text few many y keeps) ≡ Ok (record {
    few =
        few;
    many = many;
    priority = y;
    keeps_least = keeps;
  })
  beside_read priority.Relaxed true some within = relaxed_kept some (omega arith)
  beside_read priority.Strict true some within = strict_kept some (omega arith)
  beside_read priority.Relaxed false some within = lettered 114 priority.Relaxed some within refl refl (ends_relaxed some)
  beside_read priority.Strict false some within = lettered 115 priority.Strict some within refl refl (ends_strict some)
