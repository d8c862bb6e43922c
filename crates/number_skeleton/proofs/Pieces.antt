-- Words without a slash are cut where a slash or the end stands.
use Rattle.std.proofs.Common.{◌≡◌, ℕ, suc, zero, ◌+◌, ◌<◌, List, [], ◌∷◌, ◌++◌, length, take, drop, Bool, true, false, refl, arith}
use Rattle.std.proofs.lemmas.Bool.Decides.{nat_tests}
use Rattle.std.proofs.lemmas.List.{append-nil}
use Rattle.std.specs.List.{list_all, prefix_len}
use Rattle.std.specs.Prelude.{Ok, ◌==◌}
use Rattle.number_skeleton.specs.Bytes.{is_inner, piece_len}
use Rattle.skeleton_settings.specs.Canonical.{repeated}
use Rattle.number_skeleton.specs.Options.{option_at}
use Rattle.number_skeleton.proofs.Ascii.{and_left, and_right}

-- what holds of each of some equal bytes holds of all
pub all_repeated : (p : ℕ → Bool) (n b : ℕ) (bs : List ℕ) → p b ≡ true → list_all p bs ≡ true → list_all p (repeated n b ++ bs) ≡ true
unfolding repeated
all_repeated p zero b bs h k = k
all_repeated p (suc n) b bs h k = rw (h, all_repeated p n b bs h k) refl

-- equal bytes are counted, and passed over
pub counted : (p : ℕ → Bool) (n b : ℕ) (bs : List ℕ) → p b ≡ true → prefix_len p bs ≡ 0 → prefix_len p (repeated n b ++ bs) ≡ n
unfolding repeated
counted p zero b bs h k = k
counted p (suc n) b bs h k = rw (h, counted p n b bs h k) (omega arith)

pub passed : (n b : ℕ) (bs : List ℕ) → drop n (repeated n b ++ bs) ≡ bs
unfolding repeated
passed zero b bs = refl
passed (suc n) b bs = passed n b bs

pub repeated_length : (n b : ℕ) → length (repeated n b) ≡ n
unfolding repeated
repeated_length zero b = refl
repeated_length (suc n) b = let e = repeated_length n b in omega (arith, e)

-- a count of some isn't 0
pub suc_some : (n : ℕ) → (suc n == 0) ≡ false
suc_some n = grind (arith, nat_tests)

-- a word without a slash is cut before a slash
module _ (rest : List ℕ) (ends : prefix_len is_inner rest ≡ 0) where
  inner_len : (word : List ℕ) → list_all is_inner word ≡ true → prefix_len is_inner (word ++ rest) ≡ length word
  inner_len [] h = ends
  inner_len (b ∷ bs) h = rw (and_left (is_inner b) (list_all is_inner bs) h, inner_len bs (and_right (is_inner b) (list_all is_inner bs) h)) (omega arith)

  taken_front : (word : List ℕ) → take (length word) (word ++ rest) ≡ word
  taken_front [] = refl
  taken_front (b ∷ bs) = rw (taken_front bs) refl

  left_behind : (word : List ℕ) → drop (length word) (word ++ rest) ≡ rest
  left_behind [] = refl
  left_behind (b ∷ bs) = left_behind bs

  pub cut_len : (word : List ℕ) → list_all is_inner word ≡ true → piece_len (word ++ rest) ≡ length word
  unfolding piece_len
  cut_len word h = inner_len word h

  pub cut_front : (word : List ℕ) → list_all is_inner word ≡ true → take (piece_len (word ++ rest)) (word ++ rest) ≡ word
  cut_front word h = rw (cut_len word h) (taken_front word)

  pub cut_behind : (word : List ℕ) → list_all is_inner word ≡ true → drop (piece_len (word ++ rest)) (word ++ rest) ≡ rest
  cut_behind word h = rw (cut_len word h) (left_behind word)

  -- an option is cut
  pub option_cut : (at b : ℕ) (bs : List ℕ) → list_all is_inner (b ∷ bs) ≡ true →
      option_at at (47 ∷ (b ∷ bs ++ rest)) ≡ Ok (record { at = at + 1; word = b ∷ bs; next = at + 1 + length (b ∷ bs); rest = rest })
  unfolding option_at
  option_cut at b bs h = rw (
    cut_front (b ∷ bs) h,
    cut_behind (b ∷ bs) h,
    cut_len (b ∷ bs) h,
    suc_some (length (b ∷ bs ++ rest)),
    suc_some (length
        bs),
  ) refl

  -- an option that isn't empty
  pub option_any : (at : ℕ) (word : List ℕ) → list_all is_inner word ≡ true → 0 < length word →
      option_at at (47 ∷ (word ++ rest)) ≡ Ok (record { at = at + 1; word = word; next = at + 1 + length word; rest = rest })
  option_any at [] h k = absurd (omega arith)
  option_any at (b ∷ bs) h k = option_cut at b bs h

-- an option at the end
pub option_whole : (at b : ℕ) (bs : List ℕ) → list_all is_inner (b ∷ bs) ≡ true →
    option_at at (47 ∷ b ∷ bs) ≡ Ok (record { at = at + 1; word = b ∷ bs; next = at + 1 + length (b ∷ bs); rest = [] })
option_whole at b bs h = rw (append-nil (b ∷ bs)) at (option_cut [] refl at b bs h)

pub option_last : (at : ℕ) (word : List ℕ) → list_all is_inner word ≡ true → 0 < length word →
    option_at at (47 ∷ word) ≡ Ok (record { at = at + 1; word = word; next = at + 1 + length word; rest = [] })
option_last at [] h k = absurd (omega arith)
option_last at (b ∷ bs) h k = option_whole at b bs h
