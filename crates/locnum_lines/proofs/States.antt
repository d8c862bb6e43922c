-- The places behind the bytes of a record, and the line in which its last field begins, byte by byte.
use Rattle.std.proofs.Common.{◌≡◌, ℕ, ◌+◌, ◌<◌, ◌≤◌, Bool, true, false, List, [], ◌∷◌, ◌++◌, length, get_or, take, drop}
use Rattle.std.proofs.Common.{Option, Some, None, refl, sym, ap, append_assoc}
use Rattle.std.specs.Prelude.{option_map, if◌then◌else◌}
use Rattle.std.proofs.lemmas.List.{append-nil, drop_all, drop_more, take_more}
use Rattle.locnum_lines.specs.Fields.{ends_field}
use Rattle.locnum_lines.specs.Records.{begun_after, in_front, last_begun, line_after, onto_front, state_after, state_behind}
use Rattle.locnum_lines.specs.declared.cutting.FieldState.{FieldState}
use Rattle.locnum_lines.specs.declared.settings.Delimiter.{Delimiter}
use Rattle.locnum_lines.specs.declared.settings.Delimiter.TheVariants.{Blanks, Byte}

-- without CSV all bytes have the same place
pub state-blanks : (state : FieldState) (bytes : List ℕ) → state_behind Blanks state bytes ≡ state
unfolding state_behind
state-blanks state [] = refl
state-blanks state (b ∷ bs) = state-blanks state bs

pub state-byte : (delimiter : ℕ) (state : FieldState) (bytes : List ℕ) → state_behind (Byte delimiter) state bytes ≡ state
unfolding state_behind
state-byte delimiter state [] = refl
state-byte delimiter state (b ∷ bs) = state-byte delimiter state bs

module _ (delimiter : Delimiter) (bytes : List ℕ) (n : ℕ) (state : FieldState) where
  -- a byte more
  pub state-step : n < length bytes →
      state_behind delimiter state (drop n bytes) ≡ state_behind delimiter (state_after delimiter state (get_or bytes n 0)) (drop (n + 1) bytes)
  unfolding state_behind
  state-step inside = rw (drop_more bytes n 0 inside) refl

  -- the end
  pub state-end : length bytes ≤ n → state_behind delimiter state (drop n bytes) ≡ state
  unfolding state_behind
  state-end past = rw (drop_all n bytes past) refl

  module _ (end begun line : ℕ) where
    -- a byte more of the last field, or before it
    pub begun-step : n < length bytes → last_begun delimiter end state begun line (drop n bytes)
        ≡ last_begun delimiter end (state_after delimiter state (get_or bytes n 0))
        (begun_after (ends_field delimiter state (get_or bytes n 0)) begun (line_after end line (get_or bytes n 0)))
        (line_after end line (get_or bytes n 0)) (drop (n + 1) bytes)
    unfolding last_begun
    begun-step inside = rw (drop_more bytes n 0 inside) refl

    -- its end
    pub begun-end : length bytes ≤ n → last_begun delimiter end state begun line (drop n bytes) ≡ begun
    unfolding last_begun
    begun-end past = rw (drop_all n bytes past) refl

-- what was found in front, unless something is found behind it
abbrev pub or_behind : List ℕ → Option (List ℕ × ℕ) → Option (List ℕ × ℕ) → Option (List ℕ × ℕ)
or_behind before found None = found
or_behind before found (Some (front, last)) = Some (before ++ front, last)

module _ (delimiter : Delimiter) (bytes : List ℕ) (n : ℕ) (state : FieldState) where
  -- a byte more, which ends a field or not
  pub front-step : (found : Option ℕ) → n < length bytes →
      or_behind (take n bytes) (option_map (λ k. (take k bytes, get_or bytes k 0)) found) (in_front delimiter state (drop n bytes))
      ≡ or_behind (take (n + 1) bytes)
      (option_map (λ k. (take k bytes, get_or bytes k 0)) (if ends_field delimiter state (get_or bytes n 0) then Some n else found))
      (in_front delimiter (state_after delimiter state (get_or bytes n 0)) (drop (n + 1) bytes))
  unfolding in_front
  front-step found inside =
      rw (drop_more bytes n 0 inside, take_more bytes n 0 inside)
      (go (ends_field delimiter state (get_or bytes n 0)) (in_front delimiter (state_after delimiter state (get_or bytes n 0)) (drop (n + 1) bytes)))
    where
      go : (t : Bool) (rest : Option (List ℕ × ℕ)) →
          or_behind (take n bytes) (option_map (λ k. (take k bytes, get_or bytes k 0)) found) (onto_front t (get_or bytes n 0) rest)
          ≡ or_behind (take n bytes ++ get_or bytes n 0 ∷ [])
          (option_map (λ k. (take k bytes, get_or bytes k 0)) (if t then Some n else found)) rest
      go t (Some (front, last)) = ap (λ (k : List ℕ). Some (k, last)) (sym (append_assoc (take n bytes) (get_or bytes n 0 ∷ []) front))
      go true None = ap (λ (k : List ℕ). Some (k, get_or bytes n 0)) (append-nil (take n bytes))
      go false None = refl

  -- the end
  pub front-end : (found : Option (List ℕ × ℕ)) → length bytes ≤ n →
      or_behind (take n bytes) found (in_front delimiter state (drop n bytes)) ≡ found
  unfolding in_front
  front-end found past = rw (drop_all n bytes past) refl

-- the start
pub front-start : (delimiter : Delimiter) (state : FieldState) (bytes : List ℕ) →
    in_front delimiter state bytes ≡ or_behind [] None (in_front delimiter state bytes)
front-start delimiter state bytes = go (in_front delimiter state bytes)
  where
    go : (found : Option (List ℕ × ℕ)) → found ≡ or_behind [] None found
    go None = refl
    go (Some (front, last)) = refl
