-- Texts are cut at blanks.
use Rattle.std.proofs.Common.{◌≡◌, ℕ, suc, zero, ◌+◌, ◌-◌, ◌<◌, ◌≤◌, List, [], ◌∷◌, length, drop, take, true, nat_lt, refl}
use Rattle.std.proofs.Common.{ap, ◌∙◌, arith, length-drop, ◌≢◌}
use Rattle.std.proofs.lemmas.List.{drop-drop}
use Rattle.std.proofs.lemmas.Bool.Decides.{nat_tests}
use Rattle.number_skeleton.specs.Cuts.{blank_len, token_len, tokens_from}

-- what is passed over
pub skipped : (at skip : ℕ) (bs : List ℕ) → tokens_from at skip bs ≡ tokens_from (at + skip) 0 (drop skip bs)
unfolding tokens_from
skipped at zero [] = refl
skipped at (suc k) [] = refl
skipped at zero (b ∷ bs) = let e : at + 0 ≡ at = omega arith in rw e refl
skipped at (suc k) (b ∷ bs) = let e : at + 1 + k ≡ at + suc k = omega arith in skipped (at + 1) k bs ∙ rw e refl

-- a test
positive : (n : ℕ) → 0 < n → nat_lt 0 n ≡ true
positive n h = grind (arith, nat_tests)

-- a blank is within its text
pub blank_len-le : (bs : List ℕ) → blank_len bs ≤ length bs
unfolding blank_len
blank_len-le [] = omega arith
blank_len-le (a ∷ []) = grind (arith, nat_tests)
blank_len-le (a ∷ b ∷ []) = grind (arith, nat_tests)
blank_len-le (a ∷ b ∷ c ∷ bs) = grind (arith, nat_tests)

-- behind a blank of that many bytes stand the same tokens
behind_bytes : (at n b : ℕ) (bs : List ℕ) → blank_len (b ∷ bs) ≡ n → 0 < n → tokens_from at 0 (b ∷ bs) ≡ tokens_from (at + n) 0 (drop n (b
    ∷ bs))
unfolding tokens_from
behind_bytes at zero b bs e h = absurd (omega arith)
behind_bytes at (suc k) b bs e h =
    let less : suc k - 1 ≡ k = omega arith in
    let place : at + 1 + k ≡ at + suc k = omega arith in
    rw (e, positive (suc k) h, less) (skipped (at + 1) k bs ∙ rw place refl)

-- behind a blank stand the same tokens
pub behind_blank : (at : ℕ) (bs : List ℕ) → 0 < blank_len bs → tokens_from at 0 bs ≡ tokens_from (at + blank_len bs) 0 (drop (blank_len bs) bs)
unfolding tokens_from blank_len
behind_blank at [] h = absurd (omega arith)
behind_blank at (b ∷ bs) h = behind_bytes at (blank_len (b ∷ bs)) b bs refl h

-- a token goes on
pub token_len-more : (bs : List ℕ) → 0 < length bs → blank_len bs ≡ 0 → token_len bs ≡ 1 + token_len (drop 1 bs)
unfolding token_len
token_len-more [] some none = absurd (omega arith)
token_len-more (b ∷ bs) some none = rw none refl

-- a token ends
pub token_len-stop : (bs : List ℕ) → 0 < blank_len bs → token_len bs ≡ 0
unfolding token_len
token_len-stop [] h = refl
token_len-stop (b ∷ bs) h = rw (positive (blank_len (b ∷ bs)) h) refl

-- a token of that many bytes, and what stands behind it
token_bytes : (at n b : ℕ) (bs : List ℕ) → blank_len (b ∷ bs) ≡ 0 → token_len (b ∷ bs) ≡ n →
    tokens_from at 0 (b ∷ bs) ≡ (at, take n (b ∷ bs)) ∷ tokens_from (at + n) 0 (drop n (b ∷ bs))
unfolding tokens_from
token_bytes at n b bs none e =
    let more : token_len (b ∷ bs) ≡ 1 + token_len bs = token_len-more (b ∷ bs) (omega arith) none in
    let size : n ≡ suc (token_len bs) = omega arith in
    let place : at + 1 + token_len bs ≡ at + suc (token_len bs) = omega arith in
    rw (none, e, size) (ap (λ (ts : List (ℕ × List ℕ)). (at, take (suc (token_len bs)) (b ∷ bs)) ∷ ts) (skipped (at + 1) (token_len bs) bs ∙ rw
    place refl))

-- where a token begins
pub next_token : (at : ℕ) (bs : List ℕ) → 0 < length bs → blank_len bs ≡ 0 →
    tokens_from at 0 bs ≡ (at, take (token_len bs) bs) ∷ tokens_from (at + token_len bs) 0 (drop (token_len bs) bs)
next_token at [] some none = absurd (omega arith)
next_token at (b ∷ bs) some none = token_bytes at (token_len (b ∷ bs)) b bs none refl

-- a blank more
pub blanks-on : (text : List ℕ) (len n : ℕ) → n ≡ blank_len (drop len text) → 0 < n →
    ((at : ℕ) → tokens_from at 0 text ≡ tokens_from (at + len) 0 (drop len text)) →
    (at : ℕ) → tokens_from at 0 text ≡ tokens_from (at + (len + n)) 0 (drop (len + n) text)
blanks-on text len n e h so_far at =
    let place : at + len + n ≡ at + (len + n) = omega arith in
    so_far at ∙ rw (← e) at (behind_blank (at + len) (drop len text) (rw e at h)) ∙ rw place (ap (tokens_from (at + (len + n)) 0) (drop-drop n len text))

-- a token is within its text
pub token_len-le : (bs : List ℕ) → token_len bs ≤ length bs
unfolding token_len
token_len-le [] = omega arith
token_len-le (b ∷ bs) = grind (arith, nat_tests, token_len-le bs)

module _ (text : List ℕ) (len : ℕ) (so_far : token_len text ≡ len + token_len (drop len text)) where
  -- one byte more
  pub counted-more : len < length text → blank_len (drop len text) ≡ 0 → token_len text ≡ len + 1 + token_len (drop (len + 1) text)
  counted-more some none =
      let more : token_len (drop len text) ≡ 1 + token_len (drop 1 (drop len text)) = token_len-more (drop len text) (omega (arith, length-drop len text))
      none in
      let same : drop 1 (drop len text) ≡ drop (len + 1) text = drop-drop 1 len text in
      omega (arith, ap token_len same)

  -- a blank
  pub counted-blank : (blank_len (drop len text) ≢ 0) → len ≡ token_len text
  counted-blank h = let stop : token_len (drop len text) ≡ 0 = token_len-stop (drop len text) (omega arith) in omega arith

  -- the end
  pub counted-end : length text ≤ len → len ≡ token_len text
  counted-end h = omega (arith, token_len-le (drop len text), length-drop len text)
