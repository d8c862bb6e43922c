-- Tokens that are joined are cut again.
use Rattle.std.proofs.Common.{◌≡◌, ℕ, suc, zero, ◌+◌, ◌<◌, ◌≤◌, List, [], ◌∷◌, ◌++◌, length, take, Bool, true, ◌&&◌}
use Rattle.std.proofs.Common.{nat_le, refl, ◌∙◌, arith}
use Rattle.std.proofs.Math.Seq.{drop-length}
use Rattle.std.proofs.lemmas.List.Folds.{list_all-append}
use Rattle.std.proofs.lemmas.Bool.Decides.{nat_tests}
use Rattle.std.proofs.lemmas.List.{take-append-le, take_all}
use Rattle.std.specs.List.{list_all}
use Rattle.std.specs.Prelude.{Result, Ok, Err}
use Rattle.number_skeleton.specs.declared.fault.SkeletonFault.{SkeletonFault}
use Rattle.skeleton_settings.specs.Canonical.{spaced}
use Rattle.number_skeleton.specs.Cuts.{blank_len, token_len, tokens_from}
use Rattle.number_skeleton.specs.Data.{DraftData}
use Rattle.number_skeleton.specs.Fragments.{nothing_data}
use Rattle.number_skeleton.specs.Results.{◌>>=◌}
use Rattle.number_skeleton.specs.Tokens.{Progress, with_token, with_tokens, at_start, precision_offset}
use Rattle.number_skeleton.proofs.Ascii.{and_left, and_right}
use Rattle.number_skeleton.proofs.Cutting.{token_len-le, skipped}

-- a byte that may stand in a canonical text, and one that may stand in its tokens
abbrev pub is_printed : ℕ → Bool
is_printed b = nat_le 32 b && nat_le b 126

abbrev pub is_plain : ℕ → Bool
is_plain b = nat_le 33 b && nat_le b 126

-- such a byte is no blank
pub plain-no_blank : (b : ℕ) (bs : List ℕ) → is_plain b ≡ true → blank_len (b ∷ bs) ≡ 0
unfolding blank_len
plain-no_blank b bs h = grind (arith, nat_tests)

-- whether a blank begins with a byte of those depends on that byte alone
pub printed-alone : (b : ℕ) (bs cs : List ℕ) → is_printed b ≡ true → blank_len (b ∷ bs) ≡ blank_len (b ∷ cs)
unfolding blank_len
printed-alone b bs cs h = grind (arith, nat_tests)

-- and it is one byte long
pub printed-blank : (b : ℕ) (bs : List ℕ) → is_printed b ≡ true → blank_len (b ∷ bs) ≤ 1
unfolding blank_len
printed-blank b bs h = grind (arith, nat_tests)

-- a space is one blank
token_len-space : (ys : List ℕ) → token_len (32 ∷ ys) ≡ 0
unfolding token_len blank_len
token_len-space ys = refl

tokens_from-space : (at : ℕ) (ys : List ℕ) → tokens_from at 0 (32 ∷ ys) ≡ tokens_from (at + 1) 0 ys
unfolding tokens_from blank_len
tokens_from-space at ys = refl

-- a byte that begins a token, and one that is a blank
first-token : (at b : ℕ) (bs : List ℕ) → blank_len (b ∷ bs) ≡ 0 →
    tokens_from at 0 (b ∷ bs) ≡ (at, take (token_len (b ∷ bs)) (b ∷ bs)) ∷ tokens_from (at + 1) (token_len bs) bs
unfolding tokens_from
first-token at b bs h = rw h refl

first-blank : (at b : ℕ) (bs : List ℕ) → blank_len (b ∷ bs) ≡ 1 → tokens_from at 0 (b ∷ bs) ≡ tokens_from (at + 1) 0 bs
unfolding tokens_from
first-blank at b bs h = rw h refl

-- a token ends before a space
token_len-spaced : (xs ys : List ℕ) → list_all is_printed xs ≡ true → token_len (xs ++ 32 ∷ ys) ≡ token_len xs
unfolding token_len
token_len-spaced [] ys h = token_len-space ys
token_len-spaced (b ∷ bs) ys h =
    rw (
      printed-alone b (bs ++ 32 ∷ ys) bs (and_left (is_printed b) (list_all is_printed bs) h),
      token_len-spaced bs ys (and_right (is_printed b) (list_all is_printed bs) h),
    ) refl

-- a plain text is one token
token_len-plain : (bs : List ℕ) → list_all is_plain bs ≡ true → token_len bs ≡ length bs
unfolding token_len
token_len-plain [] h = refl
token_len-plain (b ∷ bs) h =
    rw (plain-no_blank b bs (and_left (is_plain b) (list_all is_plain bs) h), token_len-plain bs (and_right (is_plain b) (list_all is_plain bs) h)) (omega
    arith)

-- tokens of texts with a space between them, by their first byte
module _ (at b : ℕ) (bs ys : List ℕ) (h : list_all is_printed (b ∷ bs) ≡ true)
    (rest : (skip : ℕ) → skip ≤ length bs → tokens_from (at + 1) skip (bs ++ 32 ∷ ys) ≡ tokens_from (at + 1) skip bs ++ tokens_from (at + 1 +
    length bs + 1) 0 ys) where
  here : is_printed b ≡ true
  here = and_left (is_printed b) (list_all is_printed bs) h

  place : at + 1 + length bs + 1 ≡ at + suc (length bs) + 1
  place = omega arith

  spaced-token : blank_len (b ∷ bs) ≡ 0 → tokens_from at 0 (b ∷ bs ++ 32 ∷ ys) ≡ tokens_from at 0 (b ∷ bs) ++ tokens_from (at + suc (length bs)
      + 1) 0 ys
  spaced-token none =
      first-token at b (bs ++ 32 ∷ ys) (printed-alone b (bs ++ 32 ∷ ys) bs here ∙ none)
      ∙ rw (
        token_len-spaced (b ∷ bs) ys h,
        token_len-spaced bs ys (and_right (is_printed b) (list_all is_printed bs) h),
        take-append-le (token_len (b ∷ bs)) (b ∷ bs) (32 ∷ ys) (token_len-le (b ∷ bs)),
        rest (token_len bs) (token_len-le bs),
        first-token at b bs none,
        place,
      ) refl

  spaced-blank : blank_len (b ∷ bs) ≡ 1 → tokens_from at 0 (b ∷ bs ++ 32 ∷ ys) ≡ tokens_from at 0 (b ∷ bs) ++ tokens_from (at + suc (length bs)
      + 1) 0 ys
  spaced-blank one =
      first-blank at b (bs ++ 32 ∷ ys) (printed-alone b (bs ++ 32 ∷ ys) bs here ∙ one)
      ∙ rw (rest 0 (omega arith), first-blank at b bs one, place) refl

  spaced-either : (n : ℕ) → blank_len (b ∷ bs) ≡ n → tokens_from at 0 (b ∷ bs ++ 32 ∷ ys) ≡ tokens_from at 0 (b ∷ bs) ++ tokens_from (at +
      suc (length bs) + 1) 0 ys
  spaced-either zero e = spaced-token e
  spaced-either (suc zero) e = spaced-blank e
  spaced-either (suc (suc n)) e = absurd (omega (arith, printed-blank b bs here))

-- tokens of texts with a space between them
tokens_from-spaced : (at skip : ℕ) (xs ys : List ℕ) → list_all is_printed xs ≡ true → skip ≤ length xs →
    tokens_from at skip (xs ++ 32 ∷ ys) ≡ tokens_from at skip xs ++ tokens_from (at + length xs + 1) 0 ys
unfolding tokens_from
tokens_from-spaced at zero [] ys h k = let e : at + 0 + 1 ≡ at + 1 = omega arith in rw e (tokens_from-space at ys)
tokens_from-spaced at (suc skip) [] ys h k = absurd (omega arith)
tokens_from-spaced at zero (b ∷ bs) ys h k =
    spaced-either at b bs ys h (λ skip l. tokens_from-spaced (at + 1) skip bs ys (and_right (is_printed b) (list_all is_printed bs) h) l) (blank_len (b ∷
    bs)) refl
tokens_from-spaced at (suc skip) (b ∷ bs) ys h k =
    let e : at + 1 + length bs + 1 ≡ at + suc (length bs) + 1 = omega arith in
    rw (← e) (tokens_from-spaced (at + 1) skip bs ys (and_right (is_printed b) (list_all is_printed bs) h) (omega arith))

-- a plain text is one token
tokens_from-plain : (at : ℕ) (token : List ℕ) → list_all is_plain token ≡ true → 0 < length token → tokens_from at 0 token ≡ (at, token) ∷ []
unfolding tokens_from
tokens_from-plain at [] h k = absurd (omega arith)
tokens_from-plain at (b ∷ bs) h k =
    first-token at b bs (plain-no_blank b bs (and_left (is_plain b) (list_all is_plain bs) h))
    ∙ rw (
      token_len-plain (b ∷ bs) h,
      token_len-plain bs (and_right (is_plain b) (list_all is_plain bs) h),
      take_all (suc (length bs)) (b ∷ bs) (omega arith),
      skipped (at + 1) (length bs) bs,
      drop-length bs,
    ) refl

-- one token after the other
pub with_tokens-append : (xs ys : List (ℕ × List ℕ)) (p : Progress) → with_tokens (xs ++ ys) p ≡ (with_tokens xs p >>= with_tokens ys)
unfolding with_tokens
with_tokens-append [] ys p = refl
with_tokens-append ((at, token) ∷ xs) ys p = go (λ q. with_tokens-append xs ys q) (with_token at token p.draft)
  where
    go : ((q : Progress) → with_tokens (xs ++ ys) q ≡ (with_tokens xs q >>= with_tokens ys)) →
        (r : Result DraftData SkeletonFault) → (r >>= λ d. with_tokens (xs ++ ys) (record { draft = d; precision_at = precision_offset at p })) ≡
        ((r >>= λ d. with_tokens xs (record { draft = d; precision_at = precision_offset at p })) >>= with_tokens ys)
    go rest (Ok d) = rest (record { draft = d; precision_at = precision_offset at p })
    go rest (Err e) = refl

-- a text that is read as a draft, and to which more may be written
pub record Written (out : List ℕ) (draft : DraftData) : Type 0 where
  pub printed : list_all is_printed out ≡ true
  pub place : ℕ
  pub read : with_tokens (tokens_from 0 0 out) at_start ≡ Ok (record { draft = draft; precision_at = place })

pub written-nothing : Written [] nothing_data
unfolding with_tokens tokens_from
written-nothing = record { printed = refl; place = 0; read = refl }

-- a plain text may be written
plain-printed : (bs : List ℕ) → list_all is_plain bs ≡ true → list_all is_printed bs ≡ true
plain-printed [] h = refl
plain-printed (b ∷ bs) h =
    let here : is_plain b ≡ true = and_left (is_plain b) (list_all is_plain bs) h in
    let also : is_printed b ≡ true = grind (arith, nat_tests) in
    rw (also, plain-printed bs (and_right (is_plain b) (list_all is_plain bs) h)) refl

-- behind others the token is the last one
spaced-tokens : (out token : List ℕ) → list_all is_printed out ≡ true → list_all is_plain token ≡ true → 0 < length token →
    (place : ℕ) × (tokens_from 0 0 (spaced out token) ≡ tokens_from 0 0 out ++ (place, token) ∷ [])
unfolding spaced tokens_from
spaced-tokens [] token h plain some = (0, tokens_from-plain 0 token plain some)
spaced-tokens (b ∷ bs) token h plain some = (
  0 + suc (length bs) + 1,
  tokens_from-spaced 0 0 (b ∷ bs) token h (omega arith) ∙ rw (tokens_from-plain (0 + suc (length bs) + 1) token plain some)
      refl,
)

-- and all of them may be written
spaced-printed : (out token : List ℕ) → list_all is_printed out ≡ true → list_all is_plain token ≡ true → list_all is_printed (spaced out token)
    ≡ true
unfolding spaced
spaced-printed [] token h plain = plain-printed token plain
spaced-printed (b ∷ bs) token h plain = list_all-append is_printed (b ∷ bs) (32 ∷ token) ∙ rw (h, plain-printed token plain) refl

-- one token more
pub written-more : (out token : List ℕ) (draft next : DraftData) → Written out draft → list_all is_plain token ≡ true → 0 < length token →
    ((at : ℕ) → with_token at token draft ≡ Ok next) → Written (spaced out token) next
unfolding with_tokens
written-more out token draft next w plain some reads =
    let last = spaced-tokens out token w.printed plain some in
    record {
      printed = spaced-printed out token w.printed plain;
      place = precision_offset last.0 (record { draft = draft; precision_at = w.place });
      read = rw (last.1, with_tokens-append (tokens_from 0 0 out) ((last.0, token) ∷ []) at_start, w.read, reads last.0) refl;
    }
