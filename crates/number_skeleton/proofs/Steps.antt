-- What is left of a text while it is read.
use Rattle.std.proofs.Common.{◌≡◌, ℕ, ◌+◌, ◌<◌, ◌≤◌, List, [], length, drop, take, refl, sym, ap, ◌∙◌, arith, length-drop}
use Rattle.std.specs.Prelude.{Ok, Err}
use Rattle.number_skeleton.specs.declared.fault.SkeletonFault.{SkeletonFault}
use Rattle.number_skeleton.specs.Cuts.{blank_len, token_len, tokens_from}
use Rattle.number_skeleton.specs.Data.{DraftData}
use Rattle.number_skeleton.specs.Results.{◌>>=◌}
use Rattle.number_skeleton.specs.Tokens.{Progress, with_token, with_tokens, at_start, checked, precision_offset, skeleton_of}
use Rattle.std.proofs.lemmas.List.{drop-drop, nil_from_length}
use Rattle.number_skeleton.proofs.Cutting.{next_token, token_len-le, token_len-more}

-- the rest is read as the whole text is
pub record Reads (text : List ℕ) (at : ℕ) (p : Progress) : Type 0 where
  pub within : at ≤ length text
  pub same : with_tokens (tokens_from 0 0 text) at_start ≡ with_tokens (tokens_from at 0 (drop at text)) p

pub reads-start : (text : List ℕ) (p : Progress) → p ≡ at_start → Reads text 0 p
reads-start text p e = record { within = omega arith; same = rw e refl }

-- a step: blanks, and what stands behind them
module _ (text : List ℕ) (at : ℕ) (p : Progress) (reads : Reads text at p) (blanks : ℕ) (left rest : List ℕ)
    (left_is : left ≡ drop at text) (within : blanks ≤ length left)
    (same : (place : ℕ) → tokens_from place 0 left ≡ tokens_from (place + blanks) 0 (drop blanks left))
    (none : blank_len (drop blanks left) ≡ 0) (rest_is : rest ≡ drop (at + blanks) text) where
  behind_blanks : drop blanks left ≡ rest
  behind_blanks = ap (drop blanks) left_is ∙ drop-drop blanks at text ∙ sym rest_is

  left_reads : with_tokens (tokens_from 0 0 text) at_start ≡ with_tokens (tokens_from (at + blanks) 0 rest) p
  left_reads = reads.same ∙ rw (← left_is, same at, behind_blanks) refl

  -- the blanks are within the text
  pub blanks-within : at + blanks ≤ length text
  blanks-within = omega (arith, reads.within, within, ap length left_is, length-drop at text)

  -- the end
  pub reads-end : length rest ≡ 0 → skeleton_of text ≡ checked p
  unfolding skeleton_of with_tokens tokens_from
  reads-end empty = let e : rest ≡ [] = nil_from_length rest empty in rw (left_reads, e) refl

  module _ (some : 0 < length rest) (len : ℕ) (len_is : len ≡ token_len rest) (token : List ℕ) (token_is : token ≡ take len rest) where
    -- the token is within the text
    pub token-within : at + blanks + len ≤ length text
    token-within = omega (arith, blanks-within, token_len-le rest, len_is, ap length rest_is, length-drop (at + blanks) text)

    -- it isn't empty
    pub token-some : 0 < len
    token-some = omega (arith, len_is, token_len-more rest some (ap blank_len (sym behind_blanks) ∙ none))

    -- a token in front
    one : with_tokens (tokens_from 0 0 text) at_start ≡ (with_token (at + blanks) token p.draft >>= λ draft. with_tokens (tokens_from (at + blanks + len) 0
        (drop len rest)) (record { draft = draft; precision_at = precision_offset (at + blanks) p }))
    unfolding with_tokens
    one = left_reads ∙ rw (next_token (at + blanks) rest some (ap blank_len (sym behind_blanks) ∙ none), ← len_is, ← token_is) refl

    -- it has a fault
    pub reads-fault : (fault : SkeletonFault) → with_token (at + blanks) token p.draft ≡ Err fault → skeleton_of text ≡ Err fault
    unfolding skeleton_of
    reads-fault fault e = rw (one, e) refl

    -- it is read
    pub reads-more : (next : DraftData) → with_token (at + blanks) token p.draft ≡ Ok next → Reads text (at + blanks + len) (record {
      draft = next;
      precision_at = precision_offset (at + blanks) p;
    })
    reads-more next e = record { within = token-within; same = one ∙ rw (e, rest_is, drop-drop len (at + blanks) text) refl }
