-- Tokens in another order are read as the same settings.
use Rattle.std.proofs.Common.{◌≡◌, ℕ, zero, suc, List, [], ◌∷◌, map, false, refl, sym, ap, ◌∙◌}
use Rattle.std.specs.Prelude.{Result, Ok}
use Rattle.number_skeleton.specs.declared.fault.SkeletonFault.{SkeletonFault}
use Rattle.number_skeleton.specs.Cuts.{tokens_from}
use Rattle.skeleton_settings.specs.Settings.{SkeletonData}
use Rattle.number_skeleton.specs.Data.{DraftData}
use Rattle.number_skeleton.specs.Drafts.{merged, finished, is_increment_of_compact}
use Rattle.number_skeleton.specs.Fragments.{nothing_data}
use Rattle.number_skeleton.specs.Laws.{word_of, words_of, exchanged, reordered}
use Rattle.number_skeleton.specs.Results.{◌>>=◌}
use Rattle.number_skeleton.specs.Tokens.{Progress, with_token, with_tokens, at_start, checked, precision_offset, skeleton_of}
use Rattle.number_skeleton.proofs.Commuting.{clashes, commute}
use Rattle.number_skeleton.proofs.Orders.{taken, allowed}
use Rattle.number_skeleton.proofs.Says.{Says, token_said}

-- tokens without their bytes
unfoldable with_words : List (List ℕ) → DraftData → Result DraftData SkeletonFault
with_words [] d = Ok d
with_words (word ∷ words) d = with_token 0 word d >>= λ next. with_words words next

token_anywhere : (at bt : ℕ) (token : List ℕ) (d next : DraftData) → with_token at token d ≡ Ok next → with_token bt token d ≡ Ok next
token_anywhere at bt token d next h =
    let said = token_said at token d next h in
    said.says.says bt d said.free ∙ ap Ok (sym said.sets)

-- without bytes they are read as with them
words_read : (ts : List (ℕ × List ℕ)) (p q : Progress) → with_tokens ts p ≡ Ok q → with_words (map word_of ts) p.draft ≡ Ok q.draft
unfolding with_words with_tokens
words_read [] p q h = ap (λ (r : Result Progress SkeletonFault). r >>= λ x. Ok x.draft) h
words_read ((at, token) ∷ ts) p q h =
    let one = taken (with_token at token p.draft) _ q h in
    rw (token_anywhere at 0 token p.draft one.0 one.1.0) (words_read ts (record { draft = one.0; precision_at = precision_offset at p }) q one.1.1)

-- and with bytes as without
record Somewhere (ts : List (ℕ × List ℕ)) (p : Progress) (d : DraftData) : Type 0 where
  pub index : ℕ
  pub is : with_tokens ts p ≡ Ok (record { draft = d; precision_at = index })

tokens_read : (ts : List (ℕ × List ℕ)) (p : Progress) (d : DraftData) → with_words (map word_of ts) p.draft ≡ Ok d → Somewhere ts p d
unfolding with_words with_tokens
tokens_read [] p d h = record {
  index = p.precision_at;
  is = ap (λ (r : Result DraftData SkeletonFault). r >>= λ x. Ok (record {
    draft = x;
    precision_at =
        p.precision_at;
  })) h;
}
tokens_read ((at, token) ∷ ts) p d h =
    let one = taken (with_token 0 token p.draft) _ d h in
    let more = tokens_read ts (record { draft = one.0; precision_at = precision_offset at p }) d one.1.1 in
    record { index = more.index; is = rw (token_anywhere 0 at token p.draft one.0 one.1.0) more.is }

-- two tokens in a row, by what they say
swapped_values : (a b : List ℕ) (d mid next v w : DraftData) → Says a v → Says b w → clashes d v ≡ false → mid ≡ merged d v → clashes mid w
    ≡ false → next ≡ merged mid w →
    (with_token 0 b d >>= λ x. with_token 0 a x) ≡ Ok next
swapped_values a b d mid next v w sa sb h m g e =
    let c = commute d v w h (rw m at g) in
    rw (sb.says 0 d c.second) (sa.says 0 (merged d w) c.first ∙ ap Ok (sym c.same ∙ sym (rw m at e)))

-- two tokens in a row
swapped : (a b : List ℕ) (d mid next : DraftData) → with_token 0 a d ≡ Ok mid → with_token 0 b mid ≡ Ok next → (with_token 0 b d >>= λ x.
    with_token 0 a x) ≡ Ok next
swapped a b d mid next h g =
    let first = token_said 0 a d mid h in
    let second = token_said 0 b mid next g in
    swapped_values a b d mid next first.fragment second.fragment first.says second.says first.free first.sets second.free second.sets

-- two neighbours among others
exchanged_read : (index : ℕ) (ws : List (List ℕ)) (d next : DraftData) → with_words ws d ≡ Ok next → with_words (exchanged index ws) d ≡ Ok next
unfolding with_words exchanged
exchanged_read zero [] d next h = h
exchanged_read zero (a ∷ []) d next h = h
exchanged_read zero (a ∷ b ∷ ws) d next h =
    let one = taken (with_token 0 a d) _ next h in
    let two = taken (with_token 0 b one.0) _ next one.1.1 in
    let other = taken (with_token 0 b d) (with_token 0 a) two.0 (swapped a b d one.0 two.0 one.1.0 two.1.0) in
    rw (other.1.0, other.1.1) two.1.1
exchanged_read (suc index) [] d next h = h
exchanged_read (suc index) (a ∷ ws) d next h =
    let one = taken (with_token 0 a d) _ next h in
    rw one.1.0 (exchanged_read index ws one.0 next one.1.1)

reordered_read : (indexes : List ℕ) (ws : List (List ℕ)) (d next : DraftData) → with_words ws d ≡ Ok next → with_words (reordered indexes ws) d ≡ Ok
    next
unfolding reordered
reordered_read [] ws d next h = h
reordered_read (index ∷ indexes) ws d next h = reordered_read indexes (exchanged index ws) d next (exchanged_read index ws d next h)

-- the byte of the precision decides nothing where there is no fault
checked_anywhere : (p q : Progress) (s : SkeletonData) → p.draft ≡ q.draft → checked p ≡ Ok s → checked q ≡ Ok s
checked_anywhere p q s e h =
    let free = allowed (is_increment_of_compact p.draft) (Ok (finished p.draft)) s _ h in
    rw (← e, free.0) free.1

-- tokens in another order
pub order_nothing : (indexes text other : List ℕ) (s : SkeletonData) → words_of other ≡ reordered indexes (words_of text) → skeleton_of text ≡ Ok s
    → skeleton_of other ≡ Ok s
unfolding skeleton_of
order_nothing indexes text other s same h =
    let one = taken (with_tokens (tokens_from 0 0 text) at_start) checked s h in
    let words = words_read (tokens_from 0 0 text) at_start one.0 one.1.0 in
    let again = reordered_read indexes (words_of text) nothing_data one.0.draft words in
    let there = tokens_read (tokens_from 0 0 other) at_start one.0.draft (rw same again) in
    rw there.is (checked_anywhere one.0 (record { draft = one.0.draft; precision_at = there.index }) s refl one.1.1)
