-- Reading by one token, and what is left of a text while it is read.
-- The definition `reading_from` goes through a list of tokens, and the loops of `reader.rt` have only the bytes that are left. `Left` is the invariant: the
-- tokens of what is left, read from the progress and the draft so far, give what the whole text gives. `stuck`, `goes_on` and `at_end` are
-- the cases of `reading_from` as equations; `read_on` is its case split as a function, so that an equation of `next_progress` can be put in.
-- The search for the first fault keeps no draft, so `Looks` has it as a witness; the reading counts no bytes, so `Reads` has the place as one.
use Rattle.std.proofs.Common.{◌≡◌, ℕ, ◌+◌, Bool, true, false, cond, List, [], ◌∷◌, length, drop, Option, Some, None, Result, Ok, Err, IfOk}
use Rattle.std.proofs.Common.{refl, sym, ap, ◌∙◌, arith, if◌then◌else◌}
use Rattle.std.proofs.lemmas.Grind.{common_steps}
use Rattle.icu_plurals_conditions.specs.declared.condition.Condition.{Condition as OwnedCondition}
use Rattle.icu_plurals_conditions.specs.declared.lexer.Found.{Found}
use Rattle.icu_plurals_conditions.specs.declared.progress.Progress.{Progress}
use Rattle.icu_plurals_conditions.specs.declared.progress.Progress.TheVariants.{Nothing}
use Rattle.icu_plurals_conditions.specs.Tokens.{part_of, tokens_from}
use Rattle.icu_plurals_conditions.specs.Grammar.{Condition, PositionedToken}
use Rattle.icu_plurals_conditions.specs.Lexer.{IsFound}
use Rattle.icu_plurals_conditions.specs.Drafts.{Drafted, empty_draft, with_token, completed}
use Rattle.icu_plurals_conditions.specs.Owned.{condition_in}
use Rattle.icu_plurals_conditions.specs.Reading.{next_progress, may_end, reading_from, reading, condition_of, fault_byte}
use Rattle.icu_plurals_conditions.proofs.Answered.{none, none_is, done, fault}

-- what is read behind a token, unless it can't stand there
abbrev pub read_on : ℕ → Drafted → PositionedToken → List PositionedToken → Progress → Option Progress → Result Condition ℕ
read_on end d t ts g o = elim o as (λ _. Result Condition ℕ) [ None ↦ Err t.0 | Some next ↦ reading_from end next (with_token g t.1 d) ts ]

-- a token that can't stand there is rejected
pub stuck : (end : ℕ) (g : Progress) (d : Drafted) (t : PositionedToken) (ts : List PositionedToken) → next_progress g t.1 ≡ None →
    reading_from end g d (t ∷ ts) ≡ Err t.0
unfolding reading_from
stuck end g d t ts h = ap (λ (o : Option Progress). read_on end d t ts g o) h

-- a token that may stand there is read, and reading goes on behind it
pub goes_on : (end : ℕ) (g n : Progress) (d : Drafted) (t : PositionedToken) (ts : List PositionedToken) → next_progress g t.1 ≡ Some n →
    reading_from end g d (t ∷ ts) ≡ reading_from end n (with_token g t.1 d) ts
unfolding reading_from
goes_on end g n d t ts h = ap (λ (o : Option Progress). read_on end d t ts g o) h

-- what is read of nothing more
abbrev pub ended : Bool → Condition → ℕ → Result Condition ℕ
ended b c end = if b then Ok c else Err end

-- behind the last token a condition is read, or the end is the fault
pub at_end : (end : ℕ) (g : Progress) (d : Drafted) → reading_from end g d [] ≡ ended (may_end g) (completed g d) end
unfolding reading_from
at_end end g d = refl

-- what is read there is what was complete
pub ended_ok : (b : Bool) (x c : Condition) (end : ℕ) → ended b x end ≡ done c → (b ≡ true) × (x ≡ c)
ended_ok true x c end e = (refl, cc)
ended_ok false x c end e = absurd cc

-- ---- in the loops: g and d are how the text was read up to here

-- what is left of a text makes its condition, or has its fault
pub record Left (text rest : List ℕ) (end at : ℕ) (g : Progress) (d : Drafted) : Type 0 where
  pub is_end : end ≡ length (part_of text)
  pub offset : at + length rest ≡ end
  pub read : reading_from end g d (tokens_from at rest) ≡ condition_of text

left-start : (text part : List ℕ) (end : ℕ) (d : Drafted) → part ≡ part_of text → end ≡ length part → d ≡ empty_draft →
    Left text part end 0 Nothing d
unfolding condition_of reading
left-start text part end d e l h = rw (h, l, e) (record { is_end = refl; offset = omega arith; read = refl })

-- the reading from a token on
left-token : (text rest : List ℕ) (end at : ℕ) (g : Progress) (d : Drafted) (f : Found) → Left text rest end at g d → IsFound rest f →
    reading_from end g d ((at + f.start, f.token) ∷ tokens_from (at + f.end) (drop f.end rest)) ≡ condition_of text
left-token text rest end at g d f h k = sym (ap (reading_from end g d) (k.tokens at)) ∙ h.read

left-next : (text rest after : List ℕ) (end at : ℕ) (g n : Progress) (d e : Drafted) (f : Found) → Left text rest end at g d → IsFound rest f →
    next_progress g f.token ≡ Some n
    → after ≡ drop f.end rest → e ≡ with_token g f.token d → Left text after end (at + f.end) n e
left-next text rest after end at g n d e f h k next a b = rw (a, b) (record {
  is_end = h.is_end;
  offset = grind (arith, common_steps, h.offset, k.within);
  read = sym (goes_on end g n d (at + f.start, f.token) (tokens_from (at + f.end) (drop f.end rest)) next) ∙ left-token text rest end at g d f h k;
})

left-stop : (text rest : List ℕ) (end at : ℕ) (g : Progress) (d : Drafted) (f : Found) → Left text rest end at g d → IsFound rest f →
    next_progress g f.token ≡ None → fault (at + f.start) ≡ condition_of text
left-stop text rest end at g d f h k e = sym (stuck end g d (at + f.start, f.token) (tokens_from (at + f.end) (drop f.end rest)) e)
    ∙ left-token text rest end at g d f h k

left-end : (text rest : List ℕ) (end at : ℕ) (g : Progress) (d : Drafted) → Left text rest end at g d → ((p : ℕ) → tokens_from p rest ≡ []) →
    ended (may_end g) (completed g d) end ≡ condition_of text
left-end text rest end at g d h k = sym (at_end end g d) ∙ sym (ap (reading_from end g d) (k at)) ∙ h.read

-- ---- the search for the first fault, which keeps no draft

-- what is left has the fault of the text, by some draft
pub record Looks (text : List ℕ) (end at : ℕ) (rest : List ℕ) (g : Progress) : Type 0 where
  pub draft : Drafted
  pub left : Left text rest end at g draft

-- before the first token the whole text is left
pub looks-start : (text part : List ℕ) (end : ℕ) → part ≡ part_of text → end ≡ length part → Looks text end 0 part Nothing
looks-start text part end e l = record { draft = empty_draft; left = left-start text part end empty_draft e l refl }

-- a token that can't stand there is the first fault
pub looks-stop : (text : List ℕ) (end at : ℕ) (rest : List ℕ) (g : Progress) (f : Found) → Looks text end at rest g → IsFound rest f →
    next_progress g f.token ≡ None → Some (at + f.start) ≡ fault_byte (condition_of text)
looks-stop text end at rest g f h k e = ap fault_byte (left-stop text rest end at g h.draft f h.left k e)

-- behind a token that may follow, what is left has the fault of the text
pub looks-next : (text : List ℕ) (end at : ℕ) (rest after : List ℕ) (g n : Progress) (f : Found) → Looks text end at rest g → IsFound rest f →
    next_progress g f.token ≡ Some n → after ≡ drop f.end rest → Looks text end (at + f.end) after n
looks-next text end at rest after g n f h k e same = record {
  draft = with_token g f.token h.draft;
  left = left-next text rest after end at g n h.draft (with_token g f.token h.draft) f h.left k e same refl;
}

fault_at_end : (b : Bool) (c : Condition) (end : ℕ) → cond b None (Some end) ≡ fault_byte (ended b c end)
fault_at_end true c end = refl
fault_at_end false c end = refl

-- behind the last token the fault is the end, unless the text may end there
pub looks-end : (text : List ℕ) (end at : ℕ) (rest : List ℕ) (g : Progress) → Looks text end at rest g → ((p : ℕ) → tokens_from p rest ≡ []) →
    cond (may_end g) None (Some end) ≡ fault_byte (condition_of text)
looks-end text end at rest g h k = fault_at_end (may_end g) (completed g h.draft) end ∙ ap fault_byte (left-end text rest end at g h.draft h.left k)

-- ---- the reading of a text without a fault, which counts no bytes

-- the draft and what is left of a text make its condition, from some byte on
pub record Reads (text rest : List ℕ) (g : Progress) (d : Drafted) : Type 0 where
  pub end : ℕ
  pub at : ℕ
  pub left : Left text rest end at g d

-- before the first token the draft is empty
pub reads-start : (text part : List ℕ) (d : Drafted) → part ≡ part_of text → d ≡ empty_draft → Reads text part Nothing d
reads-start text part d e h = record { end = length part; at = 0; left = left-start text part (length part) d e refl h }

no_fault : (byte : ℕ) (x : Result Condition ℕ) → fault byte ≡ x → fault_byte x ≡ none → ⊥
no_fault byte x e h = none_is (sym (ap fault_byte e ∙ h))

-- a text without a fault has no token that may not follow
pub reads-goes_on : (text rest : List ℕ) (g : Progress) (d : Drafted) (f : Found) → Reads text rest g d → IsFound rest f →
    fault_byte (condition_of text) ≡ None → next_progress g f.token ≡ None → ⊥
reads-goes_on text rest g d f r k h e = no_fault (r.at + f.start) (condition_of text) (left-stop text rest r.end r.at g d f r.left k e) h

-- with a token that may follow, the draft goes on
pub reads-next : (text rest after : List ℕ) (g n : Progress) (d e : Drafted) (f : Found) → Reads text rest g d → IsFound rest f →
    next_progress g f.token ≡ Some n → after ≡ drop f.end rest → e ≡ with_token g f.token d → Reads text after n e
reads-next text rest after g n d e f r k h a b = record { end = r.end; at = r.at + f.end; left = left-next text rest after r.end r.at g n d e f r.left k h a b }

must_end : (b : Bool) (c : Condition) (end : ℕ) (x : Result Condition ℕ) → ended b c end ≡ x → fault_byte x ≡ none → x ≡ done c
must_end true c end x e h = sym e
must_end false c end x e h = absurd (no_fault end x e h)

-- behind the last token the draft is the condition of the text
pub reads-end : (text rest : List ℕ) (g : Progress) (d : Drafted) → Reads text rest g d → ((p : ℕ) → tokens_from p rest ≡ []) →
    fault_byte (condition_of text) ≡ None → condition_of text ≡ Ok (completed g d)
reads-end text rest g d r k h = must_end (may_end g) (completed g d) r.end (condition_of text) (left-end text rest r.end r.at g d r.left k) h

-- the condition that is finished is the one of the text
pub ok_reads : {E : Type 0} (x : Result Condition ℕ) (k : Condition) (r : Result OwnedCondition E) → IfOk r (λ c. condition_in c ≡ k) → x ≡ Ok k →
    IfOk r (λ c. x ≡ Ok (condition_in c))
ok_reads x k (Ok c) h e = e ∙ ap (λ d. done d) (sym h)
ok_reads x k (Err f) h e = tt
