-- Reading by one character, and what is left of a text while it is read.
-- The definition `reading_from` recurses on the characters that are left, and the code goes forwards by byte offsets. So the invariant speaks of the rest:
-- reading what is left from this byte on, with this state and draft, gives what the whole text gives (`Left`). A character keeps it or ends
-- it with the fault of the text, by what `step` answers (`left-next`, `left-stop`); at the end no character is left (`left-end`). Bytes are
-- tied to characters by std's `chars_past_char`. The search for the first fault keeps no draft: `Looks` says that there is one, and whichever
-- it is, the faults are the same. An invariant on what was read wouldn't do: `pattern_of` has no equation for a text that grows at its end.
use Rattle.std.proofs.Common.{◌≡◌, ℕ, ◌+◌, ◌<◌, List, [], ◌∷◌, ◌++◌, length, chars, refl, sym, ap, ◌∙◌, arith}
use Rattle.std.specs.Prelude.{Option, Some, None, Result, Ok, Err, IsOk, IfSome, IfNone}
use Rattle.std.specs.Str.{IsUtf8}
use Rattle.std.specs.Char.{encode_utf8}
use Rattle.std.proofs.lemmas.List.{nil_from_length}
use Rattle.std.proofs.lemmas.Str.{chars_past_char, chars-nil, IsUtf8-past_char}
use Rattle.std.proofs.Common.{length-append}
use Rattle.icu_dimension_data.specs.declared.error.PatternFault.{PatternFault}
use Rattle.icu_dimension_data.specs.declared.stepping.State.{State}
use Rattle.icu_dimension_data.specs.declared.stepping.Step.{Step}
use Rattle.icu_dimension_data.specs.Patterns.{PatternText}
use Rattle.icu_dimension_data.specs.Stepping.{start, step, end_fault}
use Rattle.icu_dimension_data.specs.Reading.{Drafted, empty_draft, with_step, ended, reading_from, pattern_of, completed}

-- what is read behind a character, unless it is a fault
abbrev pub read_on : Drafted → ℕ → ℕ → List ℕ → Result Step PatternFault → Result PatternText PatternFault
read_on d at c cs r = elim r as (λ _. Result PatternText PatternFault) [
  | Err fault ↦ Err fault
  | Ok t ↦ reading_from t.state (with_step t d) (at + length (encode_utf8 c)) cs
]

-- a fault ends the reading
pub stops : (s : State) (d : Drafted) (at c : ℕ) (cs : List ℕ) (fault : PatternFault) → step s at c ≡ Err fault
    → reading_from s d at (c ∷ cs) ≡ Err fault
unfolding reading_from
stops s d at c cs fault h = ap (λ (r : Result Step PatternFault). read_on d at c cs r) h

-- a character that may stand there is read, and reading goes on behind it
pub goes_on : (s : State) (d : Drafted) (at c : ℕ) (cs : List ℕ) (t : Step) → step s at c ≡ Ok t
    → reading_from s d at (c ∷ cs) ≡ reading_from t.state (with_step t d) (at + length (encode_utf8 c)) cs
unfolding reading_from
goes_on s d at c cs t h = ap (λ (r : Result Step PatternFault). read_on d at c cs r) h

-- behind the last character the pattern is complete, or the end is a fault
pub at_end : (s : State) (d : Drafted) (at : ℕ) → reading_from s d at [] ≡ ended (end_fault s at) d
unfolding reading_from
at_end s d at = refl

-- what is left of a text, from a byte on, makes its pattern, or has its fault
pub record Left (text rest : List ℕ) (at : ℕ) (s : State) (d : Drafted) : Type 0 where
  pub utf8 : IsUtf8 rest
  pub place : at + length rest ≡ length text
  pub read : reading_from s d at (chars rest) ≡ pattern_of text

-- before the first character the whole text is left
pub left-start : (text rest : List ℕ) (at : ℕ) (s : State) (d : Drafted) → IsUtf8 text → rest ≡ text → at ≡ 0
    → s ≡ start → d ≡ empty_draft → Left text rest at s d
unfolding pattern_of
left-start text rest at s d utf8 a b e h = rw (a, b, e, h) (record { utf8 = utf8; place = omega arith; read = refl })

-- the first character of what is left from a byte on, with its place, and what is left behind it
abbrev pub Reads : List ℕ → List ℕ → ℕ → ℕ → ℕ → ℕ → Type 0
Reads rest after at p c next = (p ≡ at) × (rest ≡ encode_utf8 c ++ after) × (next ≡ at + length (encode_utf8 c))

-- this is what a character of what is left gives in a state
pub record Answered (rest after : List ℕ) (at p c next : ℕ) (s : State) (r x : Result Step PatternFault) : Type 0 where
  pub reads : Reads rest after at p c next
  pub answer : r ≡ step s p c
  pub is : r ≡ x

-- the reading from a character on
left-character : (text rest after : List ℕ) (at c : ℕ) (s : State) (d : Drafted) → Left text rest at s d
    → rest ≡ encode_utf8 c ++ after → reading_from s d at (c ∷ chars after) ≡ pattern_of text
left-character text rest after at c s d h e = sym (ap (reading_from s d at) (chars_past_char rest after c h.utf8 e)) ∙ h.read

-- what a step answers at the place of the character
stepped : {rest after : List ℕ} {at p c next : ℕ} {s : State} {r x : Result Step PatternFault}
    → Answered rest after at p c next s r x → step s at c ≡ x
stepped {c = c} {s = s} a = sym (ap (λ n. step s n c) a.reads.0) ∙ sym a.answer ∙ a.is

-- a fault is that of the text
pub left-stop : {text rest after : List ℕ} {at p c next : ℕ} {s : State} {d : Drafted} {r : Result Step PatternFault}
    {fault : PatternFault} → Left text rest at s d → Answered rest after at p c next s r (Err fault)
    → pattern_of text ≡ Err fault
left-stop {text} {rest} {after} {at} {p} {c} {next} {s} {d} {r} {fault} h a =
    sym (left-character text rest after at c s d h a.reads.1) ∙ stops s d at c (chars after) fault (stepped a)

-- behind a character that may stand there, less is left
pub left-next : {text rest after : List ℕ} {at p c next : ℕ} {s : State} {d : Drafted} {r : Result Step PatternFault}
    {t : Step} → Left text rest at s d → Answered rest after at p c next s r (Ok t)
    → Left text after next t.state (with_step t d)
left-next {text} {rest} {after} {at} {p} {c} {next} {s} {d} {r} {t} h a = rw a.reads.2 (record {
  utf8 = IsUtf8-past_char rest after c h.utf8 a.reads.1;
  place = omega (arith, h.place, ap length a.reads.1, length-append (encode_utf8 c) after);
  read = sym (goes_on s d at c (chars after) t (stepped a)) ∙ left-character text rest after at c s d h a.reads.1;
})

-- the places that are left stay below a bound
pub bounded : (rest after : List ℕ) (at p c next n : ℕ) → Reads rest after at p c next
    → at + length rest < n → next + length after < n
bounded rest after at p c next n e h = omega (arith, e.2, ap length e.1, length-append (encode_utf8 c) after)

-- behind the last character nothing is left to read
pub left-end : (text rest : List ℕ) (at : ℕ) (s : State) (d : Drafted) → Left text rest at s d → length rest ≡ 0
    → pattern_of text ≡ ended (end_fault s (length text)) d
left-end text rest at s d h e =
    let place : at ≡ length text = omega (arith, h.place) in
    let nothing : chars rest ≡ [] = ap chars (nil_from_length rest e) ∙ chars-nil in
    sym h.read ∙ ap (reading_from s d at) nothing ∙ at_end s d at ∙ ap (λ n. ended (end_fault s n) d) place

-- ---- the search for the first fault, which keeps no draft

-- what is left has the fault of the text, by some draft
pub record Looks (text rest : List ℕ) (at : ℕ) (s : State) : Type 0 where
  pub draft : Drafted
  pub left : Left text rest at s draft

-- before the first character the whole text is left
pub looks-start : (text rest : List ℕ) (at : ℕ) (s : State) → IsUtf8 text → rest ≡ text → at ≡ 0 → s ≡ start
    → Looks text rest at s
looks-start text rest at s utf8 a b e =
    record { draft = empty_draft; left = left-start text rest at s empty_draft utf8 a b e refl }

-- behind a character that may stand there, less is left
pub looks-next : {text rest after : List ℕ} {at p c next : ℕ} {s : State} {r : Result Step PatternFault} {t : Step}
    → Looks text rest at s → Answered rest after at p c next s r (Ok t) → Looks text after next t.state
looks-next {t = t} h a = record { draft = with_step t h.draft; left = left-next h.left a }

-- a fault is that of the text
pub looks-stop : {text rest after : List ℕ} {at p c next : ℕ} {s : State} {r : Result Step PatternFault}
    {fault : PatternFault} → Looks text rest at s → Answered rest after at p c next s r (Err fault)
    → pattern_of text ≡ Err fault
looks-stop h a = left-stop h.left a

-- a fault of the end is what is read
end_is_fault : (o : Option PatternFault) (d : Drafted) (r : Result PatternText PatternFault) → r ≡ ended o d
    → IfSome o (λ fault. r ≡ Err fault)
end_is_fault None d r e = tt
end_is_fault (Some fault) d r e = e

-- a fault of the end is that of the text
pub looks-end : (text rest : List ℕ) (at : ℕ) (s : State) → Looks text rest at s → length rest ≡ 0
    → IfSome (end_fault s (length text)) (λ fault. pattern_of text ≡ Err fault)
looks-end text rest at s h e =
    end_is_fault (end_fault s (length text)) h.draft (pattern_of text) (left-end text rest at s h.draft h.left e)

-- where the end is no fault, a pattern is read
end_is_none : (o : Option PatternFault) (d : Drafted) (r : Result PatternText PatternFault) → r ≡ ended o d → IfNone o (IsOk r)
end_is_none None d r e = rw e refl
end_is_none (Some fault) d r e = tt

-- where the end is no fault, the text is a pattern
pub looks-whole : (text rest : List ℕ) (at : ℕ) (s : State) → Looks text rest at s → length rest ≡ 0
    → IfNone (end_fault s (length text)) (IsOk (pattern_of text))
looks-whole text rest at s h e =
    end_is_none (end_fault s (length text)) h.draft (pattern_of text) (left-end text rest at s h.draft h.left e)

-- ---- the reading of a pattern

-- a pattern is no fault
no_fault : (x : Result PatternText PatternFault) (fault : PatternFault) → x ≡ Err fault → IsOk x → ⊥
no_fault (Ok y) fault e ok = cc
no_fault (Err y) fault e ok = cc

-- a text that is a pattern has no fault
pub left-whole : {text rest after : List ℕ} {at p c next : ℕ} {s : State} {d : Drafted} {r : Result Step PatternFault}
    {fault : PatternFault} → Left text rest at s d → Answered rest after at p c next s r (Err fault)
    → IsOk (pattern_of text) → ⊥
left-whole {text} {fault = fault} h a ok = no_fault (pattern_of text) fault (left-stop h a) ok

-- and it is the pattern of the draft
whole_end : (o : Option PatternFault) (d : Drafted) (x : Result PatternText PatternFault) → x ≡ ended o d → IsOk x
    → x ≡ Ok (completed d)
whole_end None d x e ok = e
whole_end (Some fault) d x e ok = absurd (no_fault x fault e ok)

-- the pattern that is finished is that of the text
pub left-read : (text rest : List ℕ) (at : ℕ) (s : State) (d : Drafted) (p : PatternText) → Left text rest at s d
    → length rest ≡ 0 → IsOk (pattern_of text) → p ≡ completed d → pattern_of text ≡ Ok p
left-read text rest at s d p h e ok k =
    whole_end (end_fault s (length text)) d (pattern_of text) (left-end text rest at s d h e) ok
    ∙ ap (λ (x : PatternText). Ok x) (sym k)
