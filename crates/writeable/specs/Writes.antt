-- Lemmas on what calls write, one after another. They stand here and not in proofs/ because the impls of `EventWriter`
-- cite them: what a ghost member imports of its own crate has to stand in specs/.
-- For each relation between a writer before and after there are three lemmas, which are the laws of `EventWriter`: nothing
-- is written, one list of events and then another, and a failure in the first. `then` goes by cases on the later answer: on
-- success lists are joined by associativity, on a failure the written events are all of the first and a beginning of the
-- second. `stop` has nothing to show where the answer is Ok. `LentWrites` takes `Writes` and `KeepsLimit` together, since
-- `KeepsLimit-then` needs how many events the first call left, which `Writes` says; a text and a formatter only promise
-- something on success, so their `stop` is trivial.
use Rattle.std.specs.Prelude.{◌≡◌, ℕ, List, [], ◌∷◌, ◌++◌, length, Option, Result, Ok, Err, OnOk, IsErr}
use Rattle.std.specs.Borrow.{MutBor}
use Rattle.std.specs.Fmt.{HasWrittenStyled, WritesInCalls}
use Rattle.std.specs.List.{FoldsTo, concat}
use Rattle.std.specs.declared.fmt.Formatter.{Formatter}
use Rattle.std.specs.Str.{encode_utf8_all}
use Rattle.std.proofs.lemmas.Str.{encodes-append}
use Rattle.std.proofs.Common.{sym, ap, ◌∙◌, refl, append_assoc, append-nil, subst, arith, inl, inr}
use Rattle.std.proofs.lemmas.List.{length-append}
use Rattle.writeable.specs.declared.sink.WriteFault.{WriteFault}
use Rattle.writeable.specs.Events.{Event, without_parts, characters, text_of}
use Rattle.writeable.specs.Sink.{Writes, AddsBeginning, one_more_failure, EndsFull, KeepsLimit, LentWrites, Displays}
use Rattle.writeable.specs.Events.Event.{Char, Open, Close}

-- a beginning of some events is one of these and more
pub AddsBeginning-more : (old new es fs : List Event) → AddsBeginning old new es → AddsBeginning old new (es ++ fs)
AddsBeginning-more old new es fs b =
    record {
      written = b.written;
      unwritten = b.unwritten ++ fs;
      added = b.added;
      rest =
          sym (append_assoc b.written b.unwritten fs) ∙ ap (λ l. l ++ fs) b.rest;
    }

-- all of some events and a beginning of the next ones are a beginning of both
pub AddsBeginning-after : (old mid new es fs : List Event) → mid ≡ old ++ es → AddsBeginning mid new fs → AddsBeginning old new (es ++ fs)
AddsBeginning-after old mid new es fs e b =
    record {
      written = es ++ b.written;
      unwritten = b.unwritten;
      added = b.added ∙ ap (λ l. l ++ b.written) e ∙ append_assoc old es b.written;
      rest =
          append_assoc es b.written b.unwritten ∙ ap (λ l. es ++ l) b.rest;
    }

-- writing nothing changes nothing
pub Writes-nothing : {S : Type 0} (events : S → List Event) (failures : S → ℕ) (s : S) → Writes events failures s (Ok tt) [] s
Writes-nothing events failures s = record { held = sym (append-nil (events s)); same_failures = refl }

-- writing some events and then others writes both
pub Writes-then : {S : Type 0} (events : S → List Event) (failures : S → ℕ) (s t u : S) (r : Result (Unit {0}) WriteFault) (es fs : List Event) →
    Writes events failures s (Ok tt) es t → Writes events failures t r fs u → Writes events failures s r (es ++ fs) u
Writes-then events failures s t u (Ok x) es fs h k = record {
  held = k.held ∙ ap (λ l. l ++ fs) h.held ∙ append_assoc (events s) es fs;
  same_failures =
      k.same_failures ∙ h.same_failures;
}
Writes-then events failures s t u (Err e) es fs h k = record
    { held = AddsBeginning-after (events s) (events t) (events u) es fs h.held k.held; one_more = k.one_more ∙ ap one_more_failure h.same_failures }

-- a failure in the first events ends the writing of both
pub Writes-stop : {S : Type 0} (events : S → List Event) (failures : S → ℕ) (s t : S) (e : WriteFault) (r : Result (Unit {0}) WriteFault)
    (es fs : List Event) → IsErr r → Writes events failures s (Err e) es t → Writes events failures s r (es ++ fs) t
Writes-stop events failures s t e (Ok x) es fs err h = cc
Writes-stop events failures s t e (Err d) es fs err h = record { held = AddsBeginning-more (events s) (events t) es fs h.held; one_more = h.one_more }

-- of two lists of events, each without its parts
pub without_parts-append : (es fs : List Event) → without_parts (es ++ fs) ≡ without_parts es ++ without_parts fs
without_parts-append [] fs = refl
without_parts-append (Char c ∷ es) fs = ap (λ l. Char c ∷ l) (without_parts-append es fs)
without_parts-append (Open category value ∷ es) fs = without_parts-append es fs
without_parts-append (Close ∷ es) fs = without_parts-append es fs

-- writing nothing keeps the limit
pub KeepsLimit-nothing : {S : Type 0} (events : S → List Event) (limit : S → Option ℕ) (refusals : S → ℕ) (s : S) →
    KeepsLimit events limit refusals s (Ok tt) [] s
KeepsLimit-nothing events limit refusals s = record { same_limit = refl; same_refusals = refl; fault = tt }

-- what is left of later events is left of all
EndsFull-after : {S : Type 0} (events : S → List Event) (limit : S → Option ℕ) (s t u : S) (es fs : List Event) → events t ≡ events s ++ es →
    EndsFull events limit t fs u → EndsFull events limit s (es ++ fs) u
EndsFull-after events limit s t u es fs held h = record {
  full = h.full;
  unwritten = omega (arith, h.unwritten, ap length held, length-append (events s) es, length-append es fs);
}

-- what is left of the first events is left of all
EndsFull-more : {S : Type 0} (events : S → List Event) (limit : S → Option ℕ) (s t : S) (es fs : List Event) → EndsFull events limit s es t →
    EndsFull events limit s (es ++ fs) t
EndsFull-more events limit s t es fs h = record { full = h.full; unwritten = omega (arith, h.unwritten, length-append es fs) }

-- the limit holds through two writings
pub KeepsLimit-then : {S : Type 0} (events : S → List Event) (limit : S → Option ℕ) (refusals : S → ℕ) (s t u : S) (r : Result (Unit {0}) WriteFault)
    (es fs : List Event) → events t ≡ events s ++ es → KeepsLimit events limit refusals s (Ok tt) es t → KeepsLimit events limit refusals t r fs u →
    KeepsLimit events limit refusals s r (es ++ fs) u
KeepsLimit-then events limit refusals s t u (Ok x) es fs held h k =
    record { same_limit = k.same_limit ∙ h.same_limit; same_refusals = k.same_refusals ∙ h.same_refusals; fault = tt }
KeepsLimit-then events limit refusals s t u (Err e) es fs held h k = record {
  same_limit = k.same_limit ∙ h.same_limit;
  same_refusals = tt;
  fault = elim k.fault [
    | inl refused ↦ inl (refused ∙ ap one_more_failure h.same_refusals)
    | inr limited ↦ inr (limited.0 ∙ h.same_refusals, EndsFull-after events limit s t u es fs held limited.1)
  ];
}

-- a failure in the first events is one in both, for the same reason
pub KeepsLimit-stop : {S : Type 0} (events : S → List Event) (limit : S → Option ℕ) (refusals : S → ℕ) (s t : S) (e : WriteFault)
    (r : Result (Unit {0}) WriteFault) (es fs : List Event) → IsErr r → KeepsLimit events limit refusals s (Err e) es t →
    KeepsLimit events limit refusals s r (es ++ fs) t
KeepsLimit-stop events limit refusals s t e (Ok x) es fs err h = cc
KeepsLimit-stop events limit refusals s t e (Err d) es fs err h = record {
  same_limit = h.same_limit;
  same_refusals = tt;
  fault = elim h.fault [ inl refused ↦ inl refused | inr limited ↦ inr (limited.0, EndsFull-more events limit s t es fs limited.1) ];
}

-- the same three of a sink that is lent: writing nothing
pub LentWrites-nothing : {S : Type 0} (events : S → List Event) (failures : S → ℕ) (limit : S → Option ℕ) (refusals : S → ℕ) (s : MutBor S) →
    LentWrites events failures limit refusals s (Ok tt) [] s
LentWrites-nothing events failures limit refusals s = record
    { same_borrow = refl; writes = Writes-nothing events failures s.now; limited = KeepsLimit-nothing events limit refusals s.now }

-- one writing after another
pub LentWrites-then : {S : Type 0} (events : S → List Event) (failures : S → ℕ) (limit : S → Option ℕ) (refusals : S → ℕ) (s t u : MutBor S)
    (r : Result (Unit {0}) WriteFault) (es fs : List Event) → LentWrites events failures limit refusals s (Ok tt) es t →
    LentWrites events failures limit refusals t r fs u → LentWrites events failures limit refusals s r (es ++ fs) u
LentWrites-then events failures limit refusals s t u r es fs h k = record {
  same_borrow = k.same_borrow ∙ h.same_borrow;
  writes = Writes-then events failures s.now t.now u.now r es fs h.writes k.writes;
  limited = KeepsLimit-then events limit refusals s.now t.now u.now r es fs h.writes.held h.limited k.limited;
}

-- a writing that fails
pub LentWrites-stop : {S : Type 0} (events : S → List Event) (failures : S → ℕ) (limit : S → Option ℕ) (refusals : S → ℕ) (s t : MutBor S)
    (e : WriteFault) (r : Result (Unit {0}) WriteFault) (es fs : List Event) → IsErr r → LentWrites events failures limit refusals s (Err e) es t →
    LentWrites events failures limit refusals s r (es ++ fs) t
LentWrites-stop events failures limit refusals s t e r es fs err h = record {
  same_borrow = h.same_borrow;
  writes = Writes-stop events failures s.now t.now e r es fs err h.writes;
  limited = KeepsLimit-stop events limit refusals s.now t.now e r es fs err h.limited;
}

-- the characters of two lists of events
pub characters-append : (es fs : List Event) → characters (es ++ fs) ≡ characters es ++ characters fs
characters-append [] fs = refl
characters-append (Char c ∷ es) fs = ap (λ l. c ∷ l) (characters-append es fs)
characters-append (Open category value ∷ es) fs = characters-append es fs
characters-append (Close ∷ es) fs = characters-append es fs

-- the text of two lists of events
pub text_of-append : (es fs : List Event) → text_of (es ++ fs) ≡ text_of es ++ text_of fs
text_of-append es fs = ap encode_utf8_all (characters-append es fs) ∙ encodes-append (characters es) (characters fs)

-- the text of no events is empty
pub AppendsText-nothing : (bs : List ℕ) → bs ≡ bs ++ text_of []
AppendsText-nothing bs = sym (append-nil bs)

-- a text that is appended after another
pub AppendsText-then : (a b c : List ℕ) (r : Result (Unit {0}) WriteFault) (es fs : List Event) → b ≡ a ++ text_of es →
    OnOk r (c ≡ b ++ text_of fs) → OnOk r (c ≡ a ++ text_of (es ++ fs))
AppendsText-then a b c (Ok x) es fs h k = k ∙ ap (λ l. l ++ text_of fs) h ∙ append_assoc a (text_of es) (text_of fs)
    ∙ ap (λ l. a ++ l) (sym (text_of-append es fs))
AppendsText-then a b c (Err e) es fs h k = tt

concat-append : (xs ys : List (List ℕ)) → concat (xs ++ ys) ≡ concat xs ++ concat ys
concat-append [] ys = refl
concat-append (x ∷ xs) ys = ap (λ (l : List ℕ). x ++ l) (concat-append xs ys) ∙ sym (append_assoc x (concat xs) (concat ys))

FoldsTo-append : {W : Type 0} (took : W → List ℕ → W → Type 0) (w : W) (xs : List (List ℕ)) (v : W) (ys : List (List ℕ)) (u : W) →
    FoldsTo took w xs v → FoldsTo took v ys u → FoldsTo took w (xs ++ ys) u
FoldsTo-append took w [] v ys u p q = subst (λ x. FoldsTo took x ys u) (sym p) q
FoldsTo-append took w (x ∷ xs) v ys u p q = (p.0, p.1, FoldsTo-append took p.0 xs v ys u p.2 q)

WritesInCalls-append : {W : Type 0} (took : W → List ℕ → W → Type 0) (w : W) (a : List ℕ) (v : W) (b : List ℕ) (u : W) →
    WritesInCalls took w a v → WritesInCalls took v b u → WritesInCalls took w (a ++ b) u
WritesInCalls-append took w a v b u p q = record {
  parts = p.parts ++ q.parts;
  calls = FoldsTo-append took w p.parts v q.parts u p.calls q.calls;
  whole = concat-append p.parts q.parts ∙ (λ i. p.whole i ++ q.whole i);
}

-- a failure promises nothing
pub OnOk-stop : (P : Type 0) (r : Result (Unit {0}) WriteFault) → IsErr r → OnOk r P
OnOk-stop P (Ok x) err = cc
OnOk-stop P (Err e) err = tt

-- the same three of what is displayed: nothing
pub Displays-nothing : {W : Type 0} (took : W → List ℕ → W → Type 0) (f : Formatter W) → Displays took f (Ok tt) [] f
Displays-nothing took f flush ok = record { wrote = record { parts = []; calls = refl; whole = refl }; spec = refl; flush = flush }

-- one display after another
pub Displays-then : {W : Type 0} (took : W → List ℕ → W → Type 0) (f g h : Formatter W) (r : Result (Unit {0}) WriteFault) (es fs : List Event) →
    Displays took f (Ok tt) es g → Displays took g r fs h → Displays took f r (es ++ fs) h
Displays-then took f g h r es fs p q flush ok =
    let x = p flush refl in
    let y = q x.flush ok in
    subst (λ (l : List ℕ). HasWrittenStyled took f l h) (sym (text_of-append es fs))
    (record { wrote = WritesInCalls-append took _ (text_of es) _ (text_of fs) _ x.wrote y.wrote; spec = y.spec ∙ x.spec; flush = y.flush })

-- a display that fails
pub Displays-stop : {W : Type 0} (took : W → List ℕ → W → Type 0) (f g : Formatter W) (e : WriteFault) (r : Result (Unit {0}) WriteFault)
    (es fs : List Event) → IsErr r → Displays took f (Err e) es g → Displays took f r (es ++ fs) g
Displays-stop took f g e (Ok x) es fs err p flush ok = cc
Displays-stop took f g e (Err d) es fs err p flush ok = cc
