-- Lemmas on a text that is written character by character, and on what is left of a limit.
use Rattle.std.specs.Prelude.{◌≡◌, ℕ, ◌+◌, ◌<◌, List, [], ◌∷◌, ◌++◌, map, length, take, drop, get_or, Result, Ok, Err, IsErr}
use Rattle.std.proofs.Common.{ap, ◌∙◌, sym, arith, refl, append-nil}
use Rattle.std.proofs.lemmas.List.{map_push, map-append, take-append-drop, drop_more, append_assoc}
use Rattle.writeable.specs.Annotated.{Annotated}
use Rattle.writeable.specs.Events.{Event, text_events}
use Rattle.writeable.specs.Events.Event.{Char}
use Rattle.writeable.specs.Sink.{Writes, WritesAll, KeepsLimit}
use Rattle.writeable.specs.Writes.{Writes-then, Writes-stop, KeepsLimit-then, KeepsLimit-stop}
use Rattle.writeable.proofs.EventLemmas.{text_events-nil}
use Rattle.writeable.specs.declared.sink.WriteFault.{WriteFault}

-- a list of which ys was read, and c is the next item, is ys, c and the rest
pub split_at_read : (all ys : List ℕ) (c : ℕ) → ys ≡ take (length ys) all → length ys < length all → c ≡ get_or all (length ys) c →
    all ≡ (ys ++ c ∷ []) ++ drop (length ys + 1) all
split_at_read all ys c front h at =
    sym (take-append-drop (length ys) all) ∙ ap (λ l. l ++ drop (length ys) all) (sym front)
    ∙ ap (λ l. ys ++ l) (drop_more all (length ys) c h ∙ ap (λ x. x ∷ drop (length ys + 1) all) (sym at))
    ∙ sym (append_assoc ys (c ∷ []) (drop (length ys + 1) all))

-- `KeepsLimit` of what a `PartsText` holds
abbrev pub KeepsText : Annotated → Result (Unit {0}) WriteFault → List Event → Annotated → Type 0
KeepsText s r es t = KeepsLimit (λ (s : Annotated). s.events) (λ s. s.limit) (λ s. s.refusals) s r es t

-- where a character of a text fails, a beginning of the text is written
pub Writes-stop_in_text : {S : Type 0} (events : S → List Event) (failures : S → ℕ) (s t u : S) (e : WriteFault) (r : Result (Unit {0}) WriteFault)
    (ys : List ℕ) (c : ℕ) (all rest : List ℕ) → all ≡ (ys ++ c ∷ []) ++ rest → IsErr r → Writes events failures s (Ok tt) (map Char ys) t →
    Writes events failures t (Err e) (Char c ∷ []) u → Writes events failures s r (map Char all) u
Writes-stop_in_text events failures s t u e r ys c all rest split err before fault =
    let whole : map Char all ≡ (map Char ys ++ Char c ∷ []) ++ map Char rest =
    ap (map Char) split ∙ map-append Char (ys ++ c ∷ []) rest ∙ ap (λ l. l ++ map Char rest) (map_push Char ys c) in
    rw whole (Writes-stop events failures s u e r (map Char ys ++ Char c ∷ []) (map Char rest) err
    (Writes-then events failures s t u (Err e) (map Char ys) (Char c ∷ []) before fault))

-- where a character of a text fails, the limit is kept as by a call that was to write the whole text
pub KeepsLimit-stop_in_text : (s t u : Annotated) (e : WriteFault) (r : Result (Unit {0}) WriteFault) (ys : List ℕ) (c : ℕ) (all rest : List ℕ) →
    all ≡ (ys ++ c ∷ []) ++ rest → IsErr r → t.events ≡ s.events ++ map Char ys → KeepsText s (Ok tt) (map Char ys) t →
    KeepsText t (Err e) (Char c ∷ []) u → KeepsText s r (map Char all) u
KeepsLimit-stop_in_text s t u e r ys c all rest split err held before fault =
    let whole : map Char all ≡ (map Char ys ++ Char c ∷ []) ++ map Char rest =
    ap (map Char) split ∙ map-append Char (ys ++ c ∷ []) rest ∙ ap (λ l. l ++ map Char rest) (map_push Char ys c) in
    rw whole (KeepsLimit-stop (λ (s : Annotated). s.events) (λ s. s.limit) (λ s. s.refusals) s u e r (map Char ys ++ Char c ∷ []) (map Char rest) err
    (KeepsLimit-then (λ (s : Annotated). s.events) (λ s. s.limit) (λ s. s.refusals) s t u (Err e) (map Char ys) (Char c ∷ []) held before fault))

-- an empty text keeps the limit
pub KeepsLimit-empty : (s : Annotated) (es : List Event) → KeepsText s (Ok tt) es s
KeepsLimit-empty s es = record { same_limit = refl; same_refusals = refl; fault = tt }

-- an empty text writes nothing
pub WritesAll-empty : {S : Type 0} (events : S → List Event) (failures : S → ℕ) (s : S) (bs : List ℕ) → length bs ≡ 0 →
    WritesAll events failures s (text_events bs) s
WritesAll-empty events failures s [] h = record { held = sym (append-nil (events s)) ∙ ap (λ l. events s ++ l) (sym text_events-nil); same_failures = refl }
WritesAll-empty events failures s (b ∷ bs) h = absurd (omega (arith, h))
