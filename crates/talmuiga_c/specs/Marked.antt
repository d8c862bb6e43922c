-- What a call for one number's text and its parts leaves, by its status.
use Rattle.std.specs.Prelude.{◌≡◌, ℕ, ◌<◌, ◌≤◌, ◌⊎◌, nat_eq, if◌then◌else◌, Result, Ok, Err}
use Rattle.std.specs.Prelude.{List, ◌++◌, length, drop, map, codes}
use Rattle.std.specs.Cmp.Lexicographic.{pointwise}
use Rattle.writeable.specs.Events.{Event}
use Rattle.writeable.specs.Spans as writeable
use Rattle.decimal_lines.specs.SingleText.{HoldsEvents}
use Rattle.decimal_lines.specs.declared.single_text.TextError.{TextError}
use Rattle.talmuiga_c.specs.Answers.{kept_events}
use Rattle.talmuiga_c.specs.Endings.{done, output_too_small}
use Rattle.talmuiga_c.specs.Kept.{IsRefused}
use Rattle.talmuiga_c.specs.declared.kept.Kept.{Kept}
use Rattle.talmuiga_c.specs.declared.marked.Span.{Span}

-- the number of a part, by its name
unfoldable pub part_number : List ℕ → ℕ
part_number name =
    if pointwise nat_eq name (codes "minusSign") then 1
    else if pointwise nat_eq name (codes "plusSign") then 2
    else if pointwise nat_eq name (codes "integer") then 3
    else if pointwise nat_eq name (codes "fraction") then 4
    else if pointwise nat_eq name (codes "group") then 5
    else if pointwise nat_eq name (codes "decimal") then 6
    else if pointwise nat_eq name (codes "currency") then 7
    else if pointwise nat_eq name (codes "percentSign") then 8
    else if pointwise nat_eq name (codes "perMilleSign") then 9
    else if pointwise nat_eq name (codes "unit") then 10
    else if pointwise nat_eq name (codes "compact") then 11
    else 0

-- a span as C sees it
abbrev pub numbered : writeable.Span → Span
numbered s = record { start = s.start; end = s.end; part = part_number s.value }

-- an array holds n spans at its front if they fit, and else what it held before
pub record HoldsSpans (old new wanted : List Span) (n : ℕ) : Type 0 where
  pub count : n ≡ length wanted
  pub fits : n ≤ length old → new ≡ wanted ++ drop n old
  pub too_many : length old < n → new ≡ old

-- the spans are those of what is shown
abbrev pub HoldsParts : Result (List Event) TextError → List Span → List Span → ℕ → Type 0
HoldsParts (Ok events) old new n = HoldsSpans old new (map numbered (writeable.spans events)) n
HoldsParts (Err error) old new n = ⊥

-- a text is shown with its parts: how long it is and how many these are is returned, and each is written where it has room
pub record IsWrittenInParts (kept : Kept) (text old new : List ℕ) (n : ℕ) (old_spans new_spans : List Span) (m status : ℕ) : Type 0 where
  pub holds : HoldsEvents (kept_events kept text) old new n
  pub parts : HoldsParts (kept_events kept text) old_spans new_spans m
  pub fits : n ≤ length old → m ≤ length old_spans → status ≡ done
  pub too_long : length old < n → status ≡ output_too_small
  pub too_many : length old_spans < m → status ≡ output_too_small

-- a text isn't shown
pub record IsRefusedInParts (kept : Kept) (text old new : List ℕ) (n : ℕ) (old_spans new_spans : List Span) (m status : ℕ) : Type 0 where
  pub refused : IsRefused kept text old new n status
  pub same : new_spans ≡ old_spans
  pub none : m ≡ 0

-- one text with its parts, shown or not
abbrev pub IsShownInParts : Kept → List ℕ → List ℕ → List ℕ → ℕ → List Span → List Span → ℕ → ℕ → Type 0
IsShownInParts kept text old new n old_spans new_spans m status =
    IsWrittenInParts kept text old new n old_spans new_spans m status ⊎ IsRefusedInParts kept text old new n old_spans new_spans m status
