-- The parts of an annotated text, as ranges of its bytes (as ICU4X lists the parts of a text).
use Rattle.std.specs.Prelude.{◌≡◌, ℕ, zero, suc, ◌+◌, List, [], ◌∷◌, ◌++◌, Option, Some, None, length, if◌then◌else◌, ◌==◌}
use Rattle.std.specs.Char.{encode_utf8}
use Rattle.writeable.specs.Events.{Event}
use Rattle.writeable.specs.Events.Event.{Char, Open, Close}

-- a range of bytes, and the category and value of its part
pub record Span : Type 0 where
  pub start : ℕ
  pub end : ℕ
  pub category : List ℕ
  pub value : List ℕ

-- the byte at which a part ends, if it is ever closed; the events begin at byte `at`, inside of the part and of `inner`
-- parts that were opened in it
abbrev pub end_of_part : ℕ → ℕ → List Event → Option ℕ
end_of_part inner at [] = None
end_of_part inner at (Char c ∷ es) = end_of_part inner (at + length (encode_utf8 c)) es
end_of_part inner at (Open category value ∷ es) = end_of_part (suc inner) at es
end_of_part zero at (Close ∷ es) = Some at
end_of_part (suc inner) at (Close ∷ es) = end_of_part inner at es

-- the span of a part; none where the part is empty or never closed
abbrev pub span_of : ℕ → Option ℕ → List ℕ → List ℕ → List Span
span_of start None category value = []
span_of start (Some end) category value = if start == end then [] else record { start = start; end = end; category = category; value = value } ∷ []

-- the spans of the events that begin at byte at, in the order of opening
abbrev pub spans_from : ℕ → List Event → List Span
spans_from at [] = []
spans_from at (Char c ∷ es) = spans_from (at + length (encode_utf8 c)) es
spans_from at (Open category value ∷ es) = span_of at (end_of_part 0 at es) category value ++ spans_from at es
spans_from at (Close ∷ es) = spans_from at es

-- the spans of events, from the first byte on
abbrev pub spans : List Event → List Span
spans es = spans_from 0 es

-- the span n bytes further on
abbrev pub moved : ℕ → Span → Span
moved n s = record { start = n + s.start; end = n + s.end; category = s.category; value = s.value }

-- the events close the `before` parts that are open when they begin, each part that they open, and no others
abbrev pub ClosesParts : ℕ → List Event → Type 0
ClosesParts before [] = before ≡ 0
ClosesParts before (Char c ∷ es) = ClosesParts before es
ClosesParts before (Open category value ∷ es) = ClosesParts (suc before) es
ClosesParts zero (Close ∷ es) = ⊥
ClosesParts (suc before) (Close ∷ es) = ClosesParts before es

-- the events close each part that they open, and no others
abbrev pub IsClosed : List Event → Type 0
IsClosed es = ClosesParts 0 es
