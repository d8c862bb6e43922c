-- How a `PartsText` keeps its events: the text, and marks at its bytes where parts open and close.
use Rattle.std.specs.Prelude.{◌≤◌, ◌+◌, ◌-◌, ℕ, List, [], ◌∷◌, ◌++◌, length, take, drop, Option, Some, None}
use Rattle.std.specs.Option.{option_map}
use Rattle.std.specs.String.{string_bytes}
use Rattle.std.specs.Str.{IsUtf8}
use Rattle.writeable.specs.declared.sink.Part.{Part}
use Rattle.writeable.specs.declared.parts_text.Mark.{Mark}
use Rattle.writeable.specs.declared.parts_text.Mark.TheVariants.{Open, Close}
use Rattle.writeable.specs.declared.parts_text.PartsText.TheInside.{Inside}
use Rattle.writeable.specs.Events.{Event, text_events}
use Rattle.writeable.specs.Events.Event.{Open as OpenPart, Close as ClosePart}
use Rattle.writeable.specs.Annotated.{Annotated}

-- the byte at which the mark stands
abbrev pub mark_at : Mark → ℕ
mark_at (Open at part) = at
mark_at (Close at) = at

-- the event that the mark stands for
abbrev pub mark_event : Mark → Event
mark_event (Open at part) = OpenPart part.category.now part.value.now
mark_event (Close at) = ClosePart

-- the opening of the part; without a part a close
abbrev pub mark_event_of : Option Part → Event
mark_event_of (Some part) = OpenPart part.category.now part.value.now
mark_event_of None = ClosePart

-- the events of a text that begins at byte from, with its marks
abbrev pub marked_events : ℕ → List ℕ → List Mark → List Event
marked_events from text [] = text_events text
marked_events from text (m ∷ ms) = text_events (take (mark_at m - from) text) ++ mark_event m ∷ marked_events (mark_at m) (drop (mark_at m - from) text) ms

-- the marks stand in order in a text that begins at byte from, and none inside a character
abbrev pub AreMarks : ℕ → List ℕ → List Mark → Type 0
AreMarks from text [] = IsUtf8 text
AreMarks from text (m ∷ ms) = (from ≤ mark_at m) × (mark_at m - from ≤ length text) × IsUtf8 (take (mark_at m - from) text)
    × AreMarks (mark_at m) (drop (mark_at m - from) text) ms

-- the events that the sink holds, by its fields
abbrev pub kept_events : Inside → List Event
kept_events a = marked_events 0 (string_bytes a.text) a.marks.items

-- the sink as its callers see it; its limit is the number of events that it holds and its room
abbrev pub annotated : Inside → Annotated
annotated a = record {
  events = kept_events a;
  failures = a.failures;
  limit = option_map (λ left. length (kept_events a) + left) a.room;
  refusals =
      a.refusals;
}

-- the marks stand in the text, in order
abbrev pub IsMarked : Inside → Type 0
IsMarked a = AreMarks 0 (string_bytes a.text) a.marks.items
