-- Laws of events, for the callers of this crate.
use Rattle.std.specs.Prelude.{◌≡◌, List, ℕ, ◌++◌, map, length}
use Rattle.std.specs.Str.{IsUtf8}
use Rattle.writeable.specs.Events.{Event, text_events, without_parts, text_of}
use Rattle.writeable.specs.Spans.{spans, moved, IsClosed}

-- the events of a text followed by a text are those of the joined text
abbrev pub JoinedTextsJoinTheirEvents : Type 0
JoinedTextsJoinTheirEvents = (first second : List ℕ) → IsUtf8 first → text_events (first ++ second) ≡ text_events first ++ text_events second

-- a text is the text of its events
abbrev pub EventsTellTheText : Type 0
EventsTellTheText = (text : List ℕ) → IsUtf8 text → text_of (text_events text) ≡ text

-- the text of two lists of events joined is the text of the first and then that of the second
abbrev pub JoinedEventsJoinTheirTexts : Type 0
JoinedEventsJoinTheirTexts = (first second : List Event) → text_of (first ++ second) ≡ text_of first ++ text_of second

-- the events without parts have the same text
abbrev pub PartsHaveNoText : Type 0
PartsHaveNoText = (events : List Event) → text_of (without_parts events) ≡ text_of events

-- where the first events close all their parts, the spans of both lists joined are those of the first, and then those of
-- the second, moved by the length of the first's text
abbrev pub ClosedEventsKeepTheirSpans : Type 0
ClosedEventsKeepTheirSpans = (first second : List Event) → IsClosed first →
    spans (first ++ second) ≡ spans first ++ map (moved (length (text_of first))) (spans second)
