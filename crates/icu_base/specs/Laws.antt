-- Laws of events and of operands.
pub use Rattle.writeable.specs.Laws.{JoinedTextsJoinTheirEvents, EventsTellTheText, JoinedEventsJoinTheirTexts, PartsHaveNoText, ClosedEventsKeepTheirSpans}
pub use Rattle.icu_plurals.specs.Laws.{MovingThePointMultiplies, ExactlyIsTheNumber}
