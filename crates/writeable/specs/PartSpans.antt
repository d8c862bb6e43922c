-- The parts of a text as spans with the names that callers see.
use Rattle.std.specs.Prelude.{ℕ}
use Rattle.writeable.specs.declared.sink.Part.{Part}
use Rattle.writeable.specs.Spans.{Span}

-- a range with its part, as a span
abbrev pub span : ℕ × ℕ × Part → Span
span s = record { start = s.0; end = s.1; category = s.2.category.now; value = s.2.value.now }
