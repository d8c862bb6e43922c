use Rattle.std.proofs.Common.{◌≡◌}
use Rattle.icu_ranges.specs.Edges.{edges_after}
use Rattle.icu_ranges.proofs.edges.EdgeWriterEventWriter.text.Given as goal

abbrev pub invariant-loop-character : goal.invariant-loop-character
invariant-loop-character l = l.self.edges ≡ edges_after l.initial.self.edges l.yielded
