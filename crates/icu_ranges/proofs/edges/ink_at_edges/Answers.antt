use Rattle.std.proofs.Common.{ap, ◌∙◌}
use Rattle.std.specs.Prelude.{None}
use Rattle.std.specs.Str.{chars}
use Rattle.writeable.proofs.EventLemmas.{characters-map_Char}
use Rattle.icu_ranges.specs.Edges.{edges_after}
use Rattle.icu_ranges.specs.Separator.{has_ink_first, has_ink_last}
use Rattle.icu_ranges.proofs.EdgeSteps.{begins_by_edges, ends_by_edges}
use Rattle.icu_ranges.proofs.edges.ink_at_edges.Goals as goal

-- the edges of what a text writes are those of its characters
pub returns : goal.returns
returns c =
    let edges = c.edges_of-edges.ensures ∙ ap (edges_after None) (characters-map_Char (chars c.args.text.now)) in
    record {
      before = c.has_ink_first.ensures ∙ ap has_ink_first edges ∙ begins_by_edges (chars c.args.text.now);
      after = c.has_ink_last.ensures ∙ ap has_ink_last edges ∙ ends_by_edges (chars c.args.text.now);
    }
