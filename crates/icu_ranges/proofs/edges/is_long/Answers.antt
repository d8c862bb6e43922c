use Rattle.std.proofs.Common.{ap, ◌∙◌}
use Rattle.writeable.specs.Events.{characters}
use Rattle.icu_ranges.specs.Edges.{is_long_within}
use Rattle.icu_ranges.proofs.EdgeSteps.{long_by_edges}
use Rattle.icu_ranges.proofs.edges.is_long.Goals as goal

-- the edges of a value tell whether it has more than one character
pub returns : goal.returns
returns g c =
    c.is_long_within.ensures ∙ ap is_long_within c.edges_of.ensures ∙ long_by_edges (characters (g.T.Writeable.events c.args.value.now))
