use Rattle.std.proofs.Common.{ap, ◌∙◌}
use Rattle.writeable.specs.Events.{characters}
use Rattle.icu_ranges.specs.Joined.{has_digits}
use Rattle.icu_ranges.proofs.EdgeSteps.{bare_by_edges}
use Rattle.icu_ranges.proofs.edges.is_bare.Goals as goal

-- the edges of a value tell whether it is bare
pub returns : goal.returns
returns g c =
    c.has_digits.ensures ∙ ap has_digits c.edges_of.ensures ∙ bare_by_edges (characters (g.T.Writeable.events c.args.value.now))
