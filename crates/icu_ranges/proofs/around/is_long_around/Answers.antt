use Rattle.std.proofs.Common.{[], ap, ◌∙◌}
use Rattle.std.specs.Str.{chars}
use Rattle.writeable.specs.Events.{characters, text_events}
use Rattle.icu_dimension_data.specs.Surrounding.{surrounded}
use Rattle.icu_ranges.specs.Edges.{is_long}
use Rattle.icu_ranges.proofs.around.is_long_around.Goals as goal

-- the pattern around no characters is what stands around a number
pub returns : goal.returns
unfolding chars
returns c =
    c.is_long.ensures ∙ ap (λ x. is_long (characters (surrounded x.pattern (text_events x.value.now)))) c.interpolate-around.ensures
    ∙ ap (λ p. is_long (characters (surrounded p []))) c.for_sign.ensures
