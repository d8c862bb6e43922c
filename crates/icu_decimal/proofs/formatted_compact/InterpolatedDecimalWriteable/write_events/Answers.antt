use Rattle.std.proofs.Common.{◌≡◌, sym, ap, ◌∙◌}
use Rattle.icu_pattern.specs.Patterns.{interpolated}
use Rattle.icu_pattern.proofs.Boundaries.{interpolated_alone}
use Rattle.icu_decimal.specs.CompactFormat.{filled_number_events}
use Rattle.icu_decimal.specs.Formatted.{number_events}
use Rattle.icu_decimal.specs.PatternOrAlone.{pattern_or_alone}
use Rattle.icu_decimal.proofs.formatted_compact.InterpolatedDecimalWriteable.write_events.Goals as goal

pub returns-in-None : goal.returns-in-None
returns-in-None g c =
    let none = ap pattern_or_alone c.in-None.is in
    let alone : number_events c.self.inside.number ≡ interpolated (pattern_or_alone c.self.inside.pattern) (number_events c.self.inside.number) =
    sym (ap (λ p. interpolated p (number_events c.self.inside.number)) none ∙ interpolated_alone (number_events c.self.inside.number)) in
    let whole = alone ∙ ap filled_number_events c.self.view_is in
    rw whole at c.write_events-in-None.ensures
