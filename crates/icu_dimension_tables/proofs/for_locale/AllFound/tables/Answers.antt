use Rattle.icu_dimension_tables.proofs.ForLocale.{all_for, dimension_for}
use Rattle.icu_dimension_tables.proofs.for_locale.AllFound.tables.Goals as goal

pub returns : goal.returns
returns c =
    λ locale text ds holds reads.
    let held = rw (← c.self.view_is) at holds in
    all_for locale text _ _ (c.in_ok-numbers.ensures locale text ds held.numbers reads)
    (dimension_for locale text ds _ _ c.in_ok-digits.ensures held reads)
