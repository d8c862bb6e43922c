use Rattle.icu_decimal_data.proofs.KeptMeaning.{kept_means_full}
use Rattle.icu_decimal_data.proofs.Worked.{met, met_with_skipped}
use Rattle.icu_decimal_data.proofs.laws.kept_means_full.Goals as goal

-- beside it stand two maps that meet the premises, one of them with a type that is skipped
pub returns : goal.returns
returns c =
    let instance = met in
    let other = met_with_skipped in
    kept_means_full c.exactly_is_the_number.ensures c.magnitude_is_the_greatest_power.ensures.unique
