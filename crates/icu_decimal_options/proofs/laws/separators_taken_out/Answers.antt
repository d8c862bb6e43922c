use Rattle.icu_decimal_options.proofs.GroupingLaws.{concatenated-digit_groups}
use Rattle.icu_decimal_options.proofs.laws.separators_taken_out.Goals as goal

pub returns : goal.returns
returns c = concatenated-digit_groups
