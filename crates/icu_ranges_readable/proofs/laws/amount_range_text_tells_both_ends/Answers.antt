use Rattle.icu_ranges_readable.proofs.AmountTexts.{amounts_tell, equal_amounts_tell}
use Rattle.icu_ranges_readable.proofs.laws.amount_range_text_tells_both_ends.Goals as goal

pub returns : goal.returns
returns c = record { characters = amounts_tell; texts = equal_amounts_tell }
