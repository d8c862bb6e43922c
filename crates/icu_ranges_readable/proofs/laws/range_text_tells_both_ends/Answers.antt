use Rattle.icu_ranges_readable.proofs.RangeTexts.{equal_ranges_tell, range_tells}
use Rattle.icu_ranges_readable.proofs.laws.range_text_tells_both_ends.Goals as goal

pub returns : goal.returns
returns c = record { characters = range_tells; texts = equal_ranges_tell }
