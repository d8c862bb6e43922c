use Rattle.icu_decimal.proofs.CompactDistinct.{compact_tells}
use Rattle.icu_decimal.proofs.ShownDistinct.{equal_compact_texts_tell}
use Rattle.icu_decimal.proofs.WorkedEnglish.{english_long_readable, english_short_readable}
use Rattle.icu_decimal.proofs.laws.compact_text_tells.Goals as goal

-- beside it stand two compact formatters that are readable
pub returns : goal.returns
returns c = let short = english_short_readable in let long = english_long_readable in record { characters = compact_tells; texts = equal_compact_texts_tell }
