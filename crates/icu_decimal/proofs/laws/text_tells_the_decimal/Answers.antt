use Rattle.icu_decimal.proofs.TextsDistinct.{equal_texts_tell, text_tells}
use Rattle.icu_decimal.proofs.WorkedReadable.{english_readable}
use Rattle.icu_decimal.proofs.laws.text_tells_the_decimal.Goals as goal

-- beside it stands a formatter that is readable
pub returns : goal.returns
returns c = let readable = english_readable in record { characters = text_tells; texts = equal_texts_tell }
