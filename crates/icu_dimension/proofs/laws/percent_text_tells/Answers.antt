use Rattle.icu_dimension.proofs.PercentsDistinct.{equal_percent_texts_tell, percent_tells}
use Rattle.icu_dimension.proofs.laws.percent_text_tells.Goals as goal

pub returns : goal.returns
returns c = record { characters = percent_tells; texts = equal_percent_texts_tell }
