use Rattle.icu_dimension.proofs.ApartTold.{share_no_characters, share_no_text}
use Rattle.icu_dimension.proofs.laws.told_apart_share_no_text.Goals as goal

pub returns : goal.returns
returns c = record { characters = share_no_characters; texts = share_no_text }
