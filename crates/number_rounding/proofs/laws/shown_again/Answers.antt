use Rattle.number_rounding.proofs.ShownSizes.{shown_is_showable, showable_is_itself}
use Rattle.number_rounding.proofs.ShownNumbers.{shown_number_is_shown_again}
use Rattle.number_rounding.proofs.laws.shown_again.Goals as goal

pub returns : goal.returns
returns c = record { showable = shown_is_showable; itself = showable_is_itself; again = shown_number_is_shown_again }
