use Rattle.number_rounding.proofs.ShownSizes.{units_are_joined, one_size_is_shown, shown_is_divided}
use Rattle.number_rounding.proofs.ShownNumbers.{shown_number_is_one}
use Rattle.number_rounding.proofs.laws.one_size_is_shown.Goals as goal

pub returns : goal.returns
returns c = record { joined = units_are_joined; one = one_size_is_shown; divided = shown_is_divided; number = shown_number_is_one }
