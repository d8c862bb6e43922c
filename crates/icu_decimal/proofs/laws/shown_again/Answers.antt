use Rattle.icu_decimal.proofs.ShownAgain.{shown_again, shown_is_accepted}
use Rattle.icu_decimal.proofs.ShownDistinct.{equal_shown_texts_tell, shown_tells}
use Rattle.icu_decimal.proofs.WorkedAgain.{million_written, ten_given}
use Rattle.icu_decimal.proofs.WorkedCarry.{carry_distinct}
use Rattle.icu_decimal.proofs.WorkedPadding.{padding_is_needed}
use Rattle.icu_decimal.proofs.laws.shown_again.Goals as goal

-- beside it stand a decimal that is carried into an entry whose exponent is below its type, shown again and given, two that
-- English short patterns show alike after a carry, and one whose padding breaks the law
pub returns : goal.returns
returns c =
    let written = million_written in
    let given = ten_given in
    let carry = carry_distinct in
    let needed = padding_is_needed in
    record { again = shown_again; given = shown_is_accepted; readable = shown_tells; texts = equal_shown_texts_tell }
