use Rattle.icu_dimension.proofs.AroundFree.{no_digit_stands_around}
use Rattle.icu_dimension.proofs.WorkedMoney.{dollar_pattern_read, english_money_readable}
use Rattle.icu_dimension.proofs.MoneyDistinct.{around_tells, equal_texts_tell, equal_texts_tell_around, money_tells}
use Rattle.icu_dimension.proofs.laws.money_text_tells.Goals as goal

-- beside it stand a formatter that is readable, and the pattern of its money as it is read
pub returns : goal.returns
returns c =
    let readable = english_money_readable in
    let read = dollar_pattern_read in
    record {
      characters = money_tells;
      texts = equal_texts_tell;
      characters_around = around_tells;
      texts_around = equal_texts_tell_around;
      free = no_digit_stands_around;
    }
