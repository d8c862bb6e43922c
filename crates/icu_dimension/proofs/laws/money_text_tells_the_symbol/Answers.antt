use Rattle.icu_dimension.proofs.MoneySymbolDistinct.{equal_one_sign_texts_tell_symbol, equal_texts_tell_symbol, money_tells_symbol}
use Rattle.icu_dimension.proofs.MoneySymbolDistinct.{one_sign_tells_symbol, readable_with_symbol}
use Rattle.icu_dimension.proofs.WorkedMoney.{accounts_pattern_read, dollars_are_no_francs, dollars_tell_symbols}
use Rattle.icu_dimension.proofs.laws.money_text_tells_the_symbol.Goals as goal

-- beside it stand patterns that determine symbols, as they are read, and two currencies that are distinguished
pub returns : goal.returns
returns c =
    let standard = dollars_tell_symbols in
    let accounts = accounts_pattern_read in
    let apart = dollars_are_no_francs in
    record {
      characters = money_tells_symbol;
      texts = equal_texts_tell_symbol;
      one_sign = one_sign_tells_symbol;
      one_sign_texts = equal_one_sign_texts_tell_symbol;
      readable = readable_with_symbol;
    }
