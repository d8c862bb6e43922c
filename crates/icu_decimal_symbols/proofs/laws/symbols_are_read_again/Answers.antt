use Rattle.icu_decimal_symbols.proofs.SymbolDamage.{is_read_again}
use Rattle.icu_decimal_symbols.proofs.laws.symbols_are_read_again.Goals as goal

pub returns : goal.returns
returns c = is_read_again
