-- Goals that a search finds; it is not tried longer where one is false.
use Rattle.std.proofs.Common.{rules}
use Rattle.icu_decimal_symbols.specs.SymbolBytes.{first_damage}
use Rattle.icu_decimal_symbols.proofs.symbol_damage.check.Goals as goal

pub returns-then-bytes-lt-COUNT : goal.returns-then-bytes-lt-COUNT
unfolding first_damage
returns-then-bytes-lt-COUNT c = search rules

pub returns-in_err-end : goal.returns-in_err-end
unfolding first_damage
returns-in_err-end c = search rules

pub returns-then-bytes-end : goal.returns-then-bytes-end
unfolding first_damage
returns-then-bytes-end c = search rules

pub returns-in_err-check_texts : goal.returns-in_err-check_texts
unfolding first_damage
returns-in_err-check_texts c = search rules

pub returns : goal.returns
unfolding first_damage
returns c = search rules
