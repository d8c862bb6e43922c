-- Goals that a search finds; it is not tried longer where one is false.
use Rattle.std.proofs.Common.{arith, rules}
use Rattle.icu_decimal_symbols.proofs.SymbolReading.{reading}
use Rattle.icu_decimal_symbols.proofs.symbol_damage.check_texts.Goals as goal

pub loop-index-init : goal.loop-index-init
loop-index-init c = search rules

pub returns : goal.returns
returns c = search rules

pub returns-then-not-is_text : goal.returns-then-not-is_text
returns-then-not-is_text c = grind (arith, reading)

pub loop-index-preserved : goal.loop-index-preserved
loop-index-preserved c = grind (arith, reading)
