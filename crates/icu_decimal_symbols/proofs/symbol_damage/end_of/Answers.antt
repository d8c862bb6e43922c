use Rattle.std.proofs.Common.{rules, arith}
use Rattle.icu_decimal_symbols.proofs.TextStarts.{sum_more}
use Rattle.icu_decimal_symbols.proofs.SymbolReading.{passing_goes_on}
use Rattle.icu_decimal_symbols.proofs.symbol_damage.end_of.Goals as goal

pub loop-i-preserved : goal.loop-i-preserved
loop-i-preserved c = (
  omega (arith, sum_more c.args.bytes.now c.loop-i.i),
  omega arith,
  passing_goes_on c.args.bytes.now c.loop-i.i c.loop-i.total _ (omega arith) c.requires c.loop-i.invariant.2 (omega arith),
)

-- Goals that a search finds; it is not tried longer where one is false.
pub loop-i-init : goal.loop-i-init
loop-i-init c = search rules

pub returns-then-total-gt-MAX_LEN : goal.returns-then-total-gt-MAX_LEN
returns-then-total-gt-MAX_LEN c = search rules

pub returns : goal.returns
returns c = search rules
