-- Goals that a search finds; it is not tried longer where one is false.
use Rattle.std.proofs.Common.{arith, rules}
use Rattle.icu_decimal_data.proofs.TableSearch.{searching}
use Rattle.icu_decimal_data.proofs.compact_view.CompactView.entry_for_magnitude.Goals as goal

pub invariant_of-result : goal.invariant_of-result
invariant_of-result g c = search rules

pub returns-in-0 : goal.returns-in-0
returns-in-0 g c = grind (arith, searching)

pub returns-in_default : goal.returns-in_default
returns-in_default g c = grind (arith, searching)
