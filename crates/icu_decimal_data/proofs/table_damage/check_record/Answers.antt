-- Goals that a search finds; it is not tried longer where one is false.
use Rattle.std.proofs.Common.{rules}
use Rattle.icu_decimal_data.specs.TableReading.{table_step, record_step, slot_step}
use Rattle.icu_decimal_data.proofs.table_damage.check_record.Goals as goal

pub returns-then-log10_type-before-clause-gives : goal.returns-then-log10_type-before-clause-gives
unfolding slot_step record_step table_step
returns-then-log10_type-before-clause-gives g c = search rules

pub returns-then-exponent-before-clause-inside : goal.returns-then-exponent-before-clause-inside
returns-then-exponent-before-clause-inside g c = search rules

pub returns-then-exponent-before-clause-gives : goal.returns-then-exponent-before-clause-gives
unfolding slot_step record_step table_step
returns-then-exponent-before-clause-gives g c = search rules

pub returns-in_err-total-clause-inside : goal.returns-in_err-total-clause-inside
returns-in_err-total-clause-inside g c = search rules

pub returns-then-is_repeating-clause-inside : goal.returns-then-is_repeating-clause-inside
returns-then-is_repeating-clause-inside g c = search rules

pub returns-else-is_repeating-clause-inside : goal.returns-else-is_repeating-clause-inside
returns-else-is_repeating-clause-inside g c = search rules

pub returns-in_default-before-2-clause-inside : goal.returns-in_default-before-2-clause-inside
returns-in_default-before-2-clause-inside g c = search rules
