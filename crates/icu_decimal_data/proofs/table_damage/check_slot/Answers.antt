-- Goals that a search finds; it is not tried longer where one is false.
use Rattle.std.proofs.Common.{rules}
use Rattle.icu_decimal_data.specs.TableReading.{table_step, record_step, slot_step}
use Rattle.icu_decimal_data.proofs.table_damage.check_slot.Goals as goal

pub returns-then-is_kind_wrong-clause-inside : goal.returns-then-is_kind_wrong-clause-inside
returns-then-is_kind_wrong-clause-inside g c = search rules

pub returns-then-is_kind_wrong-clause-gives : goal.returns-then-is_kind_wrong-clause-gives
unfolding slot_step record_step table_step
returns-then-is_kind_wrong-clause-gives g c = search rules

pub returns-then-not-are_zero-clause-inside : goal.returns-then-not-are_zero-clause-inside
returns-then-not-are_zero-clause-inside g c = search rules

pub returns-then-not-are_zero-clause-gives : goal.returns-then-not-are_zero-clause-gives
unfolding slot_step record_step table_step
returns-then-not-are_zero-clause-gives g c = search rules

pub returns-then-slot-eq-ABSENT-clause-inside : goal.returns-then-slot-eq-ABSENT-clause-inside
returns-then-slot-eq-ABSENT-clause-inside g c = search rules

pub returns-then-start-sum-clause-inside : goal.returns-then-start-sum-clause-inside
returns-then-start-sum-clause-inside g c = search rules

pub returns-then-start-sum-clause-gives : goal.returns-then-start-sum-clause-gives
unfolding slot_step record_step table_step
returns-then-start-sum-clause-gives g c = search rules

pub returns-then-start-len-clause-inside : goal.returns-then-start-len-clause-inside
returns-then-start-len-clause-inside g c = search rules

pub returns-then-start-len-clause-gives : goal.returns-then-start-len-clause-gives
unfolding slot_step record_step table_step
returns-then-start-len-clause-gives g c = search rules

pub returns-then-is_placeholder_wrong-clause-inside : goal.returns-then-is_placeholder_wrong-clause-inside
returns-then-is_placeholder_wrong-clause-inside g c = search rules

pub returns-then-is_placeholder_wrong-clause-gives : goal.returns-then-is_placeholder_wrong-clause-gives
unfolding slot_step record_step table_step
returns-then-is_placeholder_wrong-clause-gives g c = search rules

pub returns-then-not-is_slot_good-clause-inside : goal.returns-then-not-is_slot_good-clause-inside
returns-then-not-is_slot_good-clause-inside g c = search rules

pub returns-then-not-is_slot_good-clause-gives : goal.returns-then-not-is_slot_good-clause-gives
unfolding slot_step record_step table_step
returns-then-not-is_slot_good-clause-gives g c = search rules

pub returns-clause-inside : goal.returns-clause-inside
returns-clause-inside g c = search rules

pub returns-clause-gives : goal.returns-clause-gives
unfolding slot_step record_step table_step
returns-clause-gives g c = search rules
