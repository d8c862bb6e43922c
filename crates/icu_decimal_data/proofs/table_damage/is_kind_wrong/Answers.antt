-- Goals that a search finds; it is not tried longer where one is false.
use Rattle.std.proofs.Common.{rules}
use Rattle.icu_decimal_data.proofs.table_damage.is_kind_wrong.Goals as goal

pub returns-then-kind-eq-ABSENT : goal.returns-then-kind-eq-ABSENT
returns-then-kind-eq-ABSENT g c = search rules

pub returns-then-kind-eq-WITH_PLACEHOLDER : goal.returns-then-kind-eq-WITH_PLACEHOLDER
returns-then-kind-eq-WITH_PLACEHOLDER g c = search rules

pub returns-else-kind-eq-WITH_PLACEHOLDER : goal.returns-else-kind-eq-WITH_PLACEHOLDER
returns-else-kind-eq-WITH_PLACEHOLDER g c = search rules
