use Rattle.std.proofs.Common.{rules, arith, refl}
use Rattle.icu_decimal_data.specs.Kept.{at}
use Rattle.icu_decimal_data.specs.Kept.{as_table}
use Rattle.icu_decimal_data.proofs.KeptSteps.{kept_since_start}
use Rattle.icu_decimal_data.proofs.kept.first_fault.Goals as goal

pub loop-log10_type-init : goal.loop-log10_type-init
loop-log10_type-init g c =
    rw (c.into_iter-log10_type-iterator.ensures.into_iter_gives.0, kept_since_start (at c.args.zero_magnitude) (as_table c.args.map.now.entries)) record
    { faults = refl; size_left = omega arith; fits = omega arith }

-- Goals that a search finds; it is not tried longer where one is false.
pub returns-then-exponents_fall : goal.returns-then-exponents_fall
returns-then-exponents_fall g c = search rules

pub returns-in-Some-fault_at : goal.returns-in-Some-fault_at
returns-in-Some-fault_at g c = search rules

pub loop-log10_type-preserved : goal.loop-log10_type-preserved
loop-log10_type-preserved g c = search rules

pub returns-then-size-gt-MAX_LITERAL_BYTES : goal.returns-then-size-gt-MAX_LITERAL_BYTES
returns-then-size-gt-MAX_LITERAL_BYTES g c = search rules

pub returns-else-size-gt-MAX_LITERAL_BYTES : goal.returns-else-size-gt-MAX_LITERAL_BYTES
returns-else-size-gt-MAX_LITERAL_BYTES g c = search rules
