use Rattle.std.proofs.Common.{◌≡◌, ℕ, ◌+◌, ◌-◌, ◌<◌, ◌≤◌, true, false, nat_le}
use Rattle.fixed_decimal.specs.Size.{finest, place}
use Rattle.icu_decimal_data.specs.TableReading.{count_in, type_in}
use Rattle.icu_decimal_data.proofs.table_search.reached.Given as goal

abbrev pub invariant-loop-low : goal.invariant-loop-low
invariant-loop-low l =
    (l.low ≤ l.high)
    × (l.high ≤ count_in l.bytes)
    × ((i : ℕ) → i < l.low → nat_le (type_in l.bytes i + finest) (place l.magnitude) ≡ true)
    × ((i : ℕ) → l.high ≤ i → i < count_in l.bytes → nat_le (type_in l.bytes i + finest) (place l.magnitude) ≡ false)

abbrev pub decreases-loop-low : goal.decreases-loop-low
decreases-loop-low l = l.high - l.low
