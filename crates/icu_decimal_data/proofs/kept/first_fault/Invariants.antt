use Rattle.std.proofs.Common.{◌≡◌, ◌≤◌, ◌^◌, ◌+◌, ◌-◌, ℕ, min, List}
use Rattle.icu_decimal_data.specs.CompactTable.{TableEntry}
use Rattle.icu_decimal_data.specs.Kept.{as_table, kept}
use Rattle.icu_decimal_data.specs.CompactFaults.{first_entry_fault, literals_size}
use Rattle.icu_decimal_data.specs.KeptSince.{kept_since}
use Rattle.icu_decimal_data.specs.Kept.{at}
use Rattle.icu_decimal_data.proofs.kept.first_fault.Given as goal

-- what is left to keep, against all that is kept
pub record IsLeft (rest whole : List TableEntry) (size : ℕ) : Type 0 where
  pub faults : first_entry_fault rest ≡ first_entry_fault whole
  pub size_left : min (size + literals_size rest) (2 ^ 64 - 1) ≡ min (literals_size whole) (2 ^ 64 - 1)
  pub fits : size ≤ 2 ^ 64 - 1

abbrev pub invariant-loop-log10_type : goal.invariant-loop-log10_type
invariant-loop-log10_type g l = IsLeft (kept_since (at l.zero_magnitude) (at l.last) (as_table l.log10_type-iterator))
    (kept (at l.zero_magnitude) (as_table l.map.entries)) l.size
