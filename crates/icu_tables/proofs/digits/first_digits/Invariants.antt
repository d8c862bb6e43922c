use Rattle.std.proofs.Common.{◌≡◌, drop}
use Rattle.icu_tables.specs.Digits.{first_digits}
use Rattle.icu_tables.proofs.digits.first_digits.Given as goal

-- the entries that are left decide
abbrev pub invariant-loop-entry : goal.invariant-loop-entry
invariant-loop-entry l = first_digits l.system (drop l.entry-index l.entries) ≡ first_digits l.system l.entries
