use Rattle.std.proofs.Common.{◌≡◌, drop}
use Rattle.icu_dimension_data.specs.Digits.{digits_in}
use Rattle.icu_dimension_data.proofs.currency_digits.CurrencyDigits.of.Given as goal

-- the entries that are left have the answer
abbrev pub invariant-loop-entry : goal.invariant-loop-entry
invariant-loop-entry l = digits_in (drop l.entry-index l.entry-items) l.self.others l.code ≡ digits_in l.self.entries l.self.others l.code
