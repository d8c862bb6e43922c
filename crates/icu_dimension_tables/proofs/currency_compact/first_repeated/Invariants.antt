use Rattle.std.proofs.Common.{◌≡◌, ◌-◌, drop}
use Rattle.icu_dimension_tables.specs.CurrencyCompact.{first_repeated}
use Rattle.icu_dimension_tables.proofs.currency_compact.first_repeated.Given as goal

-- the entries from the one before on decide
abbrev pub invariant-loop-index : goal.invariant-loop-index
invariant-loop-index l = first_repeated (drop (l.index - 1) l.entries) ≡ first_repeated l.entries
