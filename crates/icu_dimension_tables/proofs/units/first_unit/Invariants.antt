use Rattle.std.proofs.Common.{◌≡◌, drop}
use Rattle.icu_provider.specs.Identifier.{identifier_of}
use Rattle.icu_dimension_tables.specs.Units.{first_unit}
use Rattle.icu_dimension_tables.proofs.units.first_unit.Given as goal

-- the entries that are left decide
abbrev pub invariant-loop-entry : goal.invariant-loop-entry
invariant-loop-entry l = first_unit l.width (identifier_of l.id) (drop l.entry-index l.entries) ≡ first_unit l.width (identifier_of l.id) l.entries
