use Rattle.std.proofs.Common.{◌≡◌, drop}
use Rattle.icu_provider.specs.Identifier.{identifier_of}
use Rattle.icu_table_entries.specs.Named.{first_filed}
use Rattle.icu_table_entries.proofs.named.first_filed.Given as goal

-- the entries that are left decide
abbrev pub invariant-loop-entry : goal.invariant-loop-entry
invariant-loop-entry g l = first_filed (identifier_of l.id) (drop l.entry-index l.entries) ≡ first_filed (identifier_of l.id) l.entries
