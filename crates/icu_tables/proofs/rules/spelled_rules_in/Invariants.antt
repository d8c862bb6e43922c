use Rattle.std.proofs.Common.{◌≡◌, map, drop}
use Rattle.serde_json.specs.View.{view}
use Rattle.icu_plurals.specs.Rules.{spelled_rules}
use Rattle.icu_table_entries.specs.Reading.{entries_at}
use Rattle.icu_tables.specs.Rules.{spelled_rule_in}
use Rattle.icu_table_entries.specs.declared.error.Key.TheVariants.{Rules}
use Rattle.icu_table_entries.proofs.Lists.{with_front}
use Rattle.icu_tables.proofs.rules.spelled_rules_in.Given as goal

abbrev pub invariant-loop-index : goal.invariant-loop-index
invariant-loop-index l = with_front (spelled_rules l.found.items) (entries_at (λ position. spelled_rule_in) Rules l.index (map view (drop l.index l.values)))
    ≡ entries_at (λ position. spelled_rule_in) Rules 0 (map view l.values)
