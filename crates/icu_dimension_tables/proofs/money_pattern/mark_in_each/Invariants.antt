use Rattle.std.proofs.Common.{◌≡◌, drop, false}
use Rattle.icu_dimension_tables.specs.MoneyPattern.{mark_in_each}
use Rattle.icu_dimension_tables.proofs.money_pattern.mark_in_each.Given as goal

-- the characters that are left decide
abbrev pub invariant-loop-character : goal.invariant-loop-character
invariant-loop-character l =
    mark_in_each l.mark l.state.0 l.state.1 (drop l.character-index l.characters) ≡ mark_in_each l.mark false false l.characters
