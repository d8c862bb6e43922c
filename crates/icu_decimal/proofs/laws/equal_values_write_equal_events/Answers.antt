use Rattle.std.proofs.lemmas.Bool.{and_parts}
use Rattle.icu_decimal.proofs.FormattedLemmas.{number_events-same}
use Rattle.icu_decimal.proofs.laws.equal_values_write_equal_events.Goals as goal

pub returns-clause-numbers : goal.returns-clause-numbers
returns-clause-numbers c a b h =
    let first = and_parts _ _ h in
    let second = and_parts _ _ first.1 in
    let third = and_parts _ _ second.1 in
    let same = c.equal_parts_are_the_same.ensures in
    number_events-same a b (same.numbers _ _ first.0) (same.options _ _ second.0) (same.symbols _ _ third.0) (same.digits _ _ third.1)

pub returns-clause-decimals : goal.returns-clause-decimals
returns-clause-decimals c a b h = c.equal_signed_values_write_equal_events.ensures (returns-clause-numbers c) a b h
