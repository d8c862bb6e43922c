use Rattle.std.proofs.Common.{rules, ◌≤◌}
use Rattle.icu_provider.specs.NumberingSystem.{IsNumberingSystem}
use Rattle.icu_decimal_symbols.specs.Symbols.{total_len}
use Rattle.icu_decimal_symbols.specs.LentTexts.{lent_texts}
use Rattle.icu_decimal_symbols.proofs.SymbolsBuilt.{built, built_is, may_be_built}
use Rattle.icu_decimal_symbols.proofs.symbols.DecimalSymbolStrsBuilder.build.Goals as goal

pub invariant_of-result : goal.invariant_of-result
invariant_of-result c =
    let short : total_len (lent_texts c.args.self.now) ≤ 255 = search rules in
    let system : IsNumberingSystem c.args.self.now.numsys.now = search rules in
    built c.in_ok-bytes.bytes.items c.args.self.now c.in_ok-bytes.ensures.items (may_be_built c.args.self.now short system c.in_ok-bytes.ensures.texts)

pub returns-clause-made : goal.returns-clause-made
returns-clause-made c = built_is c.in_ok-bytes.bytes.items c.args.self.now c.in_ok-bytes.ensures.items

pub returns-clause-accepted : goal.returns-clause-accepted
returns-clause-accepted c = λ _.
    let short : total_len (lent_texts c.args.self.now) ≤ 255 = search rules in
    let system : IsNumberingSystem c.args.self.now.numsys.now = search rules in
    may_be_built c.args.self.now short system c.in_ok-bytes.ensures.texts

-- Goals that a search finds; it is not tried longer where one is false.
pub returns-in_default-clause-made : goal.returns-in_default-clause-made
returns-in_default-clause-made c = search rules

pub returns-in_default-clause-accepted : goal.returns-in_default-clause-accepted
returns-in_default-clause-accepted c = search rules

pub returns-in_default-clause-too_large : goal.returns-in_default-clause-too_large
returns-in_default-clause-too_large c = search rules

pub returns-then-is_err-clause-made : goal.returns-then-is_err-clause-made
returns-then-is_err-clause-made c = search rules

pub returns-then-is_err-clause-accepted : goal.returns-then-is_err-clause-accepted
returns-then-is_err-clause-accepted c = search rules

pub returns-then-is_err-clause-too_large : goal.returns-then-is_err-clause-too_large
returns-then-is_err-clause-too_large c = search rules

pub returns-in_err-bytes-clause-made : goal.returns-in_err-bytes-clause-made
returns-in_err-bytes-clause-made c = search rules

pub returns-in_err-bytes-clause-accepted : goal.returns-in_err-bytes-clause-accepted
returns-in_err-bytes-clause-accepted c = search rules

pub returns-in_err-bytes-clause-too_large : goal.returns-in_err-bytes-clause-too_large
returns-in_err-bytes-clause-too_large c = search rules

pub returns-clause-too_large : goal.returns-clause-too_large
returns-clause-too_large c = search rules

pub returns-clause-bad_numbering_system : goal.returns-clause-bad_numbering_system
returns-clause-bad_numbering_system c = search rules
