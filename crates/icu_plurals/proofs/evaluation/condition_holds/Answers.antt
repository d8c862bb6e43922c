use Rattle.std.proofs.Common.{◌<◌, map, length, ap, ◌∙◌, arith}
use Rattle.std.proofs.lemmas.Bool.Decides.{nat_tests}
use Rattle.icu_plurals.specs.Meaning.{holds}
use Rattle.icu_plurals_conditions.specs.Owned.{relations_of}
use Rattle.icu_plurals.proofs.Holding.{one-holds}
use Rattle.std.proofs.lemmas.Grind.{common_steps}
use Rattle.icu_plurals.proofs.evaluation.condition_holds.Goals as goal

-- some alternative holds, where there is one
pub returns : goal.returns
returns c =
    let some : 0 < length c.as_slice-alternatives.result.now = grind (arith, nat_tests) in
    c.one_holds.ensures ∙ one-holds c.args.operands c.as_slice-alternatives.result.now some
    ∙ ap (λ xs. holds c.args.operands (map relations_of xs)) c.as_slice-alternatives.ensures.value

-- Goals that a search finds; it is not tried longer where one is false.
pub returns-then-is_empty : goal.returns-then-is_empty
returns-then-is_empty c = grind (arith, common_steps)
