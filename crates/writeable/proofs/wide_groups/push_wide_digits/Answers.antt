use Rattle.std.proofs.Common.{◌≡◌, arith}
use Rattle.std.proofs.lemmas.Grind.{common_steps}
use Rattle.writeable.proofs.Utf8Texts.{IsUtf8-behind}
use Rattle.writeable.proofs.wide_groups.push_wide_digits.Goals as goal

pub returns-clause-is_text : goal.returns-clause-is_text
returns-clause-is_text c = λ old.
    let same : c.replace-taken.result.items ≡ c.args.out.now.items = grind (arith, common_steps) in
    IsUtf8-behind _ _ _ (rw same at c.push_wide.ensures.items) old c.push_wide.ensures.is_text
