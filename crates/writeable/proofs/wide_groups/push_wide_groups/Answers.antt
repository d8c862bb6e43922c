use Rattle.std.proofs.Common.{◌≡◌, arith}
use Rattle.std.proofs.lemmas.Grind.{common_steps}
use Rattle.writeable.proofs.wide_groups.push_wide_groups.Goals as goal

pub returns-clause-is_text : goal.returns-clause-is_text
returns-clause-is_text c = λ old.
    let same : c.replace-taken.result.items ≡ c.args.out.now.items = grind (arith, common_steps) in
    c.push_groups.ensures.is_text (rw same old)

pub returns-clause-separator : goal.returns-clause-separator
returns-clause-separator c = rw c.as_bytes-separator.ensures.value at c.as_bytes-separator.ensures.utf8
