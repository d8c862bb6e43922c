use Rattle.std.proofs.Common.{◌++◌, ap, ◌∙◌}
use Rattle.icu_pattern.specs.Patterns.{PatternText}
use Rattle.icu_pattern.specs.Refs.{text_of_ref}
use Rattle.locnum_explain.specs.Facts.{pattern_line}
use Rattle.std.proofs.lemmas.Result.{on_ok_weaker}
use Rattle.locnum_explain.proofs.Entries.{pattern-picked}
use Rattle.locnum_explain.proofs.compact.push_pattern_at.Goals as goal

pub returns : goal.returns
returns c =
    let picked = pattern-picked c.args.formatter.now c.plural_rules-rules.result.now c.patterns.result.now c.args.significand.now c.args.index
    c.in-Some.index c.from_significand_and_exponent-operands.result (text_of_ref c.pick.result) c.plural_rules-rules.ensures c.patterns.ensures
    c.in-Some.is c.requires c.from_significand_and_exponent-operands.ensures c.pick.ensures in
    on_ok_weaker c.push_pattern.result (λ e. e ∙ ap (λ (p : PatternText). c.args.out.now.items ++ pattern_line p) picked) c.push_pattern.ensures
