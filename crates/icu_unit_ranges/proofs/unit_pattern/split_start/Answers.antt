use Rattle.std.proofs.Common.{◌-◌, chars, length, ap, sym, subst, ◌∙◌}
use Rattle.std.specs.Str.{IsUtf8, IsCharBoundary}
use Rattle.std.specs.Prelude.{take, drop}
use Rattle.icu_dimension.proofs.UnitLiterals.{boundary-start, chars-before_start, chars-from_start}
use Rattle.icu_unit_ranges.proofs.unit_pattern.split_start.Goals as goal

pub split_at-requires : goal.split_at-requires
split_at-requires c = subst (λ r. IsCharBoundary c.args.text.now (length c.args.text.now - length r)) (sym c.trim_start-rest.ensures.trim)
    (boundary-start c.args.text.now c.utf8.text (subst IsUtf8 c.trim_start-rest.ensures.trim c.trim_start-rest.utf8))

pub returns-clause-space : goal.returns-clause-space
returns-clause-space c = ap chars c.split_at.ensures.front
    ∙ ap (λ r. chars (take (length c.args.text.now - length r) c.args.text.now)) c.trim_start-rest.ensures.trim
    ∙ chars-before_start c.args.text.now c.utf8.text

pub returns-clause-rest : goal.returns-clause-rest
returns-clause-rest c = ap chars c.split_at.ensures.back
    ∙ ap (λ r. chars (drop (length c.args.text.now - length r) c.args.text.now)) c.trim_start-rest.ensures.trim
    ∙ chars-from_start c.args.text.now c.utf8.text
