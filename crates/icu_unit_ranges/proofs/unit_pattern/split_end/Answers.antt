use Rattle.std.proofs.Common.{chars, length, ap, sym, subst, ◌∙◌}
use Rattle.std.specs.Str.{IsCharBoundary}
use Rattle.std.specs.Prelude.{take, drop}
use Rattle.icu_dimension.proofs.UnitLiterals.{boundary-end, chars-before_end, chars-from_end}
use Rattle.icu_unit_ranges.proofs.unit_pattern.split_end.Goals as goal

pub split_at-requires : goal.split_at-requires
split_at-requires c = subst (λ r. IsCharBoundary c.args.text.now (length r)) (sym c.trim_end.ensures.trim) (boundary-end c.args.text.now c.utf8.text)

pub returns-clause-kept : goal.returns-clause-kept
returns-clause-kept c = ap chars c.split_at.ensures.front ∙ ap (λ r. chars (take (length r) c.args.text.now)) c.trim_end.ensures.trim
    ∙ chars-before_end c.args.text.now c.utf8.text

pub returns-clause-space : goal.returns-clause-space
returns-clause-space c = ap chars c.split_at.ensures.back ∙ ap (λ r. chars (drop (length r) c.args.text.now)) c.trim_end.ensures.trim
    ∙ chars-from_end c.args.text.now c.utf8.text
