use Rattle.std.proofs.Common.{◌∙◌, ◌++◌}
use Rattle.std.specs.Prelude.{codes}
use Rattle.skeleton_settings.specs.Canonical.{fraction_text, beside_text}
use Rattle.skeleton_settings.proofs.Spaced.{spaced_more}
use Rattle.skeleton_settings.proofs.canonical_digits.push_precision.Goals as goal

pub returns-in_ok-push_beside-in-Both : goal.returns-in_ok-push_beside-in-Both
returns-in_ok-push_beside-in-Both c =
    let b = c.in-Both in
    c.in_ok-push_beside-in-Both.ensures
    ∙ rw (c.in_ok-push_fraction-in-Both.ensures, b.is)
    (spaced_more _ (fraction_text b.least b.most) (codes "/" ++ beside_text b.few b.many b.priority b.keeps_least))
