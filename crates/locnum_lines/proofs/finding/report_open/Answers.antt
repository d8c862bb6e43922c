use Rattle.std.proofs.Common.{◌≡◌, ◌+◌, ap, ◌∙◌}
use Rattle.std.proofs.lemmas.Result.{on_ok_weaker}
use Rattle.locnum_lines.specs.Records.{last_begun}
use Rattle.locnum_lines.specs.Stage.{header_passed}
use Rattle.locnum_lines.specs.declared.cutting.FieldState.TheVariants.{Front}
use Rattle.locnum_lines.proofs.Found.{noted-open}
use Rattle.locnum_lines.proofs.Goes.{Adds-any}
use Rattle.locnum_lines.proofs.finding.report_open.Goals as goal

pub returns : goal.returns
returns c =
    let stage = c.args.gathered.now.stage in
    let line = c.args.record.now in
    let after = header_passed c.args.settings.now stage line in
    let first : c.in-Some.first ≡ stage.lines + 1 = c.in-Some.ensures.1 ∙ ap (λ g. g.stage.lines + 1) c.gathered.view_is in
    let begun : c.in-Some-last_begun.begun ≡ last_begun c.args.settings.now.delimiter c.args.settings.now.end Front (stage.lines + 1) (stage.lines + 1) line =
    c.in-Some-last_begun.ensures
    ∙ ap (λ s. last_begun s.delimiter s.end Front c.in-Some.first c.in-Some.first line) c.settings.view_is
    ∙ ap (λ k. last_begun c.args.settings.now.delimiter c.args.settings.now.end Front k k line) first in
    on_ok_weaker c.stop.result (λ a. rw (noted-open c.args.settings.now stage line c.requires, ← begun) (Adds-any _ _ _ _ after a.is_stopped a))
    c.stop.ensures
