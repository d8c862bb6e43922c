use Rattle.std.proofs.Common.{ℕ, ◌+◌, ap, ◌∙◌, subst}
use Rattle.std.proofs.lemmas.Result.{on_ok_weaker}
use Rattle.locnum_lines.specs.Gathered.{Adds}
use Rattle.locnum_lines.specs.RecordRuns.{next_ran}
use Rattle.locnum_lines.specs.Stage.{header_passed}
use Rattle.locnum_lines.proofs.Adding.{Adds-lines}
use Rattle.locnum_lines.proofs.Feeding.{record_ran-closed}
use Rattle.locnum_lines.proofs.line.push_record.Goals as goal

pub returns : goal.returns
returns c =
    let mid = c.push_line.new.gathered in
    let adds = subst (λ (k : ℕ). Adds c.args.gathered.now mid (next_ran c.args.settings.now c.args.form.now c.args.gathered.now.stage k
    c.args.line.now) (header_passed c.args.settings.now c.args.gathered.now.stage c.args.line.now))
    (ap (λ s. s.end) c.settings.view_is) c.in_ok-push_line.ensures in
    on_ok_weaker c.pass.result (λ e. rw (record_ran-closed c.args.settings.now c.args.form.now c.args.gathered.now.stage
    c.args.line.now c.requires.closed) (Adds-lines c.args.gathered.now mid c.pass.new.self _ _ _ adds
    (e ∙ ap (λ k. record mid { stage = record mid.stage { lines = mid.stage.lines + k } }) c.requires.count))) c.pass.ensures
