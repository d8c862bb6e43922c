use Rattle.std.proofs.Common.{◌≡◌, false, ap, sym, ◌∙◌}
use Rattle.std.proofs.lemmas.Result.{on_ok_weaker}
use Rattle.locnum_lines.specs.Records.{is_open}
use Rattle.locnum_lines.proofs.Found.{noted-closed}
use Rattle.locnum_lines.proofs.finding.numbers_or_note.Goals as goal

pub returns-clause-noted : goal.returns-clause-noted
returns-clause-noted c =
    let closed : is_open c.args.settings.now.delimiter c.args.record.now ≡ false =
    ap (λ s. is_open s.delimiter c.args.record.now) (sym c.settings.view_is) ∙ sym c.is_open_behind.ensures ∙ c.if-is_open_behind.false in
    on_ok_weaker c.numbers_of.result (λ a. rw (noted-closed c.args.settings.now c.args.gathered.now.stage c.args.record.now closed) a)
    c.numbers_of.ensures.noted
