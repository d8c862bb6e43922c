use Rattle.std.proofs.Common.{◌≡◌, ◌+◌, true, sym, ap, ◌∙◌}
use Rattle.std.proofs.lemmas.Result.{on_ok_weaker}
use Rattle.locnum_lines.specs.Fields.{is_quoted}
use Rattle.locnum_lines.specs.Records.{is_open, last_begun, lines_in}
use Rattle.locnum_lines.specs.declared.cutting.FieldState.TheVariants.{Front}
use Rattle.locnum_lines.proofs.Adding.{Adds-lines}
use Rattle.locnum_lines.proofs.Feeding.{record_ran-open}
use Rattle.locnum_lines.proofs.line.push_last.Goals as goal

pub push_record-requires-clause-closed : goal.push_record-requires-clause-closed
push_record-requires-clause-closed c = ap is_quoted (sym c.requires.state_is) ∙ sym c.is_quoted.ensures ∙ c.if-not-is_quoted.true

pub returns : goal.returns
returns c =
    let mid = c.push_open.new.gathered in
    let lines = c.args.gathered.now.stage.lines in
    let open' : is_open c.args.settings.now.delimiter c.args.line.now ≡ true =
    ap is_quoted (sym c.requires.state_is) ∙ sym c.is_quoted.ensures ∙ c.if-not-is_quoted.false in
    let first : c.in-Some.first ≡ lines + 1 = c.in-Some.ensures.1 ∙ ap (λ g. g.stage.lines + 1) c.gathered.view_is in
    let begun : c.in-Some-last_begun.begun ≡ last_begun c.args.settings.now.delimiter c.args.settings.now.end Front (lines + 1) (lines + 1) c.args.line.now =
    c.in-Some-last_begun.ensures
    ∙ ap (λ s. last_begun s.delimiter s.end Front c.in-Some.first c.in-Some.first c.args.line.now) c.settings.view_is
    ∙ ap (λ k. last_begun c.args.settings.now.delimiter c.args.settings.now.end Front k k c.args.line.now) first in
    let count : c.lines_in-lines.result ≡ lines_in c.args.settings.now.end c.args.line.now =
    c.lines_in-lines.ensures ∙ ap (λ s. lines_in s.end c.args.line.now) c.settings.view_is in
    on_ok_weaker c.pass.result (λ e. rw (record_ran-open c.args.settings.now c.args.form.now c.args.gathered.now.stage c.args.line.now open', ← begun)
    (Adds-lines c.args.gathered.now mid c.pass.new.self _ _ _ c.in_ok-push_open.ensures
    (e ∙ ap (λ k. record mid { stage = record mid.stage { lines = mid.stage.lines + k } }) count))) c.pass.ensures
