use Rattle.std.proofs.Common.{◌≡◌, ℕ, List, Option, Some, None, get_or, take, sym, ap, ◌∙◌, subst}
use Rattle.std.proofs.lemmas.Result.{on_ok_weaker}
use Rattle.locnum_lines.specs.Gathered.{Adds}
use Rattle.locnum_lines.specs.RecordRuns.{open_ran}
use Rattle.locnum_lines.specs.Records.{in_front}
use Rattle.locnum_lines.specs.Stage.{header_passed}
use Rattle.locnum_lines.specs.declared.cutting.FieldState.TheVariants.{Front}
use Rattle.locnum_lines.proofs.Goes.{Adds-any, open-behind, open-stopped}
use Rattle.locnum_lines.proofs.line.push_open.Goals as goal

pub returns-in_default : goal.returns-in_default
returns-in_default c =
    let after = header_passed c.args.settings.now c.args.gathered.now.stage c.args.line.now in
    let none : None ≡ in_front c.args.settings.now.delimiter Front c.args.line.now =
    c.in_default.ensures.value ∙ ap (λ s. in_front s.delimiter Front c.args.line.now) c.settings.view_is in
    on_ok_weaker c.stop.result (λ a. subst (λ (o : Option (List ℕ × ℕ)).
    Adds c.args.gathered.now c.stop.new.gathered (open_ran c.args.settings.now c.args.form.now c.args.gathered.now.stage c.args.begun o) after) none
    (Adds-any _ _ _ _ after a.is_stopped a)) c.stop.ensures

pub returns-then-gathered : goal.returns-then-gathered
returns-then-gathered c =
    let after = header_passed c.args.settings.now c.args.gathered.now.stage c.args.line.now in
    let front = take c.in-Some.n c.args.line.now in
    let last = get_or c.args.line.now c.in-Some.n 0 in
    let some : Some (front, last) ≡ in_front c.args.settings.now.delimiter Front c.args.line.now =
    c.in-Some.ensures.value ∙ ap (λ s. in_front s.delimiter Front c.args.line.now) c.settings.view_is in
    subst (λ (o : Option (List ℕ × ℕ)).
    Adds c.args.gathered.now c.push_line.new.gathered (open_ran c.args.settings.now c.args.form.now c.args.gathered.now.stage c.args.begun o) after) some
    (open-stopped c.args.settings.now c.args.form.now c.args.begun c.args.gathered.now c.push_line.new.gathered c.push_line.new.gathered front last after
    (rw c.split_at.ensures.front at c.in_ok-push_line.ensures) (ap (λ g. g.is_stopped) (sym c.gathered.view_is) ∙ c.if-gathered.true))

pub returns : goal.returns
returns c =
    let after = header_passed c.args.settings.now c.args.gathered.now.stage c.args.line.now in
    let front = take c.in-Some.n c.args.line.now in
    let last = get_or c.args.line.now c.in-Some.n 0 in
    let some : Some (front, last) ≡ in_front c.args.settings.now.delimiter Front c.args.line.now =
    c.in-Some.ensures.value ∙ ap (λ s. in_front s.delimiter Front c.args.line.now) c.settings.view_is in
    on_ok_weaker c.stop-2.result (λ a. subst (λ (o : Option (List ℕ × ℕ)).
    Adds c.args.gathered.now c.stop-2.new.gathered (open_ran c.args.settings.now c.args.form.now c.args.gathered.now.stage c.args.begun o) after) some
    (open-behind c.args.settings.now c.args.form.now c.args.begun c.args.gathered.now c.push_line.new.gathered c.stop-2.new.gathered front last after
    (rw c.split_at.ensures.front at c.in_ok-push_line.ensures) (ap (λ g. g.is_stopped) (sym c.gathered.view_is) ∙ c.if-gathered.false)
    a.is_stopped a))
    c.stop-2.ensures
