use Rattle.std.proofs.Common.{◌≡◌, ◌<◌, sym, ap, ◌∙◌, arith}
use Rattle.std.proofs.lemmas.Result.{on_ok_weaker}
use Rattle.locnum_lines.proofs.Goes.{Adds-header, Adds-line, Adds-stopped}
use Rattle.locnum_lines.proofs.line.push_line.Goals as goal

pub returns-then-gathered-gt0 : goal.returns-then-gathered-gt0
returns-then-gathered-gt0 c =
    let some : 0 < c.args.gathered.now.stage.left = omega (arith, c.if-gathered-gt0.true, ap (λ g. g.stage.left) c.gathered.view_is) in
    on_ok_weaker c.push_header.result
    (λ a. Adds-header c.args.settings.now c.args.form.now c.args.last c.args.line.now c.args.gathered.now c.push_header.new.gathered some a)
    c.push_header.ensures

pub returns-then-gathered : goal.returns-then-gathered
returns-then-gathered c =
    let none : c.args.gathered.now.stage.left ≡ 0 = ap (λ g. g.stage.left) (sym c.gathered.view_is) ∙ omega (arith, c.if-gathered-gt0.false) in
    Adds-stopped c.args.settings.now c.args.form.now c.args.last c.args.line.now c.args.gathered.now c.push_fields.new.gathered none
    c.in_ok-push_fields.ensures (ap (λ g. g.is_stopped) (sym c.gathered-2.view_is) ∙ c.if-gathered.true)

pub returns : goal.returns
returns c =
    let none : c.args.gathered.now.stage.left ≡ 0 = ap (λ g. g.stage.left) (sym c.gathered.view_is) ∙ omega (arith, c.if-gathered-gt0.false) in
    on_ok_weaker c.push.result (λ e. Adds-line c.args.settings.now c.args.form.now c.args.last c.args.line.now c.args.gathered.now
    c.push_fields.new.gathered none c.in_ok-push_fields.ensures c.push.new.self
    (ap (λ g. g.is_stopped) (sym c.gathered-2.view_is) ∙ c.if-gathered.false) e) c.push.ensures
