use Rattle.std.proofs.Common.{◌≡◌, ◌≢◌, refl, ap, ◌∙◌}
use Rattle.std.proofs.lemmas.Bool.{false≢true}
use Rattle.std.proofs.lemmas.Result.{on_ok_weaker}
use Rattle.std.specs.Prelude.{Option}
use Rattle.decimal_lines.specs.declared.single_text.TextError.TheVariants.{OutOfMemory}
use Rattle.locnum_lines.specs.declared.padding.Width.{Width}
use Rattle.locnum_lines.proofs.Numbers.{number-refused, number-shown, shown_by}
use Rattle.locnum_lines.proofs.field.push_chosen.Goals as goal

pub refuse-requires : goal.refuse-requires
refuse-requires c =
    let told : c.in-Err.error ≢ OutOfMemory = λ e. false≢true (c.if-eq.ensures ∙ rw e refl) in
    ap (λ g. g.is_stopped) (c.in-Err.ensures.blanks told) ∙ c.requires.going

pub returns-in-Ok : goal.returns-in-Ok
returns-in-Ok c =
    let shown : c.push_shown-shown.new.gathered ≡ shown_by c.width_by-width.result c.settings.inside.delimiter c.args.before.now c.in-Ok.ensures.ok.0
    c.args.gathered.now = c.in-Ok.ensures.ok.2 in
    let moved = shown ∙ ap (λ s. shown_by c.width_by-width.result s.delimiter c.args.before.now c.in-Ok.ensures.ok.0 c.args.gathered.now) c.settings.view_is
    ∙ ap (λ (w : Option Width). shown_by w c.args.settings.now.delimiter c.args.before.now c.in-Ok.ensures.ok.0 c.args.gathered.now)
    c.width_by-width.ensures in
    on_ok_weaker c.write.result (λ e. number-shown c.args.settings.now c.args.form.now _ c.args.index _ c.args.gathered.now
    c.push_shown-shown.new.gathered c.write.new.self _ c.requires.going c.in-Ok.ensures.ok.1 moved e) c.write.ensures

pub returns-else-eq : goal.returns-else-eq
returns-else-eq c =
    let told : c.in-Err.error ≢ OutOfMemory = λ e. false≢true (c.if-eq.ensures ∙ rw e refl) in
    on_ok_weaker c.refuse.result (λ a. number-refused c.args.settings.now c.args.form.now c.args.index _ c.args.gathered.now
    c.push_shown-shown.new.gathered c.refuse.new.gathered c.in-Err.error c.requires.going c.in-Err.ensures.refused told (c.in-Err.ensures.blanks told) a)
    c.refuse.ensures
