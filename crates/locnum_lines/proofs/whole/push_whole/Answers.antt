use Rattle.std.proofs.Common.{◌≡◌, ℕ, List, [], ◌++◌, ap, sym, ◌∙◌, length, drop, subst}
use Rattle.std.specs.Prelude.{Option, None}
use Rattle.writeable.specs.Events.{text_of}
use Rattle.locnum_lines.specs.FieldRuns.{held_by}
use Rattle.locnum_lines.specs.Gathered.{GatheredData}
use Rattle.locnum_lines.specs.Padding.{padded}
use Rattle.locnum_lines.specs.Ran.{first_of}
use Rattle.locnum_lines.specs.Settings.{SettingsData}
use Rattle.locnum_lines.specs.Widths.{width_by}
use Rattle.locnum_lines.specs.declared.padding.Padding.{Padding}
use Rattle.locnum_lines.specs.declared.settings.Delimiter.{Delimiter}
use Rattle.locnum_lines.proofs.OneField.{behind-front, whole-goes}
use Rattle.locnum_lines.proofs.whole.push_whole.Goals as goal

pub returns : goal.returns
returns c =
    let leaves = c.if-not-leaves_numbers.false in
    let shown = rw c.if-not-branch.false at c.in_ok-push_number.ensures in
    let old = c.args.gathered.now in
    let text = text_of shown.0 in
    let pushed : c.push_number.new.gathered ≡ record old {
      output = old.output ++ text;
      holding = first_of old.holding (held_by c.args.settings.now.delimiter text);
    } = shown.2
    ∙ ap (λ (g : GatheredData). record g {
      output = g.output ++ text;
      holding = first_of g.holding (held_by c.settings.inside.delimiter text);
    }) c.takes_try.ensures
    ∙ ap (λ (s : SettingsData). record old {
      output = old.output ++ text;
      holding = first_of old.holding (held_by s.delimiter text);
    }) c.settings.view_is in
    let start : c.written-start.result ≡ length old.output =
    c.written-start.ensures ∙ ap (λ (g : GatheredData). length g.output) c.takes_try.ensures in
    let whole : c.written_behind-shown.result.now ≡ text =
    c.written_behind-shown.ensures ∙ ap (λ (g : GatheredData). drop c.written-start.result g.output) pushed
    ∙ ap (λ n. drop n (old.output ++ text)) start ∙ behind-front old.output text in
    let fills : padded (width_by c.settings.inside.delimiter None c.args.index [] c.args.line.now) text ≡ text =
    subst (λ (t : List ℕ). padded (width_by c.settings.inside.delimiter None c.args.index [] c.args.line.now) t ≡ t) whole
    (c.fills_field.ensures.fills c.if-not-fills_field.false) in
    let unpadded : padded (width_by c.settings.inside.delimiter c.args.settings.now.padding c.args.index [] c.args.line.now) text ≡ text =
    subst (λ (p : Option Padding). padded (width_by c.settings.inside.delimiter p c.args.index [] c.args.line.now) text ≡ text)
    (sym (c.leaves_numbers.ensures.padding leaves)) fills in
    let stands : padded (width_by c.args.settings.now.delimiter c.args.settings.now.padding c.args.index [] c.args.line.now) text ≡ text =
    subst (λ (d : Delimiter). padded (width_by d c.args.settings.now.padding c.args.index [] c.args.line.now) text ≡ text)
    (ap (λ (s : SettingsData). s.delimiter) c.settings.view_is) unpadded in
    whole-goes c.args.settings.now c.args.form.now c.args.index c.args.line.now c.args.gathered.now c.renew_tries.new.self
    (c.leaves_numbers.ensures.delimiter leaves) c.requires.chosen c.requires.counted
    c.requires.going shown.0 shown.1 stands (c.renew_tries.ensures ∙ pushed)
