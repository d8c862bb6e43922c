use Rattle.std.proofs.Common.{◌≡◌, ◌-◌, ◌++◌, ℕ, List, take, drop, length, length-drop, ap, ◌∙◌, arith}
use Rattle.std.proofs.lemmas.List.{take_all}
use Rattle.writeable.specs.Events.{text_of}
use Rattle.number_forms.specs.Forms.{form_events}
use Rattle.locnum_lines.specs.FieldRuns.{held_by}
use Rattle.locnum_lines.specs.Gathered.{GatheredData}
use Rattle.locnum_lines.specs.Ran.{first_of}
use Rattle.locnum_lines.specs.declared.settings.Delimiter.TheVariants.{Byte}
use Rattle.locnum_lines.proofs.Adding.{behind_all}
use Rattle.locnum_lines.proofs.Numbers.{shown-events}
use Rattle.locnum_lines.proofs.gathered.Gathered.write_between.Goals as goal

pub returns-clause-ok : goal.returns-clause-ok
returns-clause-ok c =
    let old = c.args.self.now in
    let start = c.len-start.result in
    let shown = shown-events (form_events c.args.form.now c.args.number.now) c.self.inside.output.items c.push.new.out.items c.in_ok-push.ensures.ok in
    let text = text_of shown.0 in
    let count : start ≡ length c.self.inside.output.items = omega (arith, c.self.inside.output.ok.0, c.len-start.ensures) in
    let behind : drop start c.push.new.out.items ≡ text =
    behind_all start c.push.new.out.items c.self.inside.output.items text shown.2 count in
    let piece : take (length c.deref.result.now - start) (drop start c.deref.result.now) ≡ text =
    take_all (length c.deref.result.now - start) (drop start c.deref.result.now) (omega (arith, length-drop start c.deref.result.now))
    ∙ ap (λ (k : List ℕ). drop start k) c.deref.ensures.value ∙ behind in
    let output : c.push.new.out.items ≡ old.output ++ text = shown.2 ∙ ap (λ g. g.output ++ text) c.self.view_is in
    let holding : c.hold.new.holding.items ≡ first_of old.holding (held_by (Byte c.args.delimiter) text) =
    c.in-Ok.ensures ∙ ap (λ (k : List ℕ). first_of c.self.inside.holding.items (held_by (Byte c.args.delimiter) k)) piece
    ∙ ap (λ g. first_of g.holding (held_by (Byte c.args.delimiter) text)) c.self.view_is in (
      shown.0,
      shown.1,
      ap (λ (g : GatheredData). record g { output = c.push.new.out.items; holding = c.hold.new.holding.items }) c.self.view_is
          ∙ ap (λ (k : List ℕ). record old { output = k; holding = c.hold.new.holding.items }) output
          ∙ ap (λ (k : List ℕ). record old { output = old.output ++ text; holding = k }) holding,
    )
