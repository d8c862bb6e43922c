-- The text's bytes stand at the end of the text, and so its events at the end of the events.
use Rattle.std.proofs.Common.{◌≡◌, ◌++◌, ap, ◌∙◌, refl, arith}
use Rattle.std.proofs.lemmas.Grind.{common_steps}
use Rattle.std.specs.String.{string_bytes}
use Rattle.writeable.specs.Events.{text_events}
use Rattle.writeable.specs.Marks.{marked_events}
use Rattle.writeable.proofs.MarkLemmas.{AreMarks-text, marked_events-text, WritesAll-kept}
use Rattle.writeable.proofs.parts_text.PartsText.keep_text.Goals as goal

pub invariant_of-self-else-is_err : goal.invariant_of-self-else-is_err
invariant_of-self-else-is_err c =
    let bytes : string_bytes c.push_str.new.self ≡ string_bytes c.self.inside.text ++ c.args.text.now = grind (arith, common_steps) in
    rw bytes (AreMarks-text 0 (string_bytes c.self.inside.text) c.args.text.now c.self.inside.marks.items c.utf8.text c.self.invariant)

pub returns-clause-writes : goal.returns-clause-writes
returns-clause-writes c =
    let bytes : string_bytes c.push_str.new.self ≡ string_bytes c.self.inside.text ++ c.args.text.now = grind (arith, common_steps) in
    WritesAll-kept c.self.inside (record c.self.inside { text = c.push_str.new.self }) c.args.self.now (text_events c.args.text.now) c.self.view_is
    (ap (λ t. marked_events 0 t c.self.inside.marks.items) bytes ∙ marked_events-text 0 _ c.args.text.now c.self.inside.marks.items c.self.invariant)
    refl
