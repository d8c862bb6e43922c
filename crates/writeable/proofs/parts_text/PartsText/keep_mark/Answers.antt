-- The mark stands at the end of the text, and so its event at the end of the events.
use Rattle.std.proofs.Common.{◌≡◌, ◌+◌, ◌++◌, ◌∷◌, [], refl, length, arith}
use Rattle.std.proofs.lemmas.Grind.{common_steps}
use Rattle.std.specs.String.{string_bytes}
use Rattle.writeable.specs.Marks.{mark_at, mark_event_of}
use Rattle.writeable.proofs.MarkLemmas.{AreMarks-mark, marked_events-pushed, WritesAll-kept, KeepsLimit-one}
use Rattle.writeable.proofs.parts_text.PartsText.keep_mark.Goals as goal

pub invariant_of-self-2 : goal.invariant_of-self-2
invariant_of-self-2 c =
    let items : c.push.new.self.items ≡ c.self.inside.marks.items ++ c.mark_of-mark.result ∷ [] = grind (arith, common_steps) in
    let end : mark_at c.mark_of-mark.result ≡ 0 + length (string_bytes c.self.inside.text) = grind (arith, common_steps) in
    rw items (AreMarks-mark 0 (string_bytes c.self.inside.text) c.self.inside.marks.items c.mark_of-mark.result end c.self.invariant)

pub returns-clause-writes : goal.returns-clause-writes
returns-clause-writes c =
    let items : c.push.new.self.items ≡ c.self.inside.marks.items ++ c.mark_of-mark.result ∷ [] = grind (arith, common_steps) in
    let end : mark_at c.mark_of-mark.result ≡ 0 + length (string_bytes c.self.inside.text) = grind (arith, common_steps) in
    WritesAll-kept c.self.inside (record c.self.inside { marks = c.push.new.self; room = c.one_less-self-inside.result }) c.args.self.now
    (mark_event_of c.args.opened ∷ []) c.self.view_is (marked_events-pushed _ _ _ _ _ items end c.mark_of-mark.ensures.event c.self.invariant) refl

pub returns-clause-limited : goal.returns-clause-limited
returns-clause-limited c =
    let items : c.push.new.self.items ≡ c.self.inside.marks.items ++ c.mark_of-mark.result ∷ [] = grind (arith, common_steps) in
    let end : mark_at c.mark_of-mark.result ≡ 0 + length (string_bytes c.self.inside.text) = grind (arith, common_steps) in
    KeepsLimit-one c.self.inside (record c.self.inside { marks = c.push.new.self; room = c.one_less-self-inside.result }) c.args.self.now
    (mark_event_of c.args.opened) c.self.view_is (marked_events-pushed _ _ _ _ _ items end c.mark_of-mark.ensures.event c.self.invariant)
    c.one_less-self-inside.ensures refl
