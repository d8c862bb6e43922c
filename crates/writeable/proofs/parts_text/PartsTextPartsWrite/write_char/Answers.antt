-- The character's bytes stand at the end of the text, and so its event at the end of the events.
use Rattle.std.proofs.Common.{◌≡◌, ◌++◌, ◌∷◌, [], refl, arith}
use Rattle.std.proofs.lemmas.Grind.{common_steps}
use Rattle.std.proofs.lemmas.Str.{IsUtf8-encode}
use Rattle.std.specs.Char.{encode_utf8}
use Rattle.std.specs.String.{string_bytes}
use Rattle.writeable.specs.Events.Event.{Char}
use Rattle.writeable.proofs.MarkLemmas.{AreMarks-text, marked_events-char, WritesAll-kept, KeepsLimit-one}
use Rattle.writeable.proofs.parts_text.PartsTextPartsWrite.write_char.Goals as goal

pub invariant_of-self-2 : goal.invariant_of-self-2
invariant_of-self-2 c =
    let bytes : string_bytes c.push.new.self ≡ string_bytes c.self.inside.text ++ encode_utf8 c.args.character = grind (arith, common_steps) in
    rw bytes (AreMarks-text 0 (string_bytes c.self.inside.text) (encode_utf8 c.args.character) c.self.inside.marks.items
    (IsUtf8-encode c.args.character c.ranges.character.0) c.self.invariant)

pub returns-clause-writes : goal.returns-clause-writes
returns-clause-writes c =
    let bytes : string_bytes c.push.new.self ≡ string_bytes c.self.inside.text ++ encode_utf8 c.args.character = grind (arith, common_steps) in
    WritesAll-kept c.self.inside (record c.self.inside { text = c.push.new.self; room = c.one_less-self-inside.result }) c.args.self.now
    (Char c.args.character ∷ []) c.self.view_is (marked_events-char _ _ _ c.args.character bytes c.ranges.character.0 c.self.invariant) refl

pub returns-clause-limited : goal.returns-clause-limited
returns-clause-limited c =
    let bytes : string_bytes c.push.new.self ≡ string_bytes c.self.inside.text ++ encode_utf8 c.args.character = grind (arith, common_steps) in
    KeepsLimit-one c.self.inside (record c.self.inside { text = c.push.new.self; room = c.one_less-self-inside.result }) c.args.self.now (Char c.args.character)
    c.self.view_is (marked_events-char _ _ _ c.args.character bytes c.ranges.character.0 c.self.invariant) c.one_less-self-inside.ensures refl
