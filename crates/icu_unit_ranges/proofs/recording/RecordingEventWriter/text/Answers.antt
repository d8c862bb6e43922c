-- The characters so far are kept, and at the end all of them.
use Rattle.std.proofs.Common.{[], ◌∷◌, ◌++◌, ap, ◌∙◌, sym, append_assoc}
use Rattle.std.specs.Prelude.{map}
use Rattle.std.proofs.lemmas.List.{map-append, map-id}
use Rattle.std.proofs.lemmas.Iterator.{YieldsList-from_chars}
use Rattle.std.proofs.lemmas.Iterator.Consumers.{YieldsList-end}
use Rattle.writeable.specs.Events.Event.{Char}
use Rattle.icu_unit_ranges.specs.Recordings.{kept_events}
use Rattle.icu_unit_ranges.proofs.recording.RecordingEventWriter.text.Goals as goal

pub loop-character-preserved : goal.loop-character-preserved
loop-character-preserved c =
    let front = kept_events c.args.self.now.kept.items in
    let before = map Char c.loop-character.yielded in
    let one = Char c.in-Some.character ∷ [] in
    c.in_ok-keep.ensures ∙ ap (λ l. l ++ one) c.loop-character.invariant ∙ append_assoc front before one
    ∙ ap (λ l. front ++ l) (sym (map-append Char c.loop-character.yielded (c.in-Some.character ∷ [])))

pub returns : goal.returns
returns c =
    let list = YieldsList-from_chars c.args.text.now c.utf8.text cc in
    let all = YieldsList-end list c.loop-character.yielded _ c.loop-character.yielded_by _ _ c.in-None.is c.next.ensures.steps in
    c.loop-character.invariant ∙ ap (λ l. kept_events c.args.self.now.kept.items ++ map Char l) (sym (map-id c.loop-character.yielded) ∙ all.0)
