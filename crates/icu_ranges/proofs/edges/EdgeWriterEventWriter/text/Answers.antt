-- The characters so far are the front of the text's, and at the end all of them.
use Rattle.std.proofs.Common.{[], ◌∷◌, ap, ◌∙◌, sym, refl}
use Rattle.std.specs.Str.{chars}
use Rattle.std.proofs.lemmas.List.{map-id}
use Rattle.std.proofs.lemmas.Iterator.{YieldsList-from_chars}
use Rattle.std.proofs.lemmas.Iterator.Consumers.{YieldsList-end}
use Rattle.writeable.proofs.EventLemmas.{characters-map_Char}
use Rattle.icu_ranges.specs.Edges.{edges_after, edges_with}
use Rattle.icu_ranges.specs.EdgeLaws.{edges_after-append}
use Rattle.icu_ranges.proofs.edges.EdgeWriterEventWriter.text.Goals as goal

pub loop-character-preserved : goal.loop-character-preserved
loop-character-preserved c =
    c.edges_with-self.ensures ∙ ap (λ e. edges_with e c.in-Some.character) c.loop-character.invariant
    ∙ sym (edges_after-append c.args.self.now.edges c.loop-character.yielded (c.in-Some.character ∷ []))

pub returns : goal.returns
returns c =
    let list = YieldsList-from_chars c.args.text.now c.utf8.text cc in
    let all = YieldsList-end list c.loop-character.yielded _ c.loop-character.yielded_by _ _ c.in-None.is c.next.ensures.steps in
    let same = sym (map-id c.loop-character.yielded) ∙ all.0 ∙ sym (characters-map_Char (chars c.args.text.now)) in
    (refl, c.loop-character.invariant ∙ ap (edges_after c.args.self.now.edges) same)
