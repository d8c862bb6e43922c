use Rattle.std.proofs.Common.{sym, ◌∙◌, append-nil, arith}
use Rattle.std.proofs.lemmas.Grind.{common_steps}
use Rattle.std.proofs.lemmas.List.{map-id}
use Rattle.std.proofs.lemmas.Iterator.{YieldsList-from_chars, YieldsList-from_take}
use Rattle.std.proofs.lemmas.Iterator.Adapters.{YieldsList-from_skip}
use Rattle.std.proofs.lemmas.Iterator.Consumers.{YieldsList-at, YieldsList-end}
use Rattle.number_forms.proofs.VisibleTexts.{visible_text-nil, visible_text-push}
use Rattle.number_forms.proofs.characters.push_characters.Goals as goal

pub loop-character-init : goal.loop-character-init
loop-character-init c = rw visible_text-nil (sym (append-nil _))

pub loop-character-preserved : goal.loop-character-preserved
loop-character-preserved c =
    let more = visible_text-push c.loop-character.yielded c.in-Some.character in
    grind (arith, common_steps)

pub returns : goal.returns
returns c =
    let list = YieldsList-from_chars c.args.text.now c.utf8.text c.chars.ensures.rest in
    let skipped = YieldsList-from_skip c.args.start (YieldsList-at c.skip.ensures.source list) c.skip.ensures.count in
    let taken = YieldsList-from_take c.args.count (YieldsList-at c.take-character-items.ensures.source skipped) c.take-character-items.ensures.count in
    let given = YieldsList-at c.into_iter-character-iterator.ensures.into_iter_gives taken in
    let all = YieldsList-end given c.loop-character.yielded _ c.loop-character.yielded_by _ _ c.in-None.is c.next.ensures.steps in
    rw (sym (sym (map-id c.loop-character.yielded) ∙ all.0)) c.loop-character.invariant
