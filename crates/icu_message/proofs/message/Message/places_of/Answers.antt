use Rattle.std.proofs.Common.{ap, ◌∙◌}
use Rattle.icu_message.specs.Reading.{MessageText}
use Rattle.icu_message.proofs.Counts.{tree_counted}
use Rattle.icu_message.proofs.message.Message.places_of.Goals as goal

-- what is counted is what the tree says
pub returns : goal.returns
returns c = λ t e. tree_counted c.args.self.now.text c.args.name.now c.args.self.now.pieces t c.places_of.result
    (rw (
      c.deref.ensures.value ∙ ap (λ (m : MessageText). m.text) c.self.view_is,
      c.as_bytes.ensures.value,
      c.deref-2.ensures.value ∙ ap (λ (m : MessageText). m.pieces) c.self.view_is,
    ) at c.places_of.ensures) e
