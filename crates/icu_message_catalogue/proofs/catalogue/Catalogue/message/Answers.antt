use Rattle.std.proofs.Common.{◌∙◌}
use Rattle.icu_message_catalogue.proofs.Entries.{lookup_is_message}
use Rattle.icu_message_catalogue.proofs.catalogue.Catalogue.message.Goals as goal

pub returns : goal.returns
returns c = rw (← c.self.view_is) (c.get.ensures.value ∙ lookup_is_message c.args.id.now c.self.inside.messages.entries)
