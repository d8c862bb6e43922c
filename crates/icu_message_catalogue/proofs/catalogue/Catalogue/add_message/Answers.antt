use Rattle.std.proofs.Common.{List, Ok, option_map, sym, ap, ◌∙◌, Result}
use Rattle.std.specs.Prelude.{string_bytes}
use Rattle.icu_message_catalogue.specs.Catalogue.{CatalogueData, with_text}
use Rattle.icu_message_catalogue.specs.Entries.{Entry, entries_view, with_message}
use Rattle.icu_message_catalogue.specs.Reading.{Fault}
use Rattle.icu_message_catalogue.proofs.Entries.{insert_is_message}
use Rattle.icu_message_catalogue.proofs.catalogue.Catalogue.add_message.Goals as goal

pub returns-clause-taken : goal.returns-clause-taken
unfolding with_text
returns-clause-taken c =
    let id = c.in_ok-id.id in
    let before = c.self.inside.messages.entries in
    let message = c.in_ok-message.message in
    let made : List Entry → Result CatalogueData Fault =
    λ es. Ok (record { locale = option_map (λ s. string_bytes s) c.self.inside.locale; messages = es }) in
    let added = ap (λ es. entries_view es) c.in_ok-insert.ensures.entries ∙ insert_is_message before id message
    ∙ ap (λ key. with_message (entries_view before) key message) c.in_ok-id.ensures.ok in
    rw (c.in_ok-message.ensures, ← c.self.view_is) (ap made (sym added))
