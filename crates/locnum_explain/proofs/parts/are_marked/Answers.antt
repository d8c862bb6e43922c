use Rattle.std.proofs.Common.{◌≡◌, map, ap, ◌∙◌, refl, sym}
use Rattle.std.specs.List.{list_all}
use Rattle.std.proofs.lemmas.List.Folds.{list_all-map}
use Rattle.writeable.specs.PartSpans.{span}
use Rattle.locnum_explain.specs.Columns.{columns_of}
use Rattle.locnum_explain.specs.Parts.{has_room}
use Rattle.locnum_explain.proofs.parts.are_marked.Goals as goal

pub returns-then-have_room : goal.returns-then-have_room
returns-then-have_room c =
    let text = c.args.text.now in
    let width = c.args.width in
    let parts = c.args.parts.now in
    let columns : c.columns_of.result ≡ columns_of text = c.columns_of.ensures ∙ ap columns_of c.as_bytes.ensures.value in
    let room : c.have_room.result ≡ list_all (has_room (columns_of text) width) (map span parts) =
    c.have_room.ensures ∙ (ap (λ n. list_all (λ s. has_room n width (span s)) parts) columns
    ∙ sym (list_all-map (has_room (columns_of text) width) span parts)) in
    rw (← room, c.if-have_room.true, c.is_turned.ensures) refl

pub returns-else-have_room : goal.returns-else-have_room
returns-else-have_room c =
    let text = c.args.text.now in
    let width = c.args.width in
    let parts = c.args.parts.now in
    let columns : c.columns_of.result ≡ columns_of text = c.columns_of.ensures ∙ ap columns_of c.as_bytes.ensures.value in
    let room : c.have_room.result ≡ list_all (has_room (columns_of text) width) (map span parts) =
    c.have_room.ensures ∙ (ap (λ n. list_all (λ s. has_room n width (span s)) parts) columns
    ∙ sym (list_all-map (has_room (columns_of text) width) span parts)) in
    rw (← room, c.if-have_room.false) refl
