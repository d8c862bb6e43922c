use Rattle.std.proofs.Common.{◌≡◌, ◌∷◌, ◌++◌, sym, ap, ◌∙◌}
use Rattle.json.specs.Reads.{token_of}
use Rattle.json.specs.Token.{Token}
use Rattle.serde_json.specs.View.{view}
use Rattle.icu_tables.proofs.ForLocale.{begins, one_more, all_read, kept_by, kept_if, kept_unless}
use Rattle.icu_tables.proofs.for_locale.served.Goals.{then-serves+in_ok-push, else-serves}
use Rattle.icu_tables.proofs.for_locale.served.Goals as goal

pub loop-index-init : goal.loop-index-init
loop-index-init g c =
    rw c.new-found.ensures.items (begins g.T.EntryKind.read_at (g.T.EntryKind.serves c.args.locale.now) c.args.key c.next.new.self)

pub loop-index-preserved : goal.loop-index-preserved
loop-index-preserved g c =
    let l = c.loop-index in
    let entry = c.in_ok-entry.entry in
    let serves = g.T.EntryKind.serves c.args.locale.now in
    let more = one_more g.T.EntryKind.read_at serves c.args.key c.next.new.self l.index l.reader c.owned.new.reader l.found.items (view c.in_ok-value.value)
    entry c.if-take_end_array.ensures.0 (rw c.if-take_end_array.ensures.1 at c.in_ok-value.ensures) c.in_ok-entry.ensures l.invariant in
    elim c.if-serves.branch [
      | then-serves+in_ok-push w ↦
          let is : c.if-serves.found.items ≡ l.found.items ++ kept_by (serves entry) entry =
          ap (λ f. f.items) w.found-is ∙ w.in_ok-push.ensures.items
          ∙ kept_if l.found.items entry (serves entry) (sym c.serves.ensures ∙ w.if-serves.true) in
          rw is more
      | else-serves w ↦
          let is : c.if-serves.found.items ≡ l.found.items ++ kept_by (serves entry) entry =
          ap (λ f. f.items) w.found-is ∙ kept_unless l.found.items entry (serves entry) (sym c.serves.ensures ∙ w.if-serves.false) in
          rw is more
    ]

pub returns-then-take_end_array : goal.returns-then-take_end_array
returns-then-take_end_array g c =
    let l = c.loop-index in
    let opening = c.in-Some-BeginArray in
    let first : c.args.reader.now ≡ Token.begin_array ∷ c.next.new.self =
    opening.ensures.value ∙ ap (λ t. token_of t ∷ c.next.new.self) opening.field-0-is in
    let read = all_read g.T.EntryKind.read_at (g.T.EntryKind.serves c.args.locale.now) c.args.key c.next.new.self l.index l.reader c.take_end_array.new.self
    l.found.items c.if-take_end_array.ensures l.invariant in
    rw first read
