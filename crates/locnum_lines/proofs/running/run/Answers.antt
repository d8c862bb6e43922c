use Rattle.std.proofs.Common.{◌≡◌, ℕ, List, drop, take, ap, ◌∙◌, subst}
use Rattle.std.specs.Prelude.{IfSome}
use Rattle.std.specs.Io.KnownBytes.{Appends, prepend_known}
use Rattle.std.proofs.lemmas.Result.{IfOk-weaker, on_err_weaker}
use Rattle.decimal_lines.specs.Written.{AppendsBeginning}
use Rattle.locnum_lines.specs.Front.{mark_length}
use Rattle.locnum_lines.specs.RecordRuns.{rest_ran}
use Rattle.locnum_lines.specs.Reported.{Begins, Ends}
use Rattle.locnum_lines.proofs.Marked.{any_beginning, begins-in_mark, begins-marked, ends-marked}
use Rattle.locnum_lines.proofs.running.run.Goals as goal

pub returns-in_default-write_piece-clause-err : goal.returns-in_default-write_piece-clause-err
returns-in_default-write_piece-clause-err g c =
    let settings = c.args.settings.now in
    let items = c.in_ok-front.front.items in
    let n : c.mark_length.result ≡ mark_length settings.source items =
    c.mark_length.ensures ∙ ap (mark_length c.settings.inside.source) c.deref-2.ensures.value ∙ ap (λ s. mark_length s.source items) c.settings.view_is in
    let mark : c.split_at.result.0.now ≡ take (mark_length settings.source items) items =
    c.split_at.ensures.front ∙ ap (λ (k : List ℕ). take c.mark_length.result k) c.deref.ensures.value ∙ ap (λ (k : ℕ). take k items) n in
    begins-in_mark settings c.args.form.now items _ _ (g.W.Write.contents c.args.writer.now) (g.W.Write.contents c.write_piece.new.writer)
    (g.W.Write.contents c.write_piece.new.writer) (g.N.Write.contents c.args.notes.now) (g.N.Write.contents c.args.notes.now)
    c.in_ok-front.ensures.bytes c.in_ok-front.ensures.enough
    (subst (λ (k : List ℕ). AppendsBeginning (g.W.Write.contents c.args.writer.now) (g.W.Write.contents c.write_piece.new.writer) k) mark
    (any_beginning _ _ _ c.in_default-write_piece.ensures.err))

pub returns-clause-ok : goal.returns-clause-ok
returns-clause-ok g c =
    let settings = c.args.settings.now in
    let items = c.in_ok-front.front.items in
    let n : c.mark_length.result ≡ mark_length settings.source items =
    c.mark_length.ensures ∙ ap (mark_length c.settings.inside.source) c.deref-2.ensures.value ∙ ap (λ s. mark_length s.source items) c.settings.view_is in
    let mark : c.split_at.result.0.now ≡ take (mark_length settings.source items) items =
    c.split_at.ensures.front ∙ ap (λ (k : List ℕ). take c.mark_length.result k) c.deref.ensures.value ∙ ap (λ (k : ℕ). take k items) n in
    let rest : c.split_at.result.1.now ≡ drop (mark_length settings.source items) items =
    c.split_at.ensures.back ∙ ap (λ (k : List ℕ). drop c.mark_length.result k) c.deref.ensures.value ∙ ap (λ (k : ℕ). drop k items) n in
    let w = g.W.Write.contents c.args.writer.now in
    let w1 = g.W.Write.contents c.write_piece.new.writer in
    let w2 = g.W.Write.contents c.run_by.new.writer in
    let n1 = g.N.Write.contents c.args.notes.now in
    let n2 = g.N.Write.contents c.run_by.new.notes in
    let r1 = g.R.Read.remaining c.read_front.new.reader in
    let left = g.R.Read.remaining c.run_by.new.reader in
    let written = subst (λ (k : List ℕ). Appends w w1 k) mark c.in-Ok-write_piece.ensures.ok in
    IfOk-weaker c.run_by.result _ _ (λ report f. ends-marked settings c.args.form.now items _ r1 w w1 w2 n1 n2 report left left
    c.in_ok-front.ensures.bytes c.in_ok-front.ensures.enough written (λ e. e)
    (subst (λ (k : List ℕ). IfSome (prepend_known k r1) (λ input. Ends (rest_ran settings c.args.form.now input) w1 w2 n1 n2 report left)) rest f))
    c.run_by.ensures.ok

pub returns-clause-err : goal.returns-clause-err
returns-clause-err g c =
    let settings = c.args.settings.now in
    let items = c.in_ok-front.front.items in
    let n : c.mark_length.result ≡ mark_length settings.source items =
    c.mark_length.ensures ∙ ap (mark_length c.settings.inside.source) c.deref-2.ensures.value ∙ ap (λ s. mark_length s.source items) c.settings.view_is in
    let mark : c.split_at.result.0.now ≡ take (mark_length settings.source items) items =
    c.split_at.ensures.front ∙ ap (λ (k : List ℕ). take c.mark_length.result k) c.deref.ensures.value ∙ ap (λ (k : ℕ). take k items) n in
    let rest : c.split_at.result.1.now ≡ drop (mark_length settings.source items) items =
    c.split_at.ensures.back ∙ ap (λ (k : List ℕ). drop c.mark_length.result k) c.deref.ensures.value ∙ ap (λ (k : ℕ). drop k items) n in
    let w = g.W.Write.contents c.args.writer.now in
    let w1 = g.W.Write.contents c.write_piece.new.writer in
    let w2 = g.W.Write.contents c.run_by.new.writer in
    let n1 = g.N.Write.contents c.args.notes.now in
    let n2 = g.N.Write.contents c.run_by.new.notes in
    let r1 = g.R.Read.remaining c.read_front.new.reader in
    let written = subst (λ (k : List ℕ). Appends w w1 k) mark c.in-Ok-write_piece.ensures.ok in
    on_err_weaker c.run_by.result (λ f. begins-marked settings c.args.form.now items _ r1 w w1 w2 n1 n2
    c.in_ok-front.ensures.bytes c.in_ok-front.ensures.enough written
    (subst (λ (k : List ℕ). IfSome (prepend_known k r1) (λ input. Begins (rest_ran settings c.args.form.now input) w1 w2 n1 n2)) rest f))
    c.run_by.ensures.err
