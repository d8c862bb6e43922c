use Rattle.std.proofs.Common.{◌++◌, [], List, ℕ, Option, take, sym, ap, ◌∙◌}
use Rattle.std.specs.Io.KnownBytes.{Consumes, prepend_known}
use Rattle.std.proofs.lemmas.Result.{IfOk-weaker, on_err_weaker}
use Rattle.decimal_lines.proofs.Known.{Consumes-none, Consumes-nothing, Consumes-then}
use Rattle.locnum_lines.specs.declared.cutting.FieldState.TheVariants.{Front}
use Rattle.locnum_lines.proofs.Feeding.{state_behind-nothing}
use Rattle.locnum_lines.proofs.Marked.{prepend-end}
use Rattle.locnum_lines.proofs.Runs.{Went, Went-start, Went-then, any_err, breaks, ends, ends_early, known-end, pauses, report_of, stops}
use Rattle.locnum_lines.proofs.running.run_by.Given.{Over}
use Rattle.locnum_lines.proofs.running.run_by.Goals as goal
use Rattle.locnum_lines.proofs.running.run_by.Goals.{else-loop-test}
use Rattle.locnum_lines.proofs.running.run_by.Goals.{then-loop-test+in_ok-n+else-n-eq0+in-Ok+in_ok-flush+else-gathered+else-counter-lt18446744073709551615}

pub loop-init : goal.loop-init
loop-init g c = (
  [],
  Consumes-nothing _,
  rw (c.new-held.ensures.items, c.new-gathered.ensures, ← c.settings.view_is) (Went-start _ c.args.form.now _ _),
  ap (λ k. k.output) c.new-gathered.ensures,
  ap (λ k. k.notes) c.new-gathered.ensures,
  ap (λ k. k.is_stopped) c.new-gathered.ensures,
  rw c.new-held.ensures.items (sym (state_behind-nothing c.args.settings.now.delimiter c.args.settings.now.end Front)),
)

pub returns-in_err-n-clause-err : goal.returns-in_err-n-clause-err
returns-in_err-n-clause-err g c = let i = c.loop.invariant in any_err c.from_residual.result (pauses _ _ _ _ _ _ _ i.0 _ i.2 _ _ i.1)

pub returns-then-n-eq0-clause-ok : goal.returns-then-n-eq0-clause-ok
returns-then-n-eq0-clause-ok g c =
    let i = c.loop.invariant in
    let r = rw c.if-n-eq0.true at c.in_ok-n.ensures.bytes in
    let none = c.in_ok-n.ensures.none_left c.if-n-eq0.true in
    let end = c.in_ok-n.ensures.end c.if-n-eq0.true in
    let ok = rw c.deref.ensures.value at c.finish.ensures.ok in
    IfOk-weaker c.finish.result _ _ (λ report f. ends _ _ _ _ _ _ _ i.0 _ i.2 i.5 _ _ _ _ _ report (Consumes-none _ _ _ i.0 i.1 r)
    (prepend-end _ _ none end) (known-end _ _ end) f) ok

pub returns-then-n-eq0-clause-err : goal.returns-then-n-eq0-clause-err
returns-then-n-eq0-clause-err g c =
    let i = c.loop.invariant in
    let r = rw c.if-n-eq0.true at c.in_ok-n.ensures.bytes in
    let end = prepend-end _ _ (c.in_ok-n.ensures.none_left c.if-n-eq0.true) (c.in_ok-n.ensures.end c.if-n-eq0.true) in
    let err = rw c.deref.ensures.value at c.finish.ensures.err in
    on_err_weaker c.finish.result (λ f. ends_early _ _ _ _ _ _ _ i.0 _ i.2 i.5 _ _ _ _ (Consumes-none _ _ _ i.0 i.1 r) end f) err

pub returns-in_err-flush-clause-err : goal.returns-in_err-flush-clause-err
returns-in_err-flush-clause-err g c =
    let i = c.loop.invariant in
    let chunk = take c.in_ok-n.n c.read_more.new.block in
    any_err c.from_residual-in_err-flush.result (breaks _ _ _ _ _ _ _ _ _ _ _ _ i.0 _ chunk _ i.2 i.3 i.4 i.5 c.in-Ok.ensures.feeds
    (Consumes-then _ _ _ i.0 _ i.1 c.in_ok-n.ensures.bytes) c.in_err-flush.ensures.err_written c.in_err-flush.ensures.err_reported)

pub returns-then-gathered-clause-ok : goal.returns-then-gathered-clause-ok
returns-then-gathered-clause-ok g c =
    let i = c.loop.invariant in
    let chunk = take c.in_ok-n.n c.read_more.new.block in
    let went = Went-then _ _ _ _ _ _ _ _ _ _ i.0 _ chunk _ i.2 i.3 i.4 i.5 c.in-Ok.ensures.feeds c.in_ok-flush.ensures.written
    c.in_ok-flush.ensures.reported in
    stops _ _ _ _ _ _ _ (i.0 ++ chunk) _ went _ _ _ c.reported.result (Consumes-then _ _ _ i.0 _ i.1 c.in_ok-n.ensures.bytes)
    (ap (λ k. k.is_stopped) (sym c.in_ok-flush.ensures.ok) ∙ ap (λ k. k.is_stopped) (sym c.gathered-in-loop-2.view_is) ∙ c.if-gathered.true)
    (c.reported.ensures ∙ ap report_of c.in_ok-flush.ensures.ok)

pub loop-preserved : goal.loop-preserved
loop-preserved g c =
    let i = c.loop.invariant in
    let chunk = take c.in_ok-n.n c.read_more.new.block in
    let went = Went-then _ _ _ _ _ _ _ _ _ _ i.0 _ chunk _ i.2 i.3 i.4 i.5 c.in-Ok.ensures.feeds c.in_ok-flush.ensures.written
    c.in_ok-flush.ensures.reported in (
      i.0 ++ chunk,
      Consumes-then _ _ _ i.0 _ i.1 c.in_ok-n.ensures.bytes,
      rw c.in_ok-flush.ensures.ok went,
      ap (λ k. k.output) c.in_ok-flush.ensures.ok,
      ap (λ k. k.notes) c.in_ok-flush.ensures.ok,
      ap (λ k. k.is_stopped) (sym c.gathered-in-loop-2.view_is) ∙ c.if-gathered.false,
      c.in-Ok.ensures.state (ap (λ k. k.is_stopped) (sym c.in_ok-flush.ensures.ok) ∙ ap (λ k. k.is_stopped) (sym c.gathered-in-loop-2.view_is)
          ∙ c.if-gathered.false),
    )

-- what holds after the last turn
ends_so : (g : Over) (c : goal.After-drop-held-2 g) → (got : List ℕ)
    × ((left : Option (List ℕ)) × Consumes (prepend_known c.args.rest.now (g.R.Read.remaining c.args.reader.now)) left got)
    × Went c.args.settings.now c.args.form.now (g.W.Write.contents c.args.writer.now) (g.W.Write.contents c.loop-test.writer)
    (g.N.Write.contents c.args.notes.now) (g.N.Write.contents c.loop-test.notes) c.loop-test.gathered got c.loop-test.held.items
ends_so g c = elim c.loop-test.branch [
  | else-loop-test w ↦ let i = c.loop.invariant in rw (w.writer-is, w.notes-is, w.held-is, w.gathered-is) (i.0, (_, i.1), i.2)
  | then-loop-test+in_ok-n+else-n-eq0+in-Ok+in_ok-flush+else-gathered+else-counter-lt18446744073709551615 w ↦
      let i = c.loop.invariant in
      let chunk = take w.in_ok-n.n w.read_more.new.block in
      let went = Went-then _ _ _ _ _ _ _ _ _ _ i.0 _ chunk _ i.2 i.3 i.4 i.5 w.in-Ok.ensures.feeds w.in_ok-flush.ensures.written
      w.in_ok-flush.ensures.reported in
      rw (w.writer-is, w.notes-is, w.held-is, w.gathered-is) (
        i.0 ++ chunk,
        (_, Consumes-then _ _ _ i.0 _ i.1 w.in_ok-n.ensures.bytes),
        rw w.in_ok-flush.ensures.ok went,
      )
]

pub returns-clause-err : goal.returns-clause-err
returns-clause-err g c = let i = ends_so g c in pauses _ _ _ _ _ _ _ i.0 _ i.2 _ _ i.1.1

pub returns-in_default-clause-err : goal.returns-in_default-clause-err
returns-in_default-clause-err g c = let i = c.loop.invariant in pauses _ _ _ _ _ _ _ i.0 _ i.2 _ _ i.1

pub finish-requires-clause-state_is : goal.finish-requires-clause-state_is
finish-requires-clause-state_is g c = rw c.deref.ensures.value c.loop.invariant.6

pub take_block-taken-requires-clause-state_is : goal.take_block-taken-requires-clause-state_is
take_block-taken-requires-clause-state_is g c = c.loop.invariant.6
