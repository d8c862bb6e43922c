use Rattle.std.proofs.Common.{refl, ◌++◌, [], List, ℕ, take, arith}
use Rattle.std.proofs.lemmas.Result.{on_ok_weaker, on_err_weaker}
use Rattle.decimal_lines.specs.LineResults.{text_result}
use Rattle.decimal_lines.specs.Written.{Feeds}
use Rattle.decimal_lines.proofs.Known.{Consumes-then, Consumes-keeps, Consumes-nothing, Consumes-none}
use Rattle.decimal_lines.proofs.Fed.{Feeds-nothing, Feeds-then, Feeds-breaks, Feeds-written, Feeds-unwritten}
use Rattle.decimal_lines.proofs.Runs.{stops, breaks, pauses, proper, ends, ends_early, ends_begun}
use Rattle.std.specs.Io.KnownBytes.{Consumes}
use Rattle.decimal_lines.proofs.running.run_by.Given.{Over}
use Rattle.decimal_lines.proofs.running.run_by.Goals as goal
use Rattle.decimal_lines.proofs.running.run_by.Goals.{
  else-loop-test,
  then-loop-test+in-Ok+else-n-eq0+in-Ok-take_block+in-Ok-write_piece+else-counter-lt18446744073709551615,
}

pub loop-init : goal.loop-init
loop-init g c = ([], Consumes-nothing _, rw c.new-held.ensures.items (Feeds-nothing _ _ _ tt))

pub returns-in_default-clause-err : goal.returns-in_default-clause-err
returns-in_default-clause-err g c = let i = c.loop.invariant in pauses _ _ _ _ _ i.0 _ i.1 i.2

pub returns-in_default-clause-read : goal.returns-in_default-clause-read
returns-in_default-clause-read g c = λ e. let i = c.loop.invariant in stops _ _ _ _ _ i.0 _ (Consumes-keeps _ _ _ i.0 i.1 c.in_default.ensures.bytes) i.2

pub returns-then-n-eq0-clause-ok : goal.returns-then-n-eq0-clause-ok
returns-then-n-eq0-clause-ok g c =
    let i = c.loop.invariant in
    let r = rw c.if-n-eq0.true at c.in-Ok.ensures.bytes in
    let ok = rw c.deref.ensures.value at c.finish.ensures.ok in
    on_ok_weaker c.finish.result (λ a. ends _ _ _ i.0 _ i.2 _ _ _ (Consumes-none _ _ _ i.0 i.1 r.0) (r.1 refl (omega arith)) a) ok

pub returns-then-n-eq0-clause-err : goal.returns-then-n-eq0-clause-err
returns-then-n-eq0-clause-err g c =
    let i = c.loop.invariant in
    let r = rw c.if-n-eq0.true at c.in-Ok.ensures.bytes in
    let err = rw c.deref.ensures.value at c.finish.ensures.err in
    on_err_weaker c.finish.result (λ a. ends_begun _ _ _ i.0 _ i.2 _ _ _ (Consumes-none _ _ _ i.0 i.1 r.0) (r.1 refl (omega arith)) a) err

pub returns-then-n-eq0-clause-write : goal.returns-then-n-eq0-clause-write
returns-then-n-eq0-clause-write g c =
    let i = c.loop.invariant in
    let r = rw c.if-n-eq0.true at c.in-Ok.ensures.bytes in
    let write = rw c.deref.ensures.value at c.finish.ensures.write in
    λ e. ends_early _ _ _ i.0 _ i.2 _ _ _ (Consumes-none _ _ _ i.0 i.1 r.0) (r.1 refl (omega arith)) (write e)

pub returns-in_default-take_block-clause-err : goal.returns-in_default-take_block-clause-err
returns-in_default-take_block-clause-err g c = let i = c.loop.invariant in pauses _ _ _ _ _ i.0 _ i.1 i.2

pub returns-in_default-write_piece-clause-err : goal.returns-in_default-write_piece-clause-err
returns-in_default-write_piece-clause-err g c =
    let i = c.loop.invariant in
    let chunk = take c.in-Ok.n c.read.new.buf in
    let fed = rw c.clear.ensures.items at c.in-Ok-take_block.ensures in
    let cut = rw c.deref-in-loop.ensures.value at c.in_default-write_piece.ensures.err in
    proper _ _ _ _ (breaks _ _ _ _ _ (i.0 ++ chunk) (Consumes-then _ _ _ i.0 _ i.1 c.in-Ok.ensures.bytes.0)
    (Feeds-breaks _ _ _ _ [] i.0 c.loop.held.items chunk i.2 (Feeds-unwritten _ _ _ c.loop.held.items chunk _ _ fed cut)))

pub returns-in_default-write_piece-clause-write : goal.returns-in_default-write_piece-clause-write
returns-in_default-write_piece-clause-write g c =
    let i = c.loop.invariant in
    let chunk = take c.in-Ok.n c.read.new.buf in
    let fed = rw c.clear.ensures.items at c.in-Ok-take_block.ensures in
    let cut = rw c.deref-in-loop.ensures.value at c.in_default-write_piece.ensures.err in
    λ _. breaks _ _ _ _ _ (i.0 ++ chunk) (Consumes-then _ _ _ i.0 _ i.1 c.in-Ok.ensures.bytes.0)
    (Feeds-breaks _ _ _ _ [] i.0 c.loop.held.items chunk i.2 (Feeds-unwritten _ _ _ c.loop.held.items chunk _ _ fed cut))

pub loop-preserved : goal.loop-preserved
loop-preserved g c =
    let i = c.loop.invariant in
    let chunk = take c.in-Ok.n c.read.new.buf in
    let fed = rw c.clear.ensures.items at c.in-Ok-take_block.ensures in
    let all = rw c.deref-in-loop.ensures.value at c.in-Ok-write_piece.ensures.ok in (
      i.0 ++ chunk,
      Consumes-then _ _ _ i.0 _ i.1 c.in-Ok.ensures.bytes.0,
      Feeds-then _ _ _ _ [] i.0 c.loop.held.items chunk _ i.2 (Feeds-written _ _ _ c.loop.held.items chunk _ _ fed all),
    )

-- what holds after the last turn
ends_so : (g : Over) (c : goal.After-drop-held-2 g) → (got : List ℕ)
    × Consumes (g.R.Read.remaining c.args.reader.now) (g.R.Read.remaining c.loop-test.reader) got
    × Feeds (text_result c.args.mode.now) (g.W.Write.contents c.args.writer.now) (g.W.Write.contents c.loop-test.writer) [] got c.loop-test.held.items
ends_so g c = elim c.loop-test.branch [
  | else-loop-test w ↦ rw (w.reader-is, w.writer-is, w.held-is) c.loop.invariant
  | then-loop-test+in-Ok+else-n-eq0+in-Ok-take_block+in-Ok-write_piece+else-counter-lt18446744073709551615 w ↦
      let i = c.loop.invariant in
      let chunk = take w.in-Ok.n w.read.new.buf in
      let fed = rw w.clear.ensures.items at w.in-Ok-take_block.ensures in
      let all = rw w.deref-in-loop.ensures.value at w.in-Ok-write_piece.ensures.ok in
      rw (w.reader-is, w.writer-is, w.held-is) (
        i.0 ++ chunk,
        Consumes-then _ _ _ i.0 _ i.1 w.in-Ok.ensures.bytes.0,
        Feeds-then _ _ _ _ [] i.0 c.loop.held.items chunk _ i.2 (Feeds-written _ _ _ c.loop.held.items chunk _ _ fed all),
      )
]

pub returns-clause-err : goal.returns-clause-err
returns-clause-err g c = let i = ends_so g c in pauses _ _ _ _ _ i.0 _ i.1 i.2

pub returns-clause-read : goal.returns-clause-read
returns-clause-read g c = λ e. let i = ends_so g c in stops _ _ _ _ _ i.0 _ i.1 i.2
