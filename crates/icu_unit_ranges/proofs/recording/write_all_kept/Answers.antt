use Rattle.std.proofs.Common.{arith, subst, sym}
use Rattle.icu_unit_ranges.proofs.KeptSteps.{kept_from}
use Rattle.icu_unit_ranges.proofs.recording.write_all_kept.Goals as goal

-- an event that isn't written ends the writing of all that are left
pub returns-in_err-write_kept : goal.returns-in_err-write_kept
returns-in_err-write_kept g c =
    c.loop-event.invariant _ _ (subst (λ es. g.K.EventWriter.wrote c.loop-event.out c.from_residual.result es c.write_kept.new.out)
    (sym (kept_from c.args.kept.now c.loop-event.event-index _ (omega arith)))
    (g.met.K.EventWriter.stop _ _ _ _ _ _ c.from_residual.ensures.0 c.in_err-write_kept.ensures))

-- an event is written, and then those behind it
pub loop-event-preserved : goal.loop-event-preserved
loop-event-preserved g c = λ r end h.
    c.loop-event.invariant r end (subst (λ es. g.K.EventWriter.wrote c.loop-event.out r es end)
    (sym (kept_from c.args.kept.now c.loop-event.event-index _ (omega arith)))
    (g.met.K.EventWriter.then _ _ _ _ _ _ c.in_ok-write_kept.ensures h))
