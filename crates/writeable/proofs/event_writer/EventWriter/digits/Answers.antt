use Rattle.std.proofs.Common.{arith}
use Rattle.writeable.proofs.DigitEvents.{digit_events-drop}
use Rattle.writeable.proofs.event_writer.EventWriter.digits.Goals as goal

pub returns-in_err-character : goal.returns-in_err-character
returns-in_err-character g c =
    let step = digit_events-drop c.args.characters.now c.args.digits.now c.loop-digit.digit-index (omega arith) in
    c.loop-digit.invariant _ _ (rw step (g.met.Self.EventWriter.stop _ _ _ _ _ _ c.from_residual.ensures.0 c.in_err-character.ensures))

pub loop-digit-preserved : goal.loop-digit-preserved
loop-digit-preserved g c = λ r end h.
    let step = digit_events-drop c.args.characters.now c.args.digits.now c.loop-digit.digit-index (omega arith) in
    c.loop-digit.invariant r end (rw step (g.met.Self.EventWriter.then _ _ _ _ _ _ c.in_ok-character.ensures h))
