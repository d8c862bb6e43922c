use Rattle.std.proofs.Common.{arith}
use Rattle.icu_dimension_data.proofs.Affixes.{affix_events-drop}
use Rattle.icu_dimension_data.proofs.affix_texts.KeptTexts.write_tokens.Goals as goal

pub returns-in_err-write_token : goal.returns-in_err-write_token
returns-in_err-write_token g c =
    let step = affix_events-drop c.args.self.now c.args.tokens.now c.loop-token.token-index _ (omega arith) in
    c.loop-token.invariant _ _ (rw step (g.met.K.EventWriter.stop _ _ _ _ _ _ c.from_residual.ensures.0 c.in_err-write_token.ensures))

pub loop-token-preserved : goal.loop-token-preserved
loop-token-preserved g c = λ r end h.
    let step = affix_events-drop c.args.self.now c.args.tokens.now c.loop-token.token-index _ (omega arith) in
    c.loop-token.invariant r end (rw step (g.met.K.EventWriter.then _ _ _ _ _ _ c.in_ok-write_token.ensures h))
