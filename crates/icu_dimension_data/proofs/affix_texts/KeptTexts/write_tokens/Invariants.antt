use Rattle.std.proofs.Common.{drop, Result}
use Rattle.writeable.specs.declared.sink.WriteFault.{WriteFault}
use Rattle.icu_dimension_data.specs.Surrounding.{affix_events}
use Rattle.icu_dimension_data.proofs.affix_texts.KeptTexts.write_tokens.Given as goal

-- whoever writes the tokens that are left has written all
abbrev pub invariant-loop-token : goal.invariant-loop-token
invariant-loop-token g l =
    (r : Result (Unit {0}) WriteFault) (end : _) →
    g.K.EventWriter.wrote l.out r (affix_events l.self (drop l.token-index l.tokens)) end →
    g.K.EventWriter.wrote l.fn.out r (affix_events l.self l.tokens) end
