use Rattle.number_rounding.proofs.showing.shown.Goals as goal

pub returns-in-Ok-clause-shown : goal.returns-in-Ok-clause-shown
returns-in-Ok-clause-shown g c = rw c.in-Ok.ensures.equal at c.shown_of.ensures.shown

pub returns-in-Ok-clause-overflow : goal.returns-in-Ok-clause-overflow
returns-in-Ok-clause-overflow g c = rw c.in-Ok.ensures.equal at c.shown_of.ensures.overflow

pub returns-in-Ok-clause-within : goal.returns-in-Ok-clause-within
returns-in-Ok-clause-within g c = rw c.in-Ok.ensures.equal at c.shown_of.ensures.within
