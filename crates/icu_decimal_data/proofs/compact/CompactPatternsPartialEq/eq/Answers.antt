use Rattle.std.proofs.Common.{◌∙◌}
use Rattle.icu_decimal_data.proofs.TableCalls.{same_bytes}
use Rattle.icu_decimal_data.proofs.compact.CompactPatternsPartialEq.eq.Goals as goal

pub returns : goal.returns
returns g c = rw (← c.self.view_is, ← c.other.view_is) (c.eq.ensures
    ∙ same_bytes g.P.PatternBackend.accepted c.self.inside.bytes.items c.other.inside.bytes.items c.self.invariant c.other.invariant)
