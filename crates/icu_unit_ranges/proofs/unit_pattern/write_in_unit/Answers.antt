use Rattle.std.proofs.Common.{Ok, sym, subst, ◌∙◌}
use Rattle.icu_dimension.proofs.UnitLiterals.{in_unit-empty, in_unit-written}
use Rattle.icu_unit_ranges.proofs.unit_pattern.write_in_unit.Goals as goal

pub returns-then-is_empty : goal.returns-then-is_empty
returns-then-is_empty g c = subst (λ es. g.K.EventWriter.wrote c.args.out.now (Ok tt) es c.args.out.now)
    (in_unit-empty c.args.text.now (sym c.is_empty.ensures ∙ c.if-is_empty.true)) (g.met.K.EventWriter.nothing c.args.out.now)

pub returns : goal.returns
returns g c = subst (λ es. g.K.EventWriter.wrote c.args.out.now c.part.result es c.part.new.self)
    (in_unit-written c.args.text.now c.utf8.text (sym c.is_empty.ensures ∙ c.if-is_empty.false)) c.part.ensures
