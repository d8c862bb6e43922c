use Rattle.std.proofs.Common.{sym, ◌∙◌}
use Rattle.icu_plurals_conditions.proofs.Steps.{reads-start, reads-goes_on, reads-next, reads-end, ok_reads}
use Rattle.icu_plurals_conditions.proofs.Judged.{read_spells}
use Rattle.icu_plurals_conditions.proofs.reader.read_condition.Goals as goal

pub loop-found-init : goal.loop-found-init
loop-found-init c = reads-start _ _ _ c.part-rest.ensures c.new-draft.ensures

-- a text without a fault goes on
pub unreachable-requires : goal.unreachable-requires
unreachable-requires c = reads-goes_on _ _ _ _ _ c.loop-found.invariant c.in-Some.ensures c.requires (sym c.next.ensures ∙ c.in-None.is)

pub loop-found-preserved : goal.loop-found-preserved
loop-found-preserved c = reads-next _ _ _ _ _ _ _ _ c.loop-found.invariant c.in-Some.ensures (sym c.next.ensures ∙ c.in-Some-next.is) c.split_at.ensures.back
    c.in_ok-take.ensures.taken

pub returns-clause-read : goal.returns-clause-read
returns-clause-read c = ok_reads _ _ _ c.finish.ensures.completed (reads-end _ _ _ _ c.loop-found.invariant c.in_default.ensures c.requires)

pub returns-clause-spelled : goal.returns-clause-spelled
returns-clause-spelled c = read_spells _ _ _ (ok_reads _ _ _ c.finish.ensures.completed
    (reads-end _ _ _ _ c.loop-found.invariant c.in_default.ensures c.requires))
