use Rattle.locnum_explain.proofs.EntryTexts.{entry_text-at}
use Rattle.locnum_explain.proofs.facts.push_entry_at.Goals as goal

pub returns : goal.returns
returns c =
    rw (← entry_text-at c.args.table.now c.args.index c.requires, ← c.log10_type.ensures, ← c.exponent.ensures)
    c.push_type_and_exponent.ensures
