use Rattle.icu_tables.proofs.ForLocale.{GoesOn}
use Rattle.icu_tables.proofs.for_locale.served.Given as goal

abbrev pub invariant-loop-index : goal.invariant-loop-index
invariant-loop-index g l = GoesOn g.T.EntryKind.read_at (g.T.EntryKind.serves l.locale) l.key l.initial.reader l.index l.reader l.found.items
