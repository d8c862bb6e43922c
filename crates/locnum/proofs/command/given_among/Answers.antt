use Rattle.std.proofs.Common.{sym, ◌∙◌, arith}
use Rattle.std.proofs.lemmas.List.{append-nil, drop_all}
use Rattle.clap.specs.Matches.{found_of}
use Rattle.locnum.specs.Matched.{given_among, seen}
use Rattle.locnum.proofs.Collected.{collected-more}
use Rattle.locnum.proofs.command.given_among.Goals as goal

pub loop-entry-preserved : goal.loop-entry-preserved
loop-entry-preserved c =
    c.loop-entry.invariant
    ∙ collected-more (found_of c.args.matches.now) c.args.entries.now c.loop-entry.entry-index _ (seen c.loop-entry.given.items)
    (seen c.push_given.new.given.items) (omega arith) c.in_ok-push_given.ensures

pub returns : goal.returns
unfolding given_among
returns c =
    sym (c.loop-entry.invariant ∙ rw (drop_all c.loop-entry.entry-index c.args.entries.now (omega arith)) (append-nil (seen c.loop-entry.given.items)))
