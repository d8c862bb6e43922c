use Rattle.std.proofs.Common.{◌≡◌, ◌++◌, drop}
use Rattle.clap.specs.Matches.{found_of}
use Rattle.locnum.specs.Matched.{given_among, seen}
use Rattle.locnum.proofs.command.given_among.Given as goal

-- the options so far are given before those that are left
abbrev pub invariant-loop-entry : goal.invariant-loop-entry
invariant-loop-entry l =
    given_among (found_of l.matches) l.entries ≡ seen l.given.items ++ given_among (found_of l.matches) (drop l.entry-index l.entries)
