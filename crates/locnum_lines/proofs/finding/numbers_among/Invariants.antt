use Rattle.std.proofs.Common.{◌≡◌, ◌++◌, length}
use Rattle.std.specs.Prelude.{map}
use Rattle.locnum_lines.specs.Finding.{found_from}
use Rattle.locnum_lines.proofs.finding.numbers_among.Given as goal

abbrev pub invariant-loop-content : goal.invariant-loop-content
invariant-loop-content l = found_from l.settings l.gathered.stage 1 (map (λ v. v.items) l.contents)
    ≡ l.found.items ++ found_from l.settings l.gathered.stage l.index (map (λ v. v.items) l.left)

abbrev pub decreases-loop-content : goal.decreases-loop-content
decreases-loop-content l = length l.left
