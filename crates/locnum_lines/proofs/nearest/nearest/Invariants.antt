use Rattle.std.proofs.Common.{◌≡◌, length}
use Rattle.std.specs.Prelude.{map}
use Rattle.locnum_lines.specs.Nearest.{nearest, nearest_of}
use Rattle.locnum_lines.proofs.nearest.nearest.Given as goal

abbrev pub invariant-loop-name : goal.invariant-loop-name
invariant-loop-name l =
    nearest l.wanted (map (λ v. v.items) l.header) ≡ nearest_of l.wanted (map (λ s. s.now) l.near.items) (map (λ v. v.items) l.left)

abbrev pub decreases-loop-name : goal.decreases-loop-name
decreases-loop-name l = length l.left
