use Rattle.std.proofs.Common.{◌≡◌, ◌≤◌, ◌-◌, ◌++◌, drop, length, take}
use Rattle.std.specs.Prelude.{map}
use Rattle.locnum_lines.specs.Nearest.{with_name}
use Rattle.locnum_lines.proofs.nearest.index_for.Given as goal

abbrev pub invariant-loop-index : goal.invariant-loop-index
invariant-loop-index l =
    (l.index ≤ length l.near)
    × (with_name l.wanted l.name (map (λ s. s.now) l.near)
    ≡ take l.index (map (λ s. s.now) l.near) ++ with_name l.wanted l.name (drop l.index (map (λ s. s.now) l.near)))

abbrev pub decreases-loop-index : goal.decreases-loop-index
decreases-loop-index l = length l.near - l.index
