use Rattle.std.proofs.Common.{◌≡◌, ◌+◌, length}
use Rattle.std.specs.Prelude.{map}
use Rattle.locnum_lines.specs.Named.{column_from}
use Rattle.locnum_lines.proofs.columns.column_of.Given as goal

abbrev pub invariant-loop-column : goal.invariant-loop-column
invariant-loop-column l =
    (column_from 1 l.name (map (λ v. v.items) l.header) ≡ column_from l.index l.name (map (λ v. v.items) l.left))
    × (l.index + length l.left ≡ 1 + length l.header)

abbrev pub decreases-loop-column : goal.decreases-loop-column
decreases-loop-column l = length l.left
