use Rattle.std.proofs.Common.{◌≡◌, ◌++◌, ℕ, List, Some, length}
use Rattle.decimal_lines.specs.LineResults.{text_result}
use Rattle.decimal_lines.specs.Written.{Feeds}
use Rattle.decimal_lines.proofs.blocks.take_block.Given as goal

abbrev pub invariant-loop-n : goal.invariant-loop-n
invariant-loop-n l = (done : List ℕ) × (l.block ≡ done ++ l.rest)
    × Feeds (text_result l.mode) (Some l.fn.out.items) (Some l.out.items) l.fn.held.items done l.held.items

abbrev pub decreases-loop-n : goal.decreases-loop-n
decreases-loop-n l = length l.rest
