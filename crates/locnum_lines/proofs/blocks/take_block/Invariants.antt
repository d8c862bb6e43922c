use Rattle.std.proofs.Common.{◌≡◌, ◌≤◌, ◌++◌, ℕ, List, drop, length, false}
use Rattle.memchr.specs.Find.{is_byte, places_between}
use Rattle.locnum_lines.specs.Gathered.{Feeds}
use Rattle.locnum_lines.specs.Records.{state_behind}
use Rattle.locnum_lines.specs.declared.cutting.FieldState.TheVariants.{Front}
use Rattle.locnum_lines.proofs.blocks.take_block.Given as goal

abbrev pub invariant-loop-n : goal.invariant-loop-n
invariant-loop-n l = (done : List ℕ) × (l.block ≡ done ++ drop l.start l.block)
    × Feeds l.settings l.form l.fn.gathered l.gathered l.fn.held.items done l.held.items × (l.gathered.is_stopped ≡ false)
    × (l.state ≡ state_behind l.settings.delimiter Front l.held.items) × (l.start ≤ length l.block)
    × (l.n-iterator ≡ places_between (is_byte l.settings.end) l.block l.start (length l.block))
