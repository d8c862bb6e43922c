use Rattle.std.proofs.Common.{◌≡◌, ◌++◌, drop}
use Rattle.locnum_lines.specs.Csv.{content_from}
use Rattle.locnum_lines.specs.declared.cutting.FieldState.TheVariants.{Front}
use Rattle.locnum_lines.proofs.csv.content_of.Given as goal

abbrev pub invariant-loop-byte : goal.invariant-loop-byte
invariant-loop-byte l = content_from Front l.text ≡ l.content.items ++ content_from l.state (drop l.byte-index l.text)
