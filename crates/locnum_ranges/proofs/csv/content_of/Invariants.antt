use Rattle.std.proofs.Common.{◌≡◌, ◌++◌, drop}
use Rattle.locnum_ranges.specs.Contents.{content_from}
use Rattle.locnum_ranges.specs.declared.cutting.Place.TheVariants.{Front}
use Rattle.locnum_ranges.proofs.csv.content_of.Given as goal

abbrev pub invariant-loop-byte : goal.invariant-loop-byte
invariant-loop-byte l = content_from Front l.text ≡ l.content.items ++ content_from l.place (drop l.byte-index l.text)
