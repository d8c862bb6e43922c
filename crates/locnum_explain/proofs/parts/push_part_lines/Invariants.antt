use Rattle.std.proofs.Common.{◌≡◌, ◌++◌, map, take}
use Rattle.std.specs.List.{flat_map}
use Rattle.writeable.specs.PartSpans.{span}
use Rattle.locnum_explain.specs.Parts.{part_line}
use Rattle.locnum_explain.proofs.parts.push_part_lines.Given as goal

abbrev pub invariant-loop-part : goal.invariant-loop-part
invariant-loop-part l = l.out.items ≡ l.fn.out.items ++ flat_map (part_line l.is_marked l.text) (map span (take l.part-index l.parts))
