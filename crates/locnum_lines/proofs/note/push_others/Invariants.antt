use Rattle.std.proofs.Common.{◌≡◌, ◌++◌, codes, map, take}
use Rattle.std.specs.List.{flat_map}
use Rattle.number_forms.specs.Reported.{reported}
use Rattle.locnum_lines.proofs.note.push_others.Given as goal

abbrev pub invariant-loop-name : goal.invariant-loop-name
invariant-loop-name l =
    l.notes.items ≡ l.fn.notes.items ++ flat_map (λ name. codes ", " ++ reported name) (map (λ s. s.now) (take l.name-index l.names))
