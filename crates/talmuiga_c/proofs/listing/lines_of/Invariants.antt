use Rattle.std.proofs.Common.{◌≡◌, ◌++◌, map, drop}
use Rattle.talmuiga_c.specs.Listing.{lines_of}
use Rattle.talmuiga_c.proofs.listing.lines_of.Given as goal

-- the lines so far and those of the names that are left are all
abbrev pub invariant-loop-name : goal.invariant-loop-name
invariant-loop-name l = l.lines.items ++ lines_of (map (λ text. text.now) (drop l.name-index l.names)) ≡ lines_of (map (λ text. text.now) l.names)
