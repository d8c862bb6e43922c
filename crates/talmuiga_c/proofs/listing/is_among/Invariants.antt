use Rattle.std.proofs.Common.{◌≡◌, map, drop}
use Rattle.talmuiga_c.specs.Listing.{is_among}
use Rattle.talmuiga_c.proofs.listing.is_among.Given as goal

-- the names that are left decide
abbrev pub invariant-loop-other : goal.invariant-loop-other
invariant-loop-other l = is_among l.name (map (λ text. text.now) (drop l.other-index l.names)) ≡ is_among l.name (map (λ text. text.now) l.names)
