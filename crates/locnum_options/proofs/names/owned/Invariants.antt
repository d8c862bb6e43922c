use Rattle.std.proofs.Common.{◌≡◌, take, map, string_bytes}
use Rattle.locnum_options.proofs.names.owned.Given as goal

-- the names so far are those of the parts so far
abbrev pub invariant-loop-part : goal.invariant-loop-part
invariant-loop-part l = map string_bytes l.names.items ≡ map (λ t. t.now) (take l.part-index l.parts)
