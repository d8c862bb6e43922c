use Rattle.std.proofs.Common.{◌≡◌, drop, map}
use Rattle.locnum_options.specs.Names.{are_names}
use Rattle.locnum_options.proofs.names.are_names.Given as goal

-- the parts are names if those that are left are
abbrev pub invariant-loop-part : goal.invariant-loop-part
invariant-loop-part l = are_names (map (λ t. t.now) l.parts) ≡ are_names (map (λ t. t.now) (drop l.part-index l.parts))
