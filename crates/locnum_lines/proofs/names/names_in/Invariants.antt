use Rattle.std.proofs.Common.{◌≡◌, ℕ, suc, ◌++◌, List, length, Option, Some, None}
use Rattle.std.specs.Prelude.{map, option_map}
use Rattle.locnum_lines.specs.Stage.{names_in, names_of_rest}
use Rattle.locnum_lines.proofs.names.names_in.Given as goal

-- how many bytes are left
abbrev pub left : Option (List ℕ) → ℕ
left None = 0
left (Some bytes) = suc (length bytes)

abbrev pub invariant-loop-next : goal.invariant-loop-next
invariant-loop-next l = names_in l.delimiter l.line
    ≡ map (λ v. v.items) l.names.items ++ names_of_rest l.delimiter (option_map (λ s. s.now) l.next)

abbrev pub decreases-loop-next : goal.decreases-loop-next
decreases-loop-next l = left (option_map (λ s. s.now) l.next)
