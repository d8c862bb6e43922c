use Rattle.std.proofs.Common.{◌≡◌, ℕ, suc, ◌++◌, List, length, Option, Some, None}
use Rattle.std.specs.Prelude.{option_map}
use Rattle.locnum_ranges.specs.Fields.{fields_in, fields_of_rest}
use Rattle.locnum_ranges.specs.Written.{front_written}
use Rattle.locnum_ranges.proofs.writing.push_front.Given as goal

-- how many bytes are left
abbrev pub left : Option (List ℕ) → ℕ
left None = 0
left (Some bytes) = suc (length bytes)

abbrev pub invariant-loop-next : goal.invariant-loop-next
invariant-loop-next l = l.fn.out.items ++ front_written l.first 1 (fields_in l.delimiter l.record)
    ≡ l.out.items ++ front_written l.first l.index (fields_of_rest l.delimiter (option_map (λ s. s.now) l.next))

abbrev pub decreases-loop-next : goal.decreases-loop-next
decreases-loop-next l = left (option_map (λ s. s.now) l.next)
