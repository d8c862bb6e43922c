use Rattle.std.proofs.Common.{◌≡◌, ℕ, suc, ◌++◌, List, [], length, Option, Some, None}
use Rattle.std.specs.Prelude.{option_map}
use Rattle.locnum_ranges.specs.Fields.{fields_in, fields_of_rest}
use Rattle.locnum_ranges.specs.Written.{fields_written}
use Rattle.locnum_ranges.proofs.writing.push_fields.Given as goal

-- how many bytes are left
abbrev pub left : Option (List ℕ) → ℕ
left None = 0
left (Some bytes) = suc (length bytes)

abbrev pub invariant-loop-next : goal.invariant-loop-next
invariant-loop-next l = l.fn.out.items ++ fields_written l.settings l.fields (option_map (λ s. s.now) l.range) 1 []
    (fields_in l.settings.delimiter l.record)
    ≡ l.out.items ++ fields_written l.settings l.fields (option_map (λ s. s.now) l.range) l.index l.before
    (fields_of_rest l.settings.delimiter (option_map (λ s. s.now) l.next))

abbrev pub decreases-loop-next : goal.decreases-loop-next
decreases-loop-next l = left (option_map (λ s. s.now) l.next)
