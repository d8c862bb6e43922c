use Rattle.std.proofs.Common.{◌≡◌, ℕ, suc, List, length, Option, Some, None}
use Rattle.std.specs.Prelude.{map, option_map}
use Rattle.locnum_lines.specs.Named.{column_from}
use Rattle.locnum_ranges.specs.Contents.{column_named, name_in}
use Rattle.locnum_ranges.specs.Fields.{fields_of_rest}
use Rattle.locnum_ranges.proofs.columns.column_named.Given as goal

-- how many bytes are left
abbrev pub left : Option (List ℕ) → ℕ
left None = 0
left (Some bytes) = suc (length bytes)

abbrev pub invariant-loop-next : goal.invariant-loop-next
invariant-loop-next l = column_named l.delimiter l.name l.header
    ≡ column_from l.index l.name (map (λ field. name_in l.delimiter field.text) (fields_of_rest l.delimiter (option_map (λ s. s.now) l.next)))

abbrev pub decreases-loop-next : goal.decreases-loop-next
decreases-loop-next l = left (option_map (λ s. s.now) l.next)
