use Rattle.std.proofs.Common.{ℕ, suc, List, length, Option, Some, None}
use Rattle.std.specs.Prelude.{option_map}
use Rattle.locnum_lines.specs.FieldRuns.{fields_ran}
use Rattle.locnum_lines.specs.Fields.{fields_from}
use Rattle.locnum_lines.specs.declared.cutting.FieldState.TheVariants.{Front}
use Rattle.locnum_lines.proofs.Goes.{InLine}
use Rattle.locnum_lines.proofs.line.push_fields.Given as goal

-- how many bytes are left
abbrev pub left : Option (List ℕ) → ℕ
left None = 0
left (Some bytes) = suc (length bytes)

abbrev pub invariant-loop-next : goal.invariant-loop-next
invariant-loop-next l = InLine l.settings l.form (fields_ran l.settings l.form l.fn.gathered.stage 1 (fields_from l.settings.delimiter Front l.line))
    l.fn.gathered l.gathered l.index (option_map (λ s. s.now) l.next)

abbrev pub decreases-loop-next : goal.decreases-loop-next
decreases-loop-next l = left (option_map (λ s. s.now) l.next)
