use Rattle.std.proofs.Common.{◌≡◌, ◌++◌, length}
use Rattle.std.specs.Prelude.{map, string_bytes}
use Rattle.locnum_lines.specs.Named.{columns_named, missing_name}
use Rattle.locnum_lines.proofs.columns.push_columns.Given as goal

abbrev pub invariant-loop-name : goal.invariant-loop-name
invariant-loop-name l =
    (missing_name (map (λ v. v.items) l.header) (map string_bytes l.names)
    ≡ missing_name (map (λ v. v.items) l.header) (map string_bytes l.left))
    × (l.fn.columns.items ++ columns_named (map (λ v. v.items) l.header) (map string_bytes l.names)
    ≡ l.columns.items ++ columns_named (map (λ v. v.items) l.header) (map string_bytes l.left))

abbrev pub decreases-loop-name : goal.decreases-loop-name
decreases-loop-name l = length l.left
