-- Whether an entry displays a compact number: whether its magnitude has an index in the table.
use Rattle.std.proofs.Common.{◌≡◌, ℕ, suc, zero, ◌<◌, List, [], ◌∷◌, length, Option, Some, None, true, refl, sym, ap, ◌∙◌, arith}
use Rattle.std.specs.Prelude.{is_some, slice_get}
use Rattle.icu_decimal_data.specs.CompactTable.{IsIndex, TableEntry, entry_at}

is_there : (table : List TableEntry) (i : ℕ) → i < length table → is_some (slice_get table i) ≡ true
is_there [] i lt = absurd (omega arith)
is_there (e ∷ es) zero lt = refl
is_there (e ∷ es) (suc i) lt = is_there es i (omega arith)

-- an index stands for an entry, and none for none
pub some_at : (table : List TableEntry) (index : Option ℕ) (entry : Option TableEntry) → IsIndex table index → entry_at table index ≡ entry →
    is_some index ≡ is_some entry
some_at table None entry h is = ap (λ (e : Option TableEntry). is_some e) is
some_at table (Some i) entry h is = sym (is_there table i h) ∙ ap (λ (e : Option TableEntry). is_some e) is
