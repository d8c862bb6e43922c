-- The text of an entry that there is.
use Rattle.std.proofs.Common.{◌≡◌, ℕ, ◌<◌, ⊎_elim, List, length, Option, slice_get, refl, sym, subst, arith}
use Rattle.std.proofs.lemmas.Option.{slice_get_cases}
use Rattle.icu_decimal_data.specs.CompactTable.{TableEntry, exponent_of, log10_type_of}
use Rattle.locnum_explain.specs.Facts.{entry_text, type_and_exponent}

-- the text of an entry is that of its type and its exponent
pub entry_text-at : (table : List TableEntry) (i : ℕ) → i < length table
    → type_and_exponent (log10_type_of (slice_get table i)) (exponent_of (slice_get table i)) ≡ entry_text (slice_get table i)
entry_text-at table i h =
    let P : Option TableEntry → Type 0 = λ e. type_and_exponent (log10_type_of e) (exponent_of e) ≡ entry_text e in
    ⊎_elim (λ (x, inside, is, get). subst P (sym is) refl) (λ (past, is). absurd (omega arith)) (slice_get_cases table i).1
