-- A compact number is one that the digits of its text make, with the exponent 0 or that of an entry of the table.
use Rattle.std.proofs.Common.{◌≡◌, ℕ, ◌∙◌, inr, subst, List, All, Option, Some, None, IfSome, refl}
use Rattle.std.specs.Prelude.{Contains, slice_index_or}
use Rattle.std.proofs.lemmas.List.{get_or_default}
use Rattle.fixed_decimal.specs.declared.signs.Sign.{Sign}
use Rattle.fixed_decimal.specs.Size.{place}
use Rattle.fixed_decimal.specs.Unsigned.{Unsigned, IsUnsigned}
use Rattle.icu_plurals.specs.Operands.{operands_of}
use Rattle.icu_plurals.specs.Rules.{category_of}
use Rattle.icu_decimal_data.specs.CompactTable.{TableEntry, entry_for, exponent_of}
use Rattle.icu_decimal_readable.specs.Readable.{IsEntryOf, IsPatternBy}
use Rattle.icu_decimal.specs.CompactFormat.{CompactFormat, events_with_exponent, magnitude_with, pattern_of}
use Rattle.icu_decimal.specs.Readable.{IsReadableCompact}
use Rattle.icu_decimal.proofs.CompactDistinct.{around_it, around_others, characters-written, selected_is}
use Rattle.icu_decimal.proofs.EntrySteps.{entry_has}
use Rattle.icu_decimal_reading.specs.CompactReading.{compact_written, IsCompactTextOf, IsOfNoSign}
use Rattle.icu_decimal_reading.proofs.ValuesFound.{number_inside, IsMadeBy}

each_contained : (table : List TableEntry) → All (λ e. Contains table e) table
each_contained table k d within = (k, within, get_or_default table k (slice_index_or table k d) d within)

-- the entry of a magnitude is one of the table
pub entry_in : (table : List TableEntry) (m : ℕ) → IsEntryOf table (entry_for table m)
entry_in table m = go (entry_for table m) (entry_has (λ e. Contains table e) table m (each_contained table))
  where
    go : (o : Option TableEntry) → IfSome o (λ e. Contains table e) → IsEntryOf table o
    go None h = tt
    go (Some e) h = h

-- the pattern of an entry is one of its patterns
pub pattern_is : (f : CompactFormat) (by : Option TableEntry) (u : Unsigned) → IsEntryOf f.table by → IsPatternBy f.table by (pattern_of f by u)
pattern_is f None u h = refl
pattern_is f (Some e) u h = (h, selected_is e.elements (operands_of u 0) (category_of f.rules (operands_of u 0)))

-- a compact number is one that the digits of its text make
pub compact_found : (f : CompactFormat) (sign : Sign) (u : Unsigned) (n : ℕ) (cs : List ℕ) → IsReadableCompact f → IsUnsigned u →
    cs ≡ compact_written f sign u n → IsMadeBy f.decimal cs u
compact_found f sign u n cs h hu e =
    let by = entry_for f.table (place (magnitude_with u n)) in
    let is = entry_in f.table (place (magnitude_with u n)) in
    let others = around_others f sign by u h is in
    number_inside f.decimal h.plain_readable (around_it f sign by u).before (around_it f sign by u).after others.before others.after u hu cs
    (e ∙ characters-written f sign by u (events_with_exponent f sign u n)
    (h.table_readable.has_placeholder by (pattern_of f by u) (pattern_is f by u is)) (inr refl))

-- a text that is of no sign with exponent 0, nor with that of any entry, is so with no exponent
pub no_exponent : (f : CompactFormat) (cs : List ℕ) (u : Unsigned) → IsOfNoSign f cs u 0
    → All (λ (e : TableEntry). IsOfNoSign f cs u e.exponent) f.table → (n : ℕ) → IsOfNoSign f cs u n
no_exponent f cs u zero_none table_none n sign t =
    go (entry_for f.table (place (magnitude_with u n)))
    (entry_has (λ e. IsOfNoSign f cs u e.exponent) f.table (place (magnitude_with u n)) table_none)
    t.accepted
  where
    go : (o : Option TableEntry) → IfSome o (λ e. IsOfNoSign f cs u e.exponent) → n ≡ exponent_of o → ⊥
    go None k e = zero_none sign (subst (IsCompactTextOf f cs sign u) e t)
    go (Some x) k e = k sign (subst (IsCompactTextOf f cs sign u) e t)
