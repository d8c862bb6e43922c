-- The faults for which a map makes no table.
use Rattle.std.specs.Prelude.{ℕ, ◌+◌, Bool, false, ◌||◌, nat_lt, List, [], ◌∷◌, Option, Some, None, if◌then◌else◌, length, sum_by}
use Rattle.std.specs.Option.{option_or, option_map_or}
use Rattle.icu_pattern.specs.Patterns.{PatternText}
use Rattle.icu_plurals.specs.Elements.{slots}
use Rattle.icu_decimal_data.specs.CompactTable.{PatternElements, TableEntry, shift_limit}
use Rattle.icu_decimal_data.specs.Kept.{kept}
use Rattle.icu_decimal_data.specs.declared.error.CompactError.{CompactError}
use Rattle.icu_decimal_data.specs.declared.error.CompactError.TheVariants.{ExponentsFall, ExponentAboveType, TooManyZeros, TooLarge}

-- whether an exponent is below that of its predecessor; the first one's predecessor is given
abbrev pub falls_after : ℕ → List TableEntry → Bool
falls_after before [] = false
falls_after before (e ∷ es) = nat_lt e.exponent before || falls_after e.exponent es

-- whether some exponent is below that of the preceding type
abbrev pub has_falling_exponents : List TableEntry → Bool
has_falling_exponents [] = false
has_falling_exponents (e ∷ es) = falls_after e.exponent es

-- an exponent above its type, or a type too far above its exponent
abbrev pub fault_at : ℕ → ℕ → Option CompactError
fault_at log10_type exponent =
    if nat_lt log10_type exponent then Some ExponentAboveType
    else if nat_lt (exponent + shift_limit) log10_type then Some TooManyZeros else None

-- the fault of an entry by itself
abbrev pub entry_fault : TableEntry → Option CompactError
entry_fault e = fault_at e.log10_type e.exponent

-- the fault of the first entry that has one
abbrev pub first_entry_fault : List TableEntry → Option CompactError
first_entry_fault [] = None
first_entry_fault (e ∷ es) = option_or (entry_fault e) (first_entry_fault es)

-- the length of a slot's literal
abbrev pub slot_size : Option PatternText → ℕ
slot_size s = option_map_or (λ (p : PatternText). length p.literal) s 0

-- the length of the literals of an entry's patterns together
abbrev pub elements_size : PatternElements → ℕ
elements_size e = sum_by slot_size (slots e)

-- the length of the literals of all entries together
abbrev pub literals_size : List TableEntry → ℕ
literals_size es = sum_by (λ (e : TableEntry). elements_size e.elements) es

-- the most bytes that all literals may have together
abbrev pub literal_limit : ℕ
literal_limit = 65535

-- the first fault of a map: falling exponents anywhere in it, then faults of entries that are kept, by rising type, then the size
abbrev pub fault_of : Option PatternElements → List TableEntry → Option CompactError
fault_of zero_magnitude es =
    if has_falling_exponents es then Some ExponentsFall
    else option_or (first_entry_fault (kept zero_magnitude es)) (if nat_lt literal_limit (literals_size (kept zero_magnitude es)) then Some TooLarge else None)
