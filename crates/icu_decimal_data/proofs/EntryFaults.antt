-- What a map without a fault has.
use Rattle.std.proofs.Common.{◌≡◌, ◌+◌, ◌≤◌, ⊎_elim, true, false, refl, arith, List, [], ◌∷◌, Option, Some, None, nat_lt, ltb-false}
use Rattle.std.specs.Option.{option_or}
use Rattle.std.proofs.lemmas.Bool.{cases_Bool, le-ltb}
use Rattle.icu_decimal_data.specs.CompactTable.{PatternElements, TableEntry}
use Rattle.icu_decimal_data.specs.Kept.{kept}
use Rattle.icu_decimal_data.specs.CompactFaults.{entry_fault, falls_after, first_entry_fault, fault_of, has_falling_exponents}

-- if the first of two has nothing, and else the second, neither has
pub none_or : {T : Type 0} (a b : Option T) → option_or a b ≡ None → (a ≡ None) × (b ≡ None)
none_or None b h = (refl, h)
none_or (Some x) b h = absurd (cc)

-- its exponent is not above the type, and at most 15 below
pub sound_entry : (e : TableEntry) → entry_fault e ≡ None → (e.exponent ≤ e.log10_type) × (e.log10_type ≤ e.exponent + 15)
sound_entry e h =
    ⊎_elim
    (λ (over : nat_lt e.log10_type e.exponent ≡ true). absurd (let k = rw over at h in cc))
    (λ (under : nat_lt e.log10_type e.exponent ≡ false).
    ⊎_elim
    (λ (far : nat_lt (e.exponent + 15) e.log10_type ≡ true). absurd (let k = rw (under, far) at h in cc))
    (λ (near : nat_lt (e.exponent + 15) e.log10_type ≡ false). (ltb-false e.log10_type e.exponent under, ltb-false (e.exponent + 15) e.log10_type near))
    (cases_Bool (nat_lt (e.exponent + 15) e.log10_type)))
    (cases_Bool (nat_lt e.log10_type e.exponent))

-- no exponent is below 0
pub falls_after_nothing : (es : List TableEntry) → falls_after 0 es ≡ has_falling_exponents es
falls_after_nothing [] = refl
falls_after_nothing (e ∷ es) = let here : nat_lt e.exponent 0 ≡ false = le-ltb _ _ (omega arith) in rw here refl

-- no exponent falls, and no kept entry has a fault
pub no_entry_fault : (zero_magnitude : Option PatternElements) (es : List TableEntry) → fault_of zero_magnitude es ≡ None →
    (has_falling_exponents es ≡ false) × (first_entry_fault (kept zero_magnitude es) ≡ None)
no_entry_fault zero_magnitude es h =
    ⊎_elim
    (λ (falls : has_falling_exponents es ≡ true). absurd (let k = rw falls at h in cc))
    (λ (rise : has_falling_exponents es ≡ false). (rise, (none_or (first_entry_fault (kept zero_magnitude es)) _ (rw rise at h)).0))
    (cases_Bool (has_falling_exponents es))
