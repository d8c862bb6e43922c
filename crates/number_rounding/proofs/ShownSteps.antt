-- What the steps of showing a number say of what is shown: rounded once, at the unit of its own magnitude, then looked up
-- and divided.
use Rattle.std.proofs.Common.{◌≡◌, ℕ, ◌-◌, ◌*◌, ◌^◌, ◌<◌, ◌≤◌, ◌⊎◌, inl, inr, refl, sym, ◌∙◌, ap, subst, arith}
use Rattle.std.proofs.Common.{List, [], Bool, Option, ℤ, pos, ◌-ℤ◌}
use Rattle.std.specs.Int.{int_max}
use Rattle.fixed_decimal.specs.Unsigned.{Unsigned, IsUnsigned, high}
use Rattle.fixed_decimal.specs.Size.{place, size, magnitude, magnitude_place}
use Rattle.fixed_decimal.specs.Nearest.{IsMultiple}
use Rattle.fixed_decimal.specs.Modes.{IsTaken, size_mode}
use Rattle.fixed_decimal.specs.RoundedBy.{RoundsPastLimitsBy}
use Rattle.fixed_decimal.proofs.Weights.{ten_pos}
use Rattle.fixed_decimal.proofs.Magnitudes.{place-magnitude}
use Rattle.fixed_decimal.proofs.Taken.{least-unique}
use Rattle.icu_decimal_data.specs.CompactTable.{TableEntry, IsCompactTable, entry_for, exponent_for, exponent_of}
use Rattle.icu_decimal.specs.Decomposed.{decomposed_entry}
use Rattle.skeleton_settings.specs.declared.settings.Precision.{Precision}
use Rattle.number_rounding.specs.declared.rounding.Rounding.{Rounding}
use Rattle.number_rounding.specs.Steps.{step, DividesOne}
use Rattle.number_rounding.specs.Showable.{unit_at, FitsTable, IsShownBy, IsShownPastLimits}
use Rattle.number_rounding.specs.Shown.{IsShown, ShowsPastLimits, IsFractionCount}
use Rattle.fixed_decimal.specs.Padding.{IsExactWith}
use Rattle.number_rounding.proofs.Joined.{has_taken}
use Rattle.number_rounding.proofs.Units.{units_joined, unit_pos, exponent_places, exponent_none}
use Rattle.number_rounding.proofs.ShownSizes.{shown_from_multiple, shown_once}

-- the exponent of a magnitude is not above its place
pub exponent_below : (table : List TableEntry) (m : ℕ) → IsCompactTable table → exponent_for table m ≤ m
exponent_below table m is = elim (exponent_places table m is) [ inl none ↦ omega arith | inr some ↦ omega arith ]

-- without entries there is none, and else 1 is a multiple of the increment
pub exponent_divides : (precision : Precision) (table : List TableEntry) (m : ℕ) → (table ≡ []) ⊎ DividesOne precision →
    (exponent_for table m ≡ 0) ⊎ DividesOne precision
exponent_divides precision table m (inl none) = inl (ap (λ t. exponent_for t m) none ∙ exponent_none m)
exponent_divides precision table m (inr divides) = inr divides

-- the exponent of the entry that was looked up
pub exponent_is : (table : List TableEntry) (x e : ℕ) (power : ℤ) (by : Option TableEntry) → power ≡ magnitude x → by ≡ entry_for table (place
    power) →
    e ≡ exponent_of by → e ≡ exponent_for table (magnitude_place x)
exponent_is table x e power by at is exponent =
    exponent ∙ ap exponent_of (is ∙ ap (entry_for table) (ap place at ∙ place-magnitude x))

-- so it is not above the place of the magnitude
pub exponent_within : (table : List TableEntry) (x e : ℕ) (power : ℤ) (by : Option TableEntry) → IsCompactTable table → power ≡ magnitude x →
    by ≡ entry_for table (place power) → e ≡ exponent_of by → e ≤ place power
exponent_within table x e power by is_table at is exponent =
    omega (arith, exponent_is table x e power by at is exponent, exponent_below table (magnitude_place x) is_table, ap place at, place-magnitude x)

-- the entry that was looked up for a size is the displayed one
pub entry_is : (table : List TableEntry) (y : ℕ) (power : ℤ) (by : Option TableEntry) → power ≡ magnitude y → by ≡ entry_for table (place power) →
    by ≡ decomposed_entry table y
entry_is table y power by at is = is ∙ ap (entry_for table) (ap place at ∙ place-magnitude y)

module _ (rounding : Rounding) (table : List TableEntry) (minus : Bool) (d : Unsigned) (fits : FitsTable rounding.precision table) (e : ℕ) (power : ℤ)
    (at : power ≡ magnitude (size d)) (exponent : e ≡ exponent_for table (magnitude_place (size d)))
  where
    -- the unit at which the number was rounded is that of its magnitude
    unit_same : step rounding.precision (place power - e) * 10 ^ e ≡ unit_at rounding.precision table (magnitude_place (size d))
    unit_same =
        let where_is : place power ≡ magnitude_place (size d) = ap place at ∙ place-magnitude (size d) in
        rw (where_is, exponent) refl

    -- so it is the shown size
    pub shown_size : (y : ℕ) → IsTaken (IsMultiple (step rounding.precision (place power - e) * 10 ^ e)) (size_mode rounding.mode minus)
        (step rounding.precision (place power - e) * 10 ^ e) (size d) y → IsShownBy rounding.precision table rounding.mode minus (size d) y
    shown_size y t =
        shown_from_multiple rounding.precision table fits (size_mode rounding.mode minus) (size d) y
        (subst (λ (u : ℕ). IsTaken (IsMultiple u) (size_mode rounding.mode minus) u (size d) y) unit_same t)

    -- where rounding passes the limits, so does what is shown
    pub past_shown : RoundsPastLimitsBy rounding.mode minus (step rounding.precision (place power - e) * 10 ^ e) d →
        IsShownPastLimits rounding.precision table rounding.mode minus (size d)
    past_shown (y, t, large) = (y, shown_size y t, large)

    -- and only there
    past_rounded : IsShownPastLimits rounding.precision table rounding.mode minus (size d) →
        RoundsPastLimitsBy rounding.mode minus (step rounding.precision (place power - e) * 10 ^ e) d
    past_rounded (y, t, large) =
        let m = has_taken (unit_at rounding.precision table) (units_joined rounding.precision table fits) (unit_pos rounding.precision table)
        (size_mode rounding.mode minus) (size d) y t in
        (y, subst (λ (u : ℕ). IsTaken (IsMultiple u) (size_mode rounding.mode minus) u (size d) y) (sym unit_same) m, large)

    -- The size y was rounded to, by is its entry and s its significand.
    module _ (y e' : ℕ) (by : Option TableEntry) (shown : IsShownBy rounding.precision table rounding.mode minus (size d) y)
        (decomposed : by ≡ decomposed_entry table y) (exponent' : e' ≡ exponent_of by)
      where
        pub is_shown : (s : Unsigned) → size s * 10 ^ e' ≡ y → IsUnsigned s →
            high s ≡ int_max (int_max (pos 0) (pos rounding.integer_digits -ℤ pos 1)) (magnitude (size s)) →
            IsFractionCount rounding (size s) s.scale → IsShown rounding table minus (size d) y by s
        is_shown s scaled valid top count = record {
          taken = shown;
          entry_is = decomposed;
          scaled = rw (← exponent') scaled;
          is_decimal = valid;
          high_is = top;
          scale_is = count;
        }

        -- too many digits are wanted, or are needed below power 0
        pub past_written : (32768 < rounding.integer_digits)
            ⊎ ((s : ℕ) × (count : ℕ) × (s * 10 ^ e' ≡ y) × IsFractionCount rounding s count × (32768 < count)) → ShowsPastLimits rounding table
            minus (size d)
        past_written (inl many) = inr (inl many)
        past_written (inr (s, count, scaled, is, many)) =
            let same : e' ≡ exponent_of (decomposed_entry table y) = exponent' ∙ ap exponent_of decomposed in
            inr (inr (record { y = y; s = s; count = count; taken = shown; scaled = rw (← same) scaled; count_is = is; too_many = many }))

        -- and within the limits none of this is so
        pub within_limits : (s : Unsigned) → ¬ (RoundsPastLimitsBy rounding.mode minus (step rounding.precision (place power - e) * 10 ^ e) d) →
            rounding.integer_digits ≤ 32768 → size s * 10 ^ e' ≡ y → IsUnsigned s → IsFractionCount rounding (size s) s.scale →
            ¬ (ShowsPastLimits rounding table minus (size d))
        within_limits s not_past few scaled valid count (inl past) = not_past (past_rounded past)
        within_limits s not_past few scaled valid count (inr (inl many)) = omega arith
        within_limits s not_past few scaled valid count (inr (inr h)) =
            let same : h.y ≡ y = shown_once rounding.precision table fits (size_mode rounding.mode minus) (size d) h.y y h.taken shown in
            let exponents : exponent_of (decomposed_entry table h.y) ≡ e' =
            ap (λ z. exponent_of (decomposed_entry table z)) same ∙ sym (exponent' ∙ ap exponent_of decomposed) in
            let both : h.s * 10 ^ e' ≡ size s * 10 ^ e' = rw exponents at h.scaled ∙ same ∙ sym scaled in
            let size_is : h.s ≡ size s = cancel h.s (size s) (10 ^ e') (ten_pos e') both in
            let count_is : IsFractionCount rounding (size s) h.count = rw size_is at h.count_is in
            let scale_is : h.count ≡ s.scale = counts s h.count count_is count in
            omega (arith, h.too_many, valid.low_limit)
          where
            cancel : (a b u : ℕ) → 0 < u → a * u ≡ b * u → a ≡ b
            cancel a b u positive same = grind arith

            counts : (s : Unsigned) (n : ℕ) → IsFractionCount rounding (size s) n → IsFractionCount rounding (size s) s.scale → n ≡ s.scale
            counts s n p q = least-unique (IsExactWith (size s)) _ n s.scale p q
