-- The premises of the law that what is shown is shown again, met with a carry into an entry whose exponent is below its type:
-- by `K` from a thousand and `L`, a hundred thousand, from a million on, 999500 and 1000000 are both written with the
-- significand 10 and `L`.
-- Sizes are sums of powers of ten from the place of power 0 on, `finest`. That place stays a variable in them (`digits`): ten to it is far
-- too large to be computed. Places themselves, and the entries at them, are small, and compute by unfolding.
-- 999500 lies just between two multiples of a thousand, so rounding it is `nearest_tie_odd` of fixed_decimal; the laws are cited from
-- ShownAgain.
use Rattle.std.proofs.Common.{◌≡◌, ℕ, zero, suc, ◌+◌, ◌-◌, ◌*◌, ◌^◌, ◌<◌, ◌≤◌, inl, refl, ap, ◌∙◌, arith, List, []}
use Rattle.std.proofs.Common.{◌∷◌, Some, AllPairs, pos, ◌-ℤ◌}
use Rattle.std.proofs.lemmas.Int.{ints}
use Rattle.std.proofs.lemmas.Nat.{pow-add}
use Rattle.std.proofs.lemmas.List.Elements.{All-nil, All-cons}
use Rattle.fixed_decimal.specs.declared.signs.Sign.{Sign}
use Rattle.fixed_decimal.specs.Unsigned.{Unsigned, AreDigits}
use Rattle.fixed_decimal.specs.Size.{finest, weighed, size, magnitude_place}
use Rattle.fixed_decimal.specs.Nearest.{IsMultiple, IsNearest}
use Rattle.fixed_decimal.proofs.Weights.{ten_pos, same_power}
use Rattle.fixed_decimal.proofs.MagnitudePlaces.{magnitude_place_is, magnitude_place-ten}
use Rattle.fixed_decimal.proofs.Nearness.{nearest_tie_odd}
use Rattle.icu_plurals.specs.Elements.{only_other}
use Rattle.writeable.specs.Events.{Event, without_parts}
use Rattle.icu_plurals.specs.Rules.{Rule}
use Rattle.icu_decimal_data.specs.CompactTable.{TableEntry, IsCompactTable, entry_for}
use Rattle.icu_decimal.specs.CompactFormat.{CompactFormat, IsCompactFormat, filled_events}
use Rattle.icu_decimal.specs.CompactLaws.{IsUnpadded, IsWrittenAlone, IsFormattedAlike}
use Rattle.icu_decimal.specs.CompactNumber.{rounding_place, rounding_place_for, IsNearestCompact}
use Rattle.icu_decimal.specs.Decimal.{DecimalFormat, signed_events}
use Rattle.icu_decimal.specs.Decomposed.{IsDecomposed}
use Rattle.icu_decimal.specs.NearestLemmas.{nearest_compact_from_rounded}
use Rattle.icu_decimal.proofs.ShownAgain.{shown_again, shown_is_accepted}
use Rattle.icu_decimal.proofs.WorkedNearest.{kilo}

-- `0L` from a million on
abbrev lakh : TableEntry
lakh = record { log10_type = 6; exponent = 5; elements = only_other (record { placeholder = Some 0; literal = 76 ∷ [] }) }

abbrev table : List TableEntry
table = kilo ∷ lakh ∷ []

table_valid : IsCompactTable table
table_valid = record {
  types_rise = λ i j d h inside. two (λ (e f : TableEntry). e.log10_type < f.log10_type) (omega arith) i j d h inside;
  exponents_never_fall = λ i j d h inside. two (λ (e f : TableEntry). e.exponent ≤ f.exponent) (omega arith) i j d h inside;
  exponents_small = All-cons (λ (e : TableEntry). e.exponent ≤ e.log10_type) kilo (lakh ∷ []) (omega arith)
      (All-cons (λ (e : TableEntry). e.exponent ≤ e.log10_type) lakh [] (omega arith) (All-nil (λ (e : TableEntry). e.exponent ≤ e.log10_type)));
  shifts_small = All-cons (λ (e : TableEntry). e.log10_type ≤ e.exponent + 15) kilo (lakh ∷ []) (omega arith)
      (All-cons (λ (e : TableEntry). e.log10_type ≤ e.exponent + 15) lakh [] (omega arith)
      (All-nil (λ (e : TableEntry). e.log10_type ≤ e.exponent + 15)));
}
  where
    two : (R : TableEntry → TableEntry → Type 0) → R kilo lakh → AllPairs R table
    two R h zero zero d below inside = absurd (omega arith)
    two R h zero (suc zero) d below inside = h
    two R h zero (suc (suc j)) d below inside = absurd (omega arith)
    two R h (suc i) zero d below inside = absurd (omega arith)
    two R h (suc i) (suc j) d below inside = absurd (omega arith)

-- 999500, which is carried to a million
abbrev pub carried : Unsigned
carried = record { digits = 9 ∷ 9 ∷ 9 ∷ 5 ∷ 0 ∷ 0 ∷ []; scale = 0 }

-- the million that is shown
abbrev pub million : Unsigned
million = record { digits = 1 ∷ 0 ∷ 0 ∷ 0 ∷ 0 ∷ 0 ∷ 0 ∷ []; scale = 0 }

-- the 10 of `10L`
abbrev significand : Unsigned
significand = record { digits = 1 ∷ 0 ∷ []; scale = 0 }

-- the last digit stands at the place of power 0
pub whole : finest - 0 ≡ finest
whole = omega arith

-- 999500 in powers of ten
pub carried_is : size carried ≡ 999 * 10 ^ (finest + 3) + 5 * 10 ^ (finest + 2)
carried_is = ap (λ f. weighed f (9 ∷ 9 ∷ 9 ∷ 5 ∷ 0 ∷ 0 ∷ [])) whole ∙ digits finest
  where
    digits : (f : ℕ) → weighed f (9 ∷ 9 ∷ 9 ∷ 5 ∷ 0 ∷ 0 ∷ []) ≡ 999 * 10 ^ (f + 3) + 5 * 10 ^ (f + 2)
    digits f = omega (arith, pow-add 10 f 5, pow-add 10 f 4, pow-add 10 f 3, pow-add 10 f 2)

-- the million as a power of ten
pub million_is : size million ≡ 10 ^ (finest + 6)
million_is = ap (λ f. weighed f (1 ∷ 0 ∷ 0 ∷ 0 ∷ 0 ∷ 0 ∷ 0 ∷ [])) whole ∙ digits finest
  where
    digits : (f : ℕ) → weighed f (1 ∷ 0 ∷ 0 ∷ 0 ∷ 0 ∷ 0 ∷ 0 ∷ []) ≡ 10 ^ (f + 6)
    digits f = omega arith

significand_scaled : size significand * 10 ^ 5 ≡ 10 ^ (finest + 6)
significand_scaled = ap (λ f. weighed f (1 ∷ 0 ∷ []) * 10 ^ 5) whole ∙ digits finest
  where
    digits : (f : ℕ) → weighed f (1 ∷ 0 ∷ []) * 10 ^ 5 ≡ 10 ^ (f + 6)
    digits f = omega (arith, pow-add 10 f 1, pow-add 10 f 6)

-- and magnitudes
pub carried_magnitude : magnitude_place (size carried) ≡ finest + 5
carried_magnitude =
    let next : 10 ^ (finest + 5 + 1) ≡ 10 ^ (finest + 6) = same_power (finest + 5 + 1) (finest + 6) (omega arith) in
    ap magnitude_place carried_is
    ∙ magnitude_place_is (999 * 10 ^ (finest + 3) + 5 * 10 ^ (finest + 2)) (finest + 5)
    (omega (arith, pow-add 10 finest 5, pow-add 10 finest 3, pow-add 10 finest 2))
    (omega (arith, pow-add 10 finest 6, pow-add 10 finest 3, pow-add 10 finest 2, ten_pos finest))

-- the magnitude of the million
pub million_magnitude : magnitude_place (size million) ≡ finest + 6
million_magnitude = ap magnitude_place million_is ∙ magnitude_place-ten (finest + 6)

carried_power : pos (finest + 5) -ℤ pos finest ≡ pos 5
carried_power = omega (arith, ints)

-- and as a power
pub million_power : pos (finest + 6) -ℤ pos finest ≡ pos 6
million_power = omega (arith, ints)

-- numbers of hundreds of thousands are rounded to thousands
thousands : rounding_place_for table (finest + 5) ≡ finest + 3
unfolding entry_for rounding_place finest
thousands = refl

kilo_here : entry_for table (finest + 5) ≡ Some kilo
unfolding entry_for finest
kilo_here = refl

lakh_there : entry_for table (finest + 6) ≡ Some lakh
unfolding entry_for finest
lakh_there = refl

-- just between 999000 and a million, and a million is the even one
pub carried_rounded : IsNearest (IsMultiple (10 ^ (finest + 3))) (10 ^ (finest + 3)) (999 * 10 ^ (finest + 3) + 5 * 10 ^ (finest + 2)) (10 ^ (finest + 6))
carried_rounded =
    let half : 2 * (5 * 10 ^ (finest + 2)) ≡ 10 ^ (finest + 3) = omega (arith, pow-add 10 finest 3, pow-add 10 finest 2) in
    let top : 1000 * 10 ^ (finest + 3) ≡ 10 ^ (finest + 6) = omega (arith, pow-add 10 finest 6, pow-add 10 finest 3) in
    rw top at (nearest_tie_odd (10 ^ (finest + 3)) 999 (5 * 10 ^ (finest + 2)) 500 half refl)

carried_nearest : IsNearestCompact table (size carried) (10 ^ (finest + 6))
carried_nearest =
    nearest_compact_from_rounded table (size carried) (10 ^ (finest + 6))
    (rw (carried_magnitude, thousands, carried_is) carried_rounded)

carried_decomposed : IsDecomposed table carried (10 ^ (finest + 6)) (Some lakh) significand
carried_decomposed = record {
  nearest = carried_nearest;
  entry_is = rw (magnitude_place-ten (finest + 6), lakh_there) refl;
  scaled = significand_scaled;
  is_decimal = record { below_ten = two; integer_some = omega arith; high_limit = omega arith; low_limit = omega arith };
  trimmed = inl refl;
  high_is = rw (carried_magnitude, magnitude_place-ten (finest + 6), lakh_there, kilo_here, million_power) refl;
}
  where
    two : AreDigits (1 ∷ 0 ∷ [])
    two = All-cons (λ d. d < 10) 1 (0 ∷ []) (omega arith) (All-cons (λ d. d < 10) 0 [] (omega arith) (All-nil (λ d. d < 10)))

-- neither number has leading padding
pub carried_unpadded : IsUnpadded carried
carried_unpadded = rw (carried_magnitude, carried_power) refl

-- the million hasn't either
pub million_unpadded : IsUnpadded million
million_unpadded = rw (million_magnitude, million_power) refl

-- with this table, any symbols, digits, options and rules, and any sign
module _ (decimal : DecimalFormat) (rules : List Rule) (sign : Sign) where
  abbrev format : CompactFormat
  format = record { decimal = decimal; rules = rules; table = table }

  abbrev events : List Event
  events = signed_events decimal.symbols sign (without_parts (filled_events format (Some lakh) significand))

  abbrev carried_written : IsCompactFormat format sign carried significand 5 events
  carried_written = record { shown = 10 ^ (finest + 6); entry = Some lakh; decomposed = carried_decomposed; exponent_is = refl; events_are = refl }

  -- the million that is shown is written so too
  pub million_written : IsWrittenAlone format sign million significand 5 events (10 ^ (finest + 6)) (Some lakh)
  million_written = (shown_again format sign carried million carried_unpadded million_unpadded).alike significand 5 events carried_written million_is

  -- and 10 with the exponent 5 is given alike
  pub ten_given : IsFormattedAlike format sign significand 5 events
  ten_given = shown_is_accepted format sign carried significand 5 events table_valid carried_written
