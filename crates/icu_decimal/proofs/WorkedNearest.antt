-- The premises of the laws of compact numbers, met: 1234 is displayed as 1.2K, and its nearest compact number is 1200.
use Rattle.std.proofs.Common.{◌≡◌, ℕ, ◌+◌, ◌-◌, ◌*◌, ◌^◌, ◌<◌, ◌≤◌, inr, refl, ap, ◌∙◌, arith, List, [], ◌∷◌}
use Rattle.std.proofs.Common.{Some, pos, ◌-ℤ◌}
use Rattle.std.proofs.lemmas.Int.{ints}
use Rattle.std.proofs.lemmas.Nat.{pow-add}
use Rattle.std.proofs.lemmas.List.Elements.{All-nil, All-cons}
use Rattle.fixed_decimal.specs.Unsigned.{Unsigned, AreDigits}
use Rattle.fixed_decimal.specs.Size.{finest, weighed, size, magnitude_place}
use Rattle.fixed_decimal.specs.Nearest.{IsMultiple, IsNearest}
use Rattle.fixed_decimal.proofs.Weights.{ten_pos, same_power}
use Rattle.fixed_decimal.proofs.MagnitudePlaces.{magnitude_place_is}
use Rattle.fixed_decimal.proofs.Nearness.{nearest_below}
use Rattle.fixed_decimal.proofs.Rounds.{finest_large}
use Rattle.icu_plurals.specs.Elements.{only_other}
use Rattle.icu_decimal_data.specs.CompactTable.{TableEntry, entry_for}
use Rattle.icu_decimal.specs.CompactNumber.{rounding_place, rounding_place_for, IsCompactNumber, IsNearestCompact}
use Rattle.icu_decimal.specs.Decomposed.{IsDecomposed}
use Rattle.icu_decimal.specs.NearestLemmas.{nearest_to_itself, nearest_compact_from_rounded}

-- `0K` from a thousand on
abbrev pub kilo : TableEntry
kilo = record { log10_type = 3; exponent = 3; elements = only_other (record { placeholder = Some 0; literal = 75 ∷ [] }) }

-- the table of this entry alone
abbrev pub table : List TableEntry
table = kilo ∷ []

-- 1234
abbrev pub number : Unsigned
number = record { digits = 1 ∷ 2 ∷ 3 ∷ 4 ∷ []; scale = 0 }

-- the 1.2 of `1.2K`
abbrev pub significand : Unsigned
significand = record { digits = 1 ∷ 2 ∷ []; scale = 1 }

-- their sizes
four_digits : (f : ℕ) → weighed f (1 ∷ 2 ∷ 3 ∷ 4 ∷ []) ≡ 12 * 10 ^ (f + 2) + 34 * 10 ^ f
four_digits f = omega (arith, pow-add 10 f 3, pow-add 10 f 2, pow-add 10 f 1, pow-add 10 f 0)

two_digits : (f : ℕ) → weighed f (1 ∷ 2 ∷ []) * 10 ^ 3 ≡ 12 * 10 ^ (f + 3)
two_digits f = omega (arith, pow-add 10 f 3, pow-add 10 f 1, pow-add 10 f 0)

number_is : size number ≡ 12 * 10 ^ (finest + 2) + 34 * 10 ^ finest
number_is = let whole : finest - 0 ≡ finest = omega arith in ap (λ f. weighed f (1 ∷ 2 ∷ 3 ∷ 4 ∷ [])) whole ∙ four_digits finest

-- their magnitudes
thousands : (f x : ℕ) → 10 ^ (f + 3) ≤ x → x < 10 ^ (f + 4) → magnitude_place x ≡ f + 3
thousands f x l h = let same : 10 ^ (f + 4) ≡ 10 ^ (f + 3 + 1) = same_power (f + 4) (f + 3 + 1) (omega arith) in magnitude_place_is x (f + 3) l (omega arith)

number_magnitude : magnitude_place (size number) ≡ finest + 3
number_magnitude = ap magnitude_place number_is ∙ thousands finest (12 * 10 ^ (finest + 2) + 34 * 10 ^ finest)
    (omega (arith, pow-add 10 finest 3, pow-add 10 finest 2, ten_pos finest))
    (omega (arith, pow-add 10 finest 4, pow-add 10 finest 2, ten_pos finest))

decomposed_magnitude : magnitude_place (12 * 10 ^ (finest + 2)) ≡ finest + 3
decomposed_magnitude = thousands finest (12 * 10 ^ (finest + 2))
    (omega (arith, pow-add 10 finest 3, pow-add 10 finest 2, ten_pos finest))
    (omega (arith, pow-add 10 finest 4, pow-add 10 finest 2, ten_pos finest))

next_magnitude : magnitude_place (13 * 10 ^ (finest + 2)) ≡ finest + 3
next_magnitude = thousands finest (13 * 10 ^ (finest + 2))
    (omega (arith, pow-add 10 finest 3, pow-add 10 finest 2, ten_pos finest))
    (omega (arith, pow-add 10 finest 4, pow-add 10 finest 2, ten_pos finest))

-- thousands are rounded to hundreds
hundreds : rounding_place_for table (finest + 3) ≡ finest + 2
unfolding entry_for rounding_place finest
hundreds = refl

entry_is : entry_for table (finest + 3) ≡ Some kilo
unfolding entry_for finest
entry_is = refl

third_power : pos (finest + 3) -ℤ pos finest ≡ pos 3
third_power = omega (arith, ints)

number_rounded : IsNearest (IsMultiple (10 ^ (finest + 2))) (10 ^ (finest + 2)) (12 * 10 ^ (finest + 2) + 34 * 10 ^ finest) (12 * 10 ^ (finest + 2))
number_rounded = nearest_below (10 ^ (finest + 2)) 12 (34 * 10 ^ finest) (omega (arith, pow-add 10 finest 2, ten_pos finest))

-- 1200 is the nearest compact number
pub number_nearest : IsNearestCompact table (size number) (12 * 10 ^ (finest + 2))
number_nearest =
    nearest_compact_from_rounded table (size number) (12 * 10 ^ (finest + 2))
    (rw (number_magnitude, hundreds, number_is) number_rounded)

-- displayed as 1.2K
pub number_decomposed : IsDecomposed table number (12 * 10 ^ (finest + 2)) (Some kilo) significand
number_decomposed = record {
  nearest = number_nearest;
  entry_is = rw (decomposed_magnitude, entry_is) refl;
  scaled = two_digits (finest - 1) ∙ ap (λ n. 12 * n) (same_power (finest - 1 + 3) (finest + 2) (omega (arith, finest_large)));
  is_decimal = record { below_ten = two; integer_some = omega arith; high_limit = omega arith; low_limit = omega arith };
  trimmed = inr (λ e. absurd (omega arith));
  high_is = rw (number_magnitude, decomposed_magnitude, entry_is, third_power) refl;
}
  where
    two : AreDigits (1 ∷ 2 ∷ [])
    two = All-cons (λ d. d < 10) 1 (2 ∷ []) (omega arith) (All-cons (λ d. d < 10) 2 [] (omega arith) (All-nil (λ d. d < 10)))

-- 1300 is a compact number, and greater than 1234
pub record InOrder : Type 0 where
  pub some : 0 < size number
  pub greater : size number < 13 * 10 ^ (finest + 2)
  pub nearest : IsNearestCompact table (size number) (12 * 10 ^ (finest + 2))
  pub compact : IsCompactNumber table (13 * 10 ^ (finest + 2))
  pub next : IsNearestCompact table (13 * 10 ^ (finest + 2)) (13 * 10 ^ (finest + 2))

next_compact : IsCompactNumber table (13 * 10 ^ (finest + 2))
next_compact = rw (next_magnitude, hundreds) (13, refl)

-- and its nearest is itself, not below that of 1234
pub in_order : InOrder
in_order = record {
  some = omega (arith, number_is, ten_pos finest);
  greater = omega (arith, number_is, pow-add 10 finest 2, ten_pos finest);
  nearest = number_nearest;
  compact = next_compact;
  next = nearest_to_itself (IsCompactNumber table) (10 ^ rounding_place_for table (magnitude_place (13 * 10 ^ (finest + 2))))
      (13 * 10 ^ (finest + 2)) next_compact;
}
