-- Without the premise that a decimal has no leading padding the law that what is shown is shown again would be false: by a
-- table without entries `01` is shown as `01`, and 1 as `1`.
use Rattle.std.proofs.Common.{◌≡◌, ℕ, ◌+◌, ◌-◌, ◌^◌, ◌<◌, inl, refl, ap, ◌∙◌, arith, List, [], ◌∷◌, None, pos, ◌-ℤ◌}
use Rattle.std.proofs.lemmas.Int.{ints}
use Rattle.std.proofs.lemmas.List.Elements.{All-nil, All-cons}
use Rattle.fixed_decimal.specs.declared.signs.Sign.{Sign}
use Rattle.fixed_decimal.specs.Unsigned.{Unsigned, AreDigits, one, high}
use Rattle.fixed_decimal.specs.Size.{finest, weighed, size, magnitude_place}
use Rattle.fixed_decimal.proofs.MagnitudePlaces.{magnitude_place-ten}
use Rattle.writeable.specs.Events.{Event, without_parts}
use Rattle.icu_plurals.specs.Rules.{Rule}
use Rattle.icu_decimal_data.specs.CompactTable.{TableEntry, entry_for}
use Rattle.icu_decimal.specs.CompactFormat.{CompactFormat, IsCompactFormat, filled_events}
use Rattle.icu_decimal.specs.CompactLaws.{IsUnpadded, IsShownAgain}
use Rattle.icu_decimal.specs.CompactNumber.{rounding_place_for, IsCompactNumber, IsNearestCompact}
use Rattle.icu_decimal.specs.Decimal.{DecimalFormat, signed_events}
use Rattle.icu_decimal.specs.Decomposed.{decomposed_high, IsDecomposed}
use Rattle.icu_decimal.specs.NearestLemmas.{nearest_to_itself, ten_is_compact}

abbrev no_entries : List TableEntry
no_entries = []

-- `01`
abbrev padded : Unsigned
padded = record { digits = 0 ∷ 1 ∷ []; scale = 0 }

whole : finest - 0 ≡ finest
whole = omega arith

padded_is : size padded ≡ 10 ^ finest
padded_is = ap (λ f. weighed f (0 ∷ 1 ∷ [])) whole ∙ digits finest
  where
    digits : (f : ℕ) → weighed f (0 ∷ 1 ∷ []) ≡ 10 ^ f
    digits f = let last : 10 ^ (f + 0) ≡ 10 ^ f = ap (λ n. 10 ^ n) (omega arith) in omega arith

one_is : size one ≡ 10 ^ finest
one_is = ap (λ f. weighed f (1 ∷ [])) whole ∙ digits finest
  where
    digits : (f : ℕ) → weighed f (1 ∷ []) ≡ 10 ^ f
    digits f = let last : 10 ^ (f + 0) ≡ 10 ^ f = ap (λ n. 10 ^ n) (omega arith) in omega arith

no_power : pos finest -ℤ pos finest ≡ pos 0
no_power = omega (arith, ints)

padded_nearest : IsNearestCompact no_entries (size padded) (10 ^ finest)
padded_nearest = rw padded_is (nearest_to_itself (IsCompactNumber no_entries) (10 ^ rounding_place_for no_entries (magnitude_place (10 ^ finest))) (10 ^ finest)
    (ten_is_compact no_entries finest))

padded_decomposed : IsDecomposed no_entries padded (10 ^ finest) None padded
unfolding entry_for
padded_decomposed = record {
  nearest = padded_nearest;
  entry_is = refl;
  scaled = omega (arith, padded_is);
  is_decimal = record { below_ten = two; integer_some = omega arith; high_limit = omega arith; low_limit = omega arith };
  trimmed = inl refl;
  high_is = rw (magnitude_place-ten finest, no_power) refl;
}
  where
    two : AreDigits (0 ∷ 1 ∷ [])
    two = All-cons (λ d. d < 10) 0 (1 ∷ []) (omega arith) (All-cons (λ d. d < 10) 1 [] (omega arith) (All-nil (λ d. d < 10)))

one_unpadded : IsUnpadded one
one_unpadded = rw (one_is, magnitude_place-ten, no_power) refl

-- 1 is displayed without padding
one_high : (y : ℕ) → y ≡ 10 ^ finest → decomposed_high no_entries one y ≡ pos 0
unfolding entry_for
one_high y is = rw (is, magnitude_place-ten, no_power) refl

module _ (decimal : DecimalFormat) (rules : List Rule) (sign : Sign) where
  abbrev format : CompactFormat
  format = record { decimal = decimal; rules = rules; table = no_entries }

  abbrev events : List Event
  events = signed_events decimal.symbols sign (without_parts (filled_events format None padded))

  abbrev padded_written : IsCompactFormat format sign padded padded 0 events
  padded_written = record { shown = 10 ^ finest; entry = None; decomposed = padded_decomposed; exponent_is = refl; events_are = refl }

  -- without the premise on padding, that numbers are shown again is false
  pub padding_is_needed : ((d again : Unsigned) → IsUnpadded again → IsShownAgain format sign d again) → ⊥
  padding_is_needed law =
      let again = (law padded one one_unpadded).alike padded 0 events padded_written one_is in
      let shown : again.written.shown ≡ 10 ^ finest = (again.alone padded 0 events again.written).0 in
      let top : high padded ≡ pos 0 = again.written.decomposed.high_is ∙ one_high again.written.shown shown in
      absurd (cc)
