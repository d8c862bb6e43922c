-- Readable texts with a carry: by English short patterns 999500 and 1000000 meet every premise, and both are written `1M`.
use Rattle.std.proofs.Common.{◌≡◌, ℕ, ◌+◌, ◌*◌, ◌^◌, ◌<◌, inl, refl, sym, ap, ◌∙◌, arith, List, [], ◌∷◌, Some, codes, map}
use Rattle.std.specs.Str.{chars}
use Rattle.std.proofs.lemmas.Nat.{pow-add}
use Rattle.std.proofs.lemmas.List.Elements.{All-nil, All-cons}
use Rattle.fixed_decimal.specs.declared.signs.Sign.TheVariants.{None as NoSign}
use Rattle.fixed_decimal.specs.Unsigned.{Unsigned, IsUnsigned, one}
use Rattle.fixed_decimal.specs.Size.{finest, weighed, size, magnitude_place}
use Rattle.fixed_decimal.proofs.MagnitudePlaces.{magnitude_place-ten}
use Rattle.writeable.specs.Events.{Event, characters, text_of, without_parts}
use Rattle.icu_decimal_data.specs.CompactTable.{TableEntry, entry_for}
use Rattle.icu_decimal.specs.CompactFormat.{CompactFormat, IsCompactFormat, filled_events}
use Rattle.icu_decimal.specs.CompactNumber.{rounding_place, rounding_place_for, IsCompactNumber, IsNearestCompact}
use Rattle.icu_decimal.specs.Decimal.{signed_events}
use Rattle.icu_decimal.specs.Decomposed.{IsDecomposed}
use Rattle.icu_decimal.specs.NearestLemmas.{nearest_compact_from_rounded, nearest_to_itself, ten_is_compact}
use Rattle.icu_decimal.proofs.ShownDistinct.{equal_shown_texts_tell, shown_tells}
use Rattle.icu_decimal.proofs.WorkedAgain.{carried, carried_is, carried_magnitude, carried_rounded, carried_unpadded}
use Rattle.icu_decimal.proofs.WorkedAgain.{whole, million, million_is, million_magnitude, million_power, million_unpadded}
use Rattle.icu_decimal.proofs.WorkedEnglish.{row_entry, short_rows, with_table, english_short_readable}

-- what a table keeps of English short patterns: the types 3, 6, 9 and 12
abbrev table : List TableEntry
table = map row_entry short_rows

-- the entries of `K` and `M`
abbrev kilo : TableEntry
kilo = row_entry (record { exponent = 3; literal = codes "K" })

abbrev mega : TableEntry
mega = row_entry (record { exponent = 6; literal = codes "M" })

-- the 1 of `1M`
one_scaled : size one * 10 ^ 6 ≡ 10 ^ (finest + 6)
one_scaled = ap (λ f. weighed f (1 ∷ []) * 10 ^ 6) whole ∙ digits finest
  where
    digits : (f : ℕ) → weighed f (1 ∷ []) * 10 ^ 6 ≡ 10 ^ (f + 6)
    digits f = let last : 10 ^ (f + 0) ≡ 10 ^ f = ap (λ n. 10 ^ n) (omega arith) in omega (arith, pow-add 10 f 6)

one_is_decimal : IsUnsigned one
one_is_decimal = record {
  below_ten = All-cons (λ d. d < 10) 1 [] (omega arith) (All-nil (λ d. d < 10));
  integer_some = omega arith;
  high_limit = omega arith;
  low_limit = omega arith;
}

-- numbers of hundreds of thousands are rounded to thousands
thousands : rounding_place_for table (finest + 5) ≡ finest + 3
unfolding entry_for rounding_place finest
thousands = refl

kilo_here : entry_for table (finest + 5) ≡ Some kilo
unfolding entry_for finest
kilo_here = refl

mega_there : entry_for table (finest + 6) ≡ Some mega
unfolding entry_for finest
mega_there = refl

-- 999500 is carried to a million, which stays as it is
carried_nearest : IsNearestCompact table (size carried) (10 ^ (finest + 6))
carried_nearest =
    nearest_compact_from_rounded table (size carried) (10 ^ (finest + 6))
    (rw (carried_magnitude, thousands, carried_is) carried_rounded)

million_nearest : IsNearestCompact table (size million) (10 ^ (finest + 6))
million_nearest =
    let unit = 10 ^ rounding_place_for table (magnitude_place (10 ^ (finest + 6))) in
    rw million_is (nearest_to_itself (IsCompactNumber table) unit (10 ^ (finest + 6)) (ten_is_compact table (finest + 6)))

-- both are displayed as 1M
carried_decomposed : IsDecomposed table carried (10 ^ (finest + 6)) (Some mega) one
carried_decomposed = record {
  nearest = carried_nearest;
  entry_is = rw (magnitude_place-ten (finest + 6), mega_there) refl;
  scaled = one_scaled;
  is_decimal = one_is_decimal;
  trimmed = inl refl;
  high_is = rw (carried_magnitude, magnitude_place-ten (finest + 6), mega_there, kilo_here, million_power) refl;
}

million_decomposed : IsDecomposed table million (10 ^ (finest + 6)) (Some mega) one
million_decomposed = record {
  nearest = million_nearest;
  entry_is = rw (magnitude_place-ten (finest + 6), mega_there) refl;
  scaled = one_scaled;
  is_decimal = one_is_decimal;
  trimmed = inl refl;
  high_is = rw (million_magnitude, magnitude_place-ten (finest + 6), mega_there, million_power) refl;
}

abbrev format : CompactFormat
format = with_table short_rows

abbrev events : List Event
events = signed_events format.decimal.symbols NoSign (without_parts (filled_events format (Some mega) one))

-- a decimal that is written as these events, by 1 and the exponent 6: it is shown as a million, in the characters `1M`
pub record IsOneM (d : Unsigned) : Type 0 where
  pub written_as : List Event
  pub written : IsCompactFormat format NoSign d one 6 written_as
  pub shown_is : written.shown ≡ 10 ^ (finest + 6)
  pub characters_are : characters written_as ≡ codes "1M"

decomposed_is_one_m : (d : Unsigned) → IsDecomposed table d (10 ^ (finest + 6)) (Some mega) one → IsOneM d
unfolding chars
decomposed_is_one_m d decomposed = record {
  written_as = events;
  written = record { shown = 10 ^ (finest + 6); entry = Some mega; decomposed = decomposed; exponent_is = refl; events_are = refl };
  shown_is = refl;
  characters_are = refl;
}

-- 999500 is written so
pub carried_is_one_m : IsOneM carried
carried_is_one_m = decomposed_is_one_m carried carried_decomposed

-- and so is the million
pub million_is_one_m : IsOneM million
million_is_one_m = decomposed_is_one_m million million_decomposed

abbrev carried_events : List Event
carried_events = carried_is_one_m.written_as

abbrev million_events : List Event
million_events = million_is_one_m.written_as

same_shown : carried_is_one_m.written.shown ≡ million_is_one_m.written.shown
same_shown = carried_is_one_m.shown_is ∙ sym million_is_one_m.shown_is

-- so the law says that their characters are the same, and that their texts are
pub carry_distinct : (characters carried_events ≡ characters million_events) × (text_of carried_events ≡ text_of million_events)
carry_distinct =
    let first = carried_is_one_m.written in
    let second = million_is_one_m.written in
    let alike = shown_tells format NoSign NoSign carried million one one 6 6 carried_events million_events
    english_short_readable carried_unpadded million_unpadded first second in
    let texts_alike = equal_shown_texts_tell format NoSign NoSign carried million one one 6 6 carried_events million_events
    (text_of carried_events) (text_of million_events) english_short_readable carried_unpadded million_unpadded first second refl refl in
    (alike.1 (refl, same_shown), texts_alike.1 (refl, same_shown))
