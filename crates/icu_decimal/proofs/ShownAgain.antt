-- What is shown of a decimal is shown again in the same way.
-- The shown size is a compact number, so it is its own nearest one, and it has the same entry. The significand is the same too where no
-- decimal has leading padding: then `decomposed_high` is a function of the shown size alone (`high_unpadded`, by cases on whether the entry
-- is that of the decimal's own magnitude). That nothing else is written comes from `decomposed_is_one` of DisplayedOnce.
-- For `format_with_exponent` the magnitude of significand and exponent together has to have the same entry (`given_entry`). A significand 0
-- is a case of its own, as its magnitude is that of 1: there the exponent is 0. That call keeps the parts of the number and `format` doesn't,
-- so the two are compared without parts.
use Rattle.std.proofs.Common.{◌≡◌, ℕ, zero, suc, ◌+◌, ◌*◌, ◌^◌, ◌≤◌, ◌⊎◌, ⊎_elim, inl, inr, refl, arith, sym, ap, ◌∙◌}
use Rattle.std.proofs.Common.{List, [], ◌∷◌, ◌++◌, Option, codes, pos, ◌+ℤ◌, ◌-ℤ◌}
use Rattle.std.specs.Int.{int_max}
use Rattle.std.specs.Str.{encode_utf8_all}
use Rattle.std.proofs.lemmas.Bool.{cases_Bool, cases_eq}
use Rattle.std.proofs.lemmas.Int.{ints, clamps}
use Rattle.fixed_decimal.specs.declared.signs.Sign.{Sign}
use Rattle.fixed_decimal.specs.declared.signs.Sign.TheVariants.{None, Negative, Positive}
use Rattle.fixed_decimal.specs.Size.{finest, place, size, magnitude_place, magnitude}
use Rattle.fixed_decimal.specs.Unsigned.{Unsigned, high}
use Rattle.fixed_decimal.proofs.Weights.{ten_pos}
use Rattle.fixed_decimal.proofs.MagnitudePlaces.{magnitude_place_monotone, magnitude_place-ten, magnitude_place-zero, magnitude_place_times}
use Rattle.writeable.specs.Events.{Event, text_events, without_parts, characters}
use Rattle.writeable.specs.Events.Event.{Char, Open, Close}
use Rattle.icu_decimal_data.specs.CompactTable.{TableEntry, IsCompactTable, entry_for, exponent_of}
use Rattle.icu_decimal_data.specs.declared.decimal_symbols.DecimalSymbols.{DecimalSymbols}
use Rattle.icu_decimal.specs.CompactFormat.{CompactFormat, filled_events, magnitude_with, events_with_exponent}
use Rattle.icu_decimal.specs.CompactNumber.{rounding_place_for, IsCompactNumber, IsNearestCompact, ShowsPastLimits}
use Rattle.icu_decimal.specs.Decimal.{signed_events}
use Rattle.icu_decimal.specs.Decomposed.{are_same_entry, decomposed_entry, decomposed_high, IsDecomposed}
use Rattle.icu_decimal.specs.CompactLaws.{IsUnpadded, IsWrittenAlone, IsShownAgain, ShownIsAccepted}
use Rattle.icu_decimal.specs.Part.{in_decimal_part}
use Rattle.writeable.proofs.LawLemmas.{characters-without_parts}
use Rattle.writeable.specs.Writes.{without_parts-append}
use Rattle.icu_decimal.proofs.CompactCore.{exponent_le_magnitude}
use Rattle.icu_decimal.proofs.DecomposedOnce.{decomposed_is_one}
use Rattle.icu_decimal.specs.NearestLemmas.{nearest_to_itself, itself_nearest, nearest_within, zero_is_compact}
use Rattle.icu_decimal.proofs.PowerPlaces.{place_is}

-- a nearest compact number has no lower magnitude
pub magnitude_shown : (table : List TableEntry) (x y : ℕ) → IsNearestCompact table x y → magnitude_place x ≤ magnitude_place y
magnitude_shown table zero y n =
    let none : y ≡ 0 = itself_nearest (IsCompactNumber table) (10 ^ rounding_place_for table (magnitude_place 0)) 0 y (zero_is_compact table) n in
    rw none (omega arith)
magnitude_shown table (suc k) y n =
    let bottom = (nearest_within table (suc k) (omega arith) y n).0 in
    omega (
      arith,
      magnitude_place_monotone (10 ^ magnitude_place (suc k)) y (ten_pos (magnitude_place (suc k))) bottom,
      magnitude_place-ten (magnitude_place (suc k)),
    )

-- and is its own nearest one
nearest_again : (table : List TableEntry) (x y z : ℕ) → IsNearestCompact table x y → z ≡ y → IsNearestCompact table z y
nearest_again table x y z n same = rw same (nearest_to_itself (IsCompactNumber table) (10 ^ rounding_place_for table (magnitude_place y)) y n.allowed)

-- what is displayed of an unpadded decimal has no padding, by whichever entry
pub high_unpadded : (table : List TableEntry) (d : Unsigned) (y : ℕ) → IsUnpadded d → magnitude_place (size d) ≤ magnitude_place y →
    decomposed_high table d y ≡ int_max (pos 0) (magnitude y -ℤ pos (exponent_of (decomposed_entry table y)))
high_unpadded table d y unpadded rises =
    ⊎_elim (λ same. rw same (widest (exponent_of (decomposed_entry table y)))) (λ other. rw other refl)
    (cases_Bool (are_same_entry (decomposed_entry table y) (entry_for table (magnitude_place (size d)))))
  where
    widest : (e : ℕ) → int_max (pos 0) (int_max (high d) (magnitude y) -ℤ pos e) ≡ int_max (pos 0) (magnitude y -ℤ pos e)
    widest e = omega (arith, ints, clamps, unpadded)

-- so what is displayed of it is displayed of every unpadded decimal of the shown size
decomposed_again : (table : List TableEntry) (d again s : Unsigned) (y : ℕ) (entry : Option TableEntry) → IsDecomposed table d y entry s → IsUnpadded d
    →
    IsUnpadded again → size again ≡ y → IsDecomposed table again y entry s
decomposed_again table d again s y entry h unpadded unpadded_again same = record {
  nearest = nearest_again table (size d) y (size again) h.nearest same;
  entry_is = h.entry_is;
  scaled = h.scaled;
  is_decimal = h.is_decimal;
  trimmed = h.trimmed;
  high_is =
      h.high_is ∙ high_unpadded table d y unpadded (magnitude_shown table (size d) y h.nearest)
      ∙ sym (high_unpadded table again y unpadded_again (rw same (omega arith)));
}

-- what is written of a decimal is one, and what is displayed decides it
written_alone : (format : CompactFormat) (sign : Sign) (d s : Unsigned) (exponent : ℕ) (events : List Event) (y : ℕ) (entry : Option TableEntry) →
    IsDecomposed format.table d y entry s → exponent ≡ exponent_of entry
    → events ≡ signed_events format.decimal.symbols sign (without_parts (filled_events format entry s)) →
    IsWrittenAlone format sign d s exponent events y entry
written_alone format sign d s exponent events y entry h exponent_is events_are = record {
  written = record { shown = y; entry = entry; decomposed = h; exponent_is = exponent_is; events_are = events_are };
  alone = λ t other others k.
      let one = decomposed_is_one format.table d k.shown y k.entry entry t s k.decomposed h in (
        one.0,
        one.1,
        one.2,
        k.exponent_is ∙ ap exponent_of one.1 ∙ sym exponent_is,
        k.events_are ∙ events_of one.1 one.2 ∙ sym events_are,
      );
}
  where
    events_of : {e e' : Option TableEntry} {u v : Unsigned} → e ≡ e' → u ≡ v →
        signed_events format.decimal.symbols sign (without_parts (filled_events format e u))
        ≡ signed_events format.decimal.symbols sign (without_parts (filled_events format e' v))
    events_of p q = λ i. signed_events format.decimal.symbols sign (without_parts (filled_events format (p i) (q i)))

-- what is shown is shown again
pub shown_again : (format : CompactFormat) (sign : Sign) (d again : Unsigned) → IsUnpadded d → IsUnpadded again → IsShownAgain format sign d again
shown_again format sign d again unpadded unpadded_again = record {
  alike = λ s exponent events first same.
      written_alone format sign again s exponent events first.shown first.entry
      (decomposed_again format.table d again s first.shown first.entry first.decomposed unpadded unpadded_again same)
      first.exponent_is first.events_are;
  within = λ y near same past. past_again y near same past;
}
  where
    past_again : (y : ℕ) → IsNearestCompact format.table (size d) y → size again ≡ y → ShowsPastLimits format.table (size again) →
        ShowsPastLimits format.table (size d)
    past_again y near same (z, other, large) =
        let allowed : IsCompactNumber format.table (size again) = rw same near.allowed in
        let itself : z ≡ size again = itself_nearest (IsCompactNumber format.table) (10 ^ rounding_place_for format.table (magnitude_place (size again)))
        (size again) z allowed other in
        (y, near, omega arith)

-- the magnitude of a significand and an exponent together
together : (m e : ℕ) → place ((pos m -ℤ pos finest) +ℤ pos e) ≡ m + e
together m e = place_is ((pos m -ℤ pos finest) +ℤ pos e) (m + e) (omega (arith, ints))

-- the entry of that magnitude is the one that was displayed
given_entry : (table : List TableEntry) (s : Unsigned) (y : ℕ) (entry : Option TableEntry) → IsCompactTable table →
    entry ≡ entry_for table (magnitude_place y) → size s * 10 ^ exponent_of entry ≡ y →
    entry_for table (place (magnitude_with s (exponent_of entry))) ≡ entry
given_entry table s y entry t is scaled = ap (entry_for table) (together (magnitude_place (size s)) (exponent_of entry)) ∙ go (cases_eq (size s) 0)
  where
    go : (size s ≡ 0) ⊎ (¬ (size s ≡ 0)) → entry_for table (magnitude_place (size s) + exponent_of entry) ≡ entry
    go (inr some) = ap (entry_for table) (sym (magnitude_place_times (size s) (exponent_of entry) (omega arith)) ∙ ap magnitude_place scaled) ∙ sym is
    go (inl nothing) =
        let none : y ≡ 0 = sym scaled ∙ rw nothing (omega arith) in
        let least : magnitude_place y ≡ finest = ap magnitude_place none ∙ magnitude_place-zero in
        let here : entry ≡ entry_for table finest = is ∙ ap (entry_for table) least in
        let zero_exponent : exponent_of entry ≡ 0 = no_exponent (exponent_le_magnitude table finest t) (ap exponent_of here) in
        let same : magnitude_place (size s) ≡ finest = ap magnitude_place nothing ∙ magnitude_place-zero in
        let sum : magnitude_place (size s) + exponent_of entry ≡ finest = omega arith in
        ap (entry_for table) sum ∙ sym here
      where
        no_exponent : (exponent_of (entry_for table finest) ≡ 0) ⊎ (exponent_of (entry_for table finest) + finest ≤ finest) →
            exponent_of entry ≡ exponent_of (entry_for table finest) → exponent_of entry ≡ 0
        no_exponent (inl e) f = f ∙ e
        no_exponent (inr h) f = omega arith

-- events without parts have no parts to leave out
without_parts-twice : (es : List Event) → without_parts (without_parts es) ≡ without_parts es
without_parts-twice [] = refl
without_parts-twice (Char c ∷ es) = ap (λ l. Char c ∷ l) (without_parts-twice es)
without_parts-twice (Open category value ∷ es) = without_parts-twice es
without_parts-twice (Close ∷ es) = without_parts-twice es

-- between two affixes parts inside make no difference to the characters
between : (before after es : List Event) → without_parts (before ++ (es ++ after)) ≡ without_parts (before ++ (without_parts es ++ after))
between before after es =
    without_parts-append before (es ++ after) ∙ ap (λ l. without_parts before ++ l) inner ∙ sym (without_parts-append before (without_parts es ++ after))
  where
    inner : without_parts (es ++ after) ≡ without_parts (without_parts es ++ after)
    inner =
        without_parts-append es after ∙ ap (λ l. l ++ without_parts after) (sym (without_parts-twice es))
        ∙ sym (without_parts-append (without_parts es) after)

-- and so it is between the affixes of a sign
signed_without_parts : (symbols : DecimalSymbols) (sign : Sign) (es : List Event) →
    without_parts (signed_events symbols sign es) ≡ without_parts (signed_events symbols sign (without_parts es))
signed_without_parts symbols None es = sym (without_parts-twice es)
signed_without_parts symbols Negative es =
    between (in_decimal_part (codes "minusSign") (text_events symbols.strings.minus_sign_prefix))
    (in_decimal_part (codes "minusSign") (text_events symbols.strings.minus_sign_suffix)) es
signed_without_parts symbols Positive es =
    between (in_decimal_part (codes "plusSign") (text_events symbols.strings.plus_sign_prefix))
    (in_decimal_part (codes "plusSign") (text_events symbols.strings.plus_sign_suffix)) es

-- the significand and the exponent that are shown are accepted as they are
pub shown_is_accepted : ShownIsAccepted
shown_is_accepted format sign d s exponent events t first =
    let decomposed = first.decomposed in
    let entry_is = given_entry format.table s first.shown first.entry t decomposed.entry_is decomposed.scaled in
    let by_exponent : entry_for format.table (place (magnitude_with s exponent)) ≡ first.entry =
    ap (λ e. entry_for format.table (place (magnitude_with s e))) first.exponent_is ∙ entry_is in
    let alike : without_parts (events_with_exponent format sign s exponent) ≡ without_parts events =
    ap (λ o. without_parts (signed_events format.decimal.symbols sign (filled_events format o s))) by_exponent
    ∙ signed_without_parts format.decimal.symbols sign (filled_events format first.entry s) ∙ ap without_parts (sym first.events_are) in
    record {
      accepted = first.exponent_is ∙ ap exponent_of (sym by_exponent);
      characters_are = alike;
      text_is = ap encode_utf8_all (sym (characters-without_parts (events_with_exponent format sign s exponent)) ∙ ap characters alike
          ∙ characters-without_parts events);
    }
