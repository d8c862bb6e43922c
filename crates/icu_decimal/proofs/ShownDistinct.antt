-- What a readable compact text determines of an unpadded decimal.
use Rattle.std.proofs.Common.{◌≡◌, ℕ, suc, ◌*◌, ◌^◌, ◌-ℤ◌, pos, true, false, nat_le, refl, arith, sym, ap, ap₂, ◌∙◌, List, []}
use Rattle.std.proofs.Common.{◌∷◌, Option, Some, None, if◌then◌else◌, inl}
use Rattle.std.specs.Int.{int_max}
use Rattle.std.specs.Option.{option_or}
use Rattle.std.specs.Str.{encode_utf8_all}
use Rattle.fixed_decimal.specs.declared.signs.Sign.{Sign}
use Rattle.fixed_decimal.specs.Size.{magnitude_place, magnitude, size}
use Rattle.fixed_decimal.specs.Unsigned.{Unsigned, high}
use Rattle.writeable.specs.Events.{Event, characters, without_parts}
use Rattle.icu_decimal_data.specs.CompactTable.{TableEntry, entry_for, exponent_of, type_place}
use Rattle.icu_decimal.specs.CompactFormat.{CompactFormat, IsCompactFormat, filled_events}
use Rattle.icu_decimal.specs.CompactLaws.{IsUnpadded}
use Rattle.icu_decimal.specs.Decimal.{signed_events}
use Rattle.icu_decimal.specs.Decomposed.{decomposed_entry}
use Rattle.icu_decimal_readable.specs.Readable.{IsEntryOf}
use Rattle.icu_decimal.specs.ReadableLaws.{EqualCompactTextsTell, EqualShownTextsTell, ShownTextTells}
use Rattle.icu_decimal.proofs.CompactDistinct.{compact_tells}
use Rattle.icu_decimal.proofs.DecomposedOnce.{same_scaled, trimmed_distinct}
use Rattle.icu_decimal.proofs.ShownAgain.{high_unpadded, magnitude_shown}
use Rattle.icu_decimal.proofs.TextsDistinct.{same_characters}

-- the entry of a magnitude stands in the table
entry_in : (table : List TableEntry) (m : ℕ) → IsEntryOf table (entry_for table m)
unfolding entry_for
entry_in [] m = tt
entry_in (e ∷ es) m = go (entry_for es m) (entry_in es m)
  where
    last : IsEntryOf (e ∷ es) (if nat_le (type_place e) m then Some e else None)
    last = elim (nat_le (type_place e) m) as (λ b. IsEntryOf (e ∷ es) (if b then Some e else None)) [ true ↦ (0, omega arith, refl) | false ↦ tt ]

    go : (x : Option TableEntry) → IsEntryOf es x → IsEntryOf (e ∷ es) (option_or x (if nat_le (type_place e) m then Some e else None))
    go None h = last
    go (Some y) (k, l, is) = (suc k, omega (arith, l), is)

-- so does the entry that is displayed
shown_in : (f : CompactFormat) (s : Sign) (c x : Unsigned) (m : ℕ) (es : List Event) (h : IsCompactFormat f s c x m es) → IsEntryOf f.table h.entry
shown_in f s c x m es h = rw h.decomposed.entry_is (entry_in f.table (magnitude_place h.shown))

-- how far the significand of an unpadded decimal is written
high_of : (f : CompactFormat) (s : Sign) (c x : Unsigned) (m : ℕ) (es : List Event) (h : IsCompactFormat f s c x m es) → IsUnpadded c
    → high x ≡ int_max (pos 0) (magnitude h.shown -ℤ pos (exponent_of (decomposed_entry f.table h.shown)))
high_of f s c x m es h unpadded = h.decomposed.high_is ∙ high_unpadded f.table c h.shown unpadded
    (magnitude_shown f.table (size c) h.shown h.decomposed.nearest)

-- readable texts are equal exactly where signs and shown numbers are
pub shown_tells : ShownTextTells
shown_tells f s t c d x y m n es fs readable unpadded_c unpadded_d first second = (
  λ same.
      let distinct = compact_tells f s t first.entry second.entry x y es fs readable
      (shown_in f s c x m es first) (shown_in f t d y n fs second) first.decomposed.is_decimal second.decomposed.is_decimal
      (inl first.events_are) (inl second.events_are) same in
      (distinct.0, sym first.decomposed.scaled ∙ ap₂ (λ u e. size u * 10 ^ e) distinct.1 distinct.2 ∙ second.decomposed.scaled),
  λ same.
      let entries : first.entry ≡ second.entry = first.decomposed.entry_is ∙ ap (decomposed_entry f.table) same.1 ∙ sym second.decomposed.entry_is in
      let highs : high x ≡ high y =
      high_of f s c x m es first unpadded_c
      ∙ ap (λ z. int_max (pos 0) (magnitude z -ℤ pos (exponent_of (decomposed_entry f.table z)))) same.1
      ∙ sym (high_of f t d y n fs second unpadded_d) in
      let significands : x ≡ y =
      trimmed_distinct x y first.decomposed.is_decimal second.decomposed.is_decimal first.decomposed.trimmed second.decomposed.trimmed
      (same_scaled first.entry second.entry (size x) (size y) first.shown second.shown entries same.1 first.decomposed.scaled second.decomposed.scaled)
      highs in
      ap characters first.events_are ∙ written same.0 entries significands ∙ sym (ap characters second.events_are),
)
  where
    written : {a b : Sign} {e e' : Option TableEntry} {u v : Unsigned} → a ≡ b → e ≡ e' → u ≡ v
        → characters (signed_events f.decimal.symbols a (without_parts (filled_events f e u)))
        ≡ characters (signed_events f.decimal.symbols b (without_parts (filled_events f e' v)))
    written p q r = λ i. characters (signed_events f.decimal.symbols (p i) (without_parts (filled_events f (q i) (r i))))

-- equal texts of `format` are of equal signs, significands and exponents
pub equal_compact_texts_tell : EqualCompactTextsTell
equal_compact_texts_tell f s t c d x y m n es fs one other readable first second text_is other_is same =
    let distinct = compact_tells f s t first.entry second.entry x y es fs readable
    (shown_in f s c x m es first) (shown_in f t d y n fs second) first.decomposed.is_decimal second.decomposed.is_decimal
    (inl first.events_are) (inl second.events_are) (same_characters es fs one other text_is other_is same) in
    (distinct.0, distinct.1, first.exponent_is ∙ distinct.2 ∙ sym second.exponent_is)

-- and texts of unpadded decimals are equal exactly where signs and shown numbers are
pub equal_shown_texts_tell : EqualShownTextsTell
equal_shown_texts_tell f s t c d x y m n es fs one other readable unpadded_c unpadded_d first second text_is other_is =
    let distinct = shown_tells f s t c d x y m n es fs readable unpadded_c unpadded_d first second in (
      λ same. distinct.0 (same_characters es fs one other text_is other_is same),
      λ same. text_is ∙ ap encode_utf8_all (distinct.1 same) ∙ sym other_is,
    )
