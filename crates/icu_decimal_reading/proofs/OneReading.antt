-- A text of a readable formatter, with its groups or with none, determines its decimal.
-- This is the proof of proofs/TextsDistinct of `icu_decimal` for two formats that differ in their options: groups are any runs of digits there.
use Rattle.std.proofs.Common.{◌≡◌, ◌⊎◌, inl, inr, ℕ, refl, sym, ap, ap₂, ◌∙◌, List, ◌++◌, map, slice_index, Ok, Err, encode_utf8_all}
use Rattle.std.specs.Str.{chars}
use Rattle.std.proofs.lemmas.Str.{encodes-chars}
use Rattle.fixed_decimal.specs.declared.signs.Sign.{Sign}
use Rattle.fixed_decimal.specs.Unsigned.{Unsigned, IsUnsigned, integer, fraction}
use Rattle.writeable.specs.Events.{text_of}
use Rattle.icu_decimal_symbols.specs.declared.decimal_symbols.DecimalSymbols.{DecimalSymbols}
use Rattle.icu_decimal_options.specs.Grouping.{concatenated}
use Rattle.icu_decimal_options.proofs.GroupingLaws.{concatenated-digit_groups}
use Rattle.icu_decimal_options.specs.declared.options.DecimalFormatterOptions.{DecimalFormatterOptions}
use Rattle.icu_decimal.specs.Decimal.{DecimalFormat, decimal_events, strategy_of, unsigned_events}
use Rattle.icu_decimal_readable.specs.Readable.{Surroundings, affixes, IsReadable}
use Rattle.icu_decimal.proofs.CharactersShown.{digit_characters, groups_of, characters-unsigned, characters-signed}
use Rattle.icu_decimal.proofs.DigitsDistinct.{IsDigitOf, IsOther, characters_tell, integer_below, fraction_below, unsigned_same, group_characters}
use Rattle.icu_decimal.proofs.DigitsDistinct.{fraction_characters}
use Rattle.icu_decimal.proofs.Runs.{every_of_all, number_tells, concatenated-map}
use Rattle.icu_decimal.proofs.TextsDistinct.{are_others}
use Rattle.icu_decimal_reading.specs.declared.error.NotRead.TheVariants.{NoNumber, OutOfMemory}
use Rattle.icu_decimal_reading.specs.Reading.{written, ungrouped, IsTextOf}
use Rattle.icu_decimal_reading.specs.ReadingLaws.{OneReading, ReadIsWritten, WrittenIsRead}

-- a number's groups are its digits at power 0 and above, in the formatter's characters
groups_spelled : (f : DecimalFormat) (b : Unsigned) → concatenated (map (λ g. digit_characters f g) (groups_of f b)) ≡ digit_characters f (integer b)
groups_spelled f b = concatenated-map (slice_index f.digits) (groups_of f b)
    ∙ ap (digit_characters f) (concatenated-digit_groups (integer b) f.symbols.grouping_sizes (strategy_of f.options))

module _ (symbols : DecimalSymbols) (digits : List ℕ) (readable : IsReadable symbols.strings digits) where
  -- the format with these options
  abbrev under : DecimalFormatterOptions → DecimalFormat
  under options = record { symbols = symbols; digits = digits; options = options }

  -- equal texts are of equal decimals, also with other options
  tells : (o p : DecimalFormatterOptions) (s t : Sign) (c d : Unsigned) → IsUnsigned c → IsUnsigned d →
      written (under o) s c ≡ written (under p) t d → (s ≡ t) × (c ≡ d)
  tells o p s t c d hc hd e =
      let gc = group_characters (under o) readable c hc in
      let gd = group_characters (under p) readable d hd in
      let ha = are_others (under o) (affixes symbols.strings s) (readable.affixes_free s) in
      let hb = are_others (under o) (affixes symbols.strings t) (readable.affixes_free t) in
      let distinct = number_tells (IsDigitOf (under o)) (IsOther (under o)) (λ x is no. no is) (chars symbols.strings.decimal_separator)
      (every_of_all (IsOther (under o)) (chars symbols.strings.decimal_separator) readable.decimal_free) readable.decimal_some
      (chars symbols.strings.grouping_separator) (every_of_all (IsOther (under o)) (chars symbols.strings.grouping_separator) readable.grouping_free)
      readable.separators_differ
      (map (λ g. digit_characters (under o) g) (groups_of (under o) c)) (map (λ g. digit_characters (under p) g) (groups_of (under p) d))
      (digit_characters (under o) (fraction c)) (digit_characters (under p) (fraction d))
      (affixes symbols.strings s).before (affixes symbols.strings t).before (affixes symbols.strings s).after (affixes symbols.strings t).after
      gc.0 gd.0 gc.1 gd.1 (fraction_characters (under o) readable c hc) (fraction_characters (under p) readable d hd)
      ha.before hb.before ha.after hb.after
      (sym (characters-signed (under o) s (unsigned_events (under o) c)
      ∙ ap (λ l. (affixes symbols.strings s).before ++ (l ++ (affixes symbols.strings s).after)) (characters-unsigned (under o) c))
      ∙ e ∙ (characters-signed (under p) t (unsigned_events (under p) d)
      ∙ ap (λ l. (affixes symbols.strings t).before ++ (l ++ (affixes symbols.strings t).after)) (characters-unsigned (under p) d))) in
      let integers = characters_tell (under o) readable (integer c) (integer d) (integer_below c hc) (integer_below d hd)
      (sym (groups_spelled (under o) c) ∙ distinct.2 ∙ groups_spelled (under p) d) in
      let fractions = characters_tell (under o) readable (fraction c) (fraction d) (fraction_below c hc) (fraction_below d hd) distinct.3 in
      let of : List ℕ → List ℕ → Surroundings = λ x y. record { before = x; after = y } in
      (readable.sign_distinct s t (ap₂ of distinct.0 distinct.1), unsigned_same c d hc hd integers fractions)

-- each text is of one decimal
pub one : OneReading
one f cs s t c d h hc hd (inl e) (inl k) = tells f.symbols f.digits h f.options f.options s t c d hc hd (sym e ∙ k)
one f cs s t c d h hc hd (inl e) (inr k) = tells f.symbols f.digits h f.options (ungrouped f).options s t c d hc hd (sym e ∙ k)
one f cs s t c d h hc hd (inr e) (inl k) = tells f.symbols f.digits h (ungrouped f).options f.options s t c d hc hd (sym e ∙ k)
one f cs s t c d h hc hd (inr e) (inr k) = tells f.symbols f.digits h (ungrouped f).options (ungrouped f).options s t c d hc hd (sym e ∙ k)

-- what is written is read
pub written_read : WrittenIsRead
written_read f cs s c (Ok d) h hc t r = one f cs d.sign s d.absolute c h r.valid hc r.read t
written_read f cs s c (Err (NoNumber byte)) h hc t r = absurd (r.refused h s c hc t)
written_read f cs s c (Err OutOfMemory) h hc t r = refl

-- what is read is written
pub read_written : ReadIsWritten
read_written f text (Ok d) u r = go r.read
  where
    bytes : (es : List ℕ) → chars text ≡ es → text ≡ encode_utf8_all es
    bytes es e = sym (encodes-chars text u) ∙ ap encode_utf8_all e

    go : IsTextOf f (chars text) d.sign d.absolute
        → (text ≡ text_of (decimal_events f d.sign d.absolute)) ⊎ (text ≡ text_of (decimal_events (ungrouped f) d.sign d.absolute))
    go (inl e) = inl (bytes (written f d.sign d.absolute) e)
    go (inr e) = inr (bytes (written (ungrouped f) d.sign d.absolute) e)
read_written f text (Err e) u r = tt
