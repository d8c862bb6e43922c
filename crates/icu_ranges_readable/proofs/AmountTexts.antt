-- Equal texts of readable ranges of amounts are of equal ranges.
use Rattle.std.proofs.Common.{◌≡◌, ◌≢◌, inl, inr, ℕ, refl, sym, ap, ◌∙◌, List, [], ◌++◌, append_assoc, append-nil}
use Rattle.std.proofs.Common.{Bool, true, false, ◌&&◌, if◌then◌else◌}
use Rattle.std.specs.Str.{chars}
use Rattle.std.proofs.lemmas.Bool.{and_parts}
use Rattle.fixed_decimal.specs.declared.signed.Decimal.{Decimal}
use Rattle.fixed_decimal.specs.declared.signs.Sign.{Sign}
use Rattle.fixed_decimal.specs.declared.signs.Sign.TheVariants.{Negative, Positive, None as NoSign}
use Rattle.writeable.specs.Events.{Event, characters}
use Rattle.icu_decimal.specs.Decimal.{DecimalFormat, unsigned_events}
use Rattle.icu_decimal.proofs.TextsDistinct.{same_characters}
use Rattle.icu_decimal_readable.specs.Readable.{Surroundings}
use Rattle.icu_dimension.specs.Money.{SignedFormat, sign_framed}
use Rattle.icu_dimension.specs.MoneyReadable.{money_surroundings}
use Rattle.icu_dimension.proofs.MoneyDistinct.{characters-framed}
use Rattle.icu_dimension_data.specs.Resolved.{Signed}
use Rattle.icu_ranges.specs.declared.options.RangeIdentityFallback.{RangeIdentityFallback}
use Rattle.icu_ranges.specs.declared.options.RangeIdentityFallback.TheVariants.{Approximately}
use Rattle.icu_ranges.specs.Approximately.{amount_approximated}
use Rattle.icu_ranges.specs.Around.{around_joined, around_none, has_no_sign, is_shared}
use Rattle.icu_ranges.specs.Edges.{is_long}
use Rattle.icu_ranges.specs.Joined.{joined}
use Rattle.icu_ranges.specs.Order.{Ends}
use Rattle.icu_ranges.specs.Ranges.{is_single, single_of}
use Rattle.icu_ranges.specs.Separator.{Separator}
use Rattle.icu_ranges_readable.specs.RangeLaws.{AmountRangeTextTellsBothEnds, AreDecimals, EqualAmountRangeTextsTell, plain_amounts}
use Rattle.icu_ranges_readable.specs.ReadableRange.{IsApart, IsReadableAmountRange}
use Rattle.icu_ranges_readable.proofs.JoinedTexts.{are_joined, single_exact, single_same}
use Rattle.icu_ranges_readable.proofs.RangesTold.{IsRange, alone, ranges_tell, singles}
use Rattle.icu_ranges_readable.proofs.Spaces.{spaces}
use Rattle.icu_ranges_readable.proofs.TwoNumbers.{TellsSigns, tells_signs}

-- a sign that is none
no_sign : (s : Sign) → has_no_sign s ≡ true → s ≡ NoSign
no_sign NoSign e = refl
no_sign Negative e = cc
no_sign Positive e = cc

-- what is written once is written around numbers without a sign
shared_unsigned : (patterns : Signed) (s t : Sign) → is_shared patterns s t ≡ true → (s ≡ NoSign) × (t ≡ NoSign)
shared_unsigned patterns s t e =
    let both = and_parts (has_no_sign s && has_no_sign t) (is_long (characters (around_none patterns))) e in
    let signs = and_parts (has_no_sign s) (has_no_sign t) both.0 in
    (no_sign s signs.0, no_sign t signs.1)

-- lists in common surroundings
in_common : (a b c d i j : List ℕ) → a ++ (([] ++ (b ++ (([] ++ c) ++ (d ++ [])))) ++ j) ≡ a ++ (b ++ (c ++ (d ++ j)))
in_common a b c d i j = simp (append_assoc, append-nil)

module _ (f : SignedFormat DecimalFormat) (separator : Separator) (h : IsReadableAmountRange f separator) where
  -- the separator stands apart from numbers
  apart : IsApart f.formatter (chars separator.text)
  apart = h.apart

  -- what stands around numbers of each sign
  abbrev around : Sign → Surroundings
  around s = money_surroundings f.patterns s

  -- what stands before a number tells its sign
  tells : TellsSigns f.formatter (chars separator.text) apart around
  tells = tells_signs f.formatter (chars separator.text) apart around h.around_free h.signs_before

  -- what is written once
  abbrev once : Sign → Sign → Bool
  once s t = is_shared f.patterns s t

  once_unsigned : (s t : Sign) → once s t ≡ true → (s ≡ NoSign) × (t ≡ NoSign)
  once_unsigned s t e = shared_unsigned f.patterns s t e

  -- a number without what stands around it
  abbrev bare : Decimal → List Event
  bare n = unsigned_events f.formatter n.absolute

  -- what is written for an amount
  abbrev written : Decimal → List Event
  written n = sign_framed f.patterns n.sign (bare n)

  -- what would be written with the approximately sign
  abbrev approximate : Decimal → List Event
  approximate n = amount_approximated separator.approximately f.patterns n.sign (bare n)

  -- its characters
  characters-alone : (n : Decimal) → characters (written n) ≡ alone f.formatter (chars separator.text) apart around tells once once_unsigned n
  characters-alone n = characters-framed f.patterns n.sign (bare n)

  -- the characters of a number alone, with nothing around it
  characters-bare : (n : Decimal) → characters (bare n) ≡ [] ++ (characters (bare n) ++ [])
  characters-bare n = sym (append-nil (characters (bare n)))

  -- two amounts, joined in either way, are a range
  both_ways : (p : Ends) (b : Bool) → is_shared f.patterns p.start.sign p.end.sign ≡ b →
      IsRange f.formatter (chars separator.text) apart around tells once once_unsigned [] tt p
      (characters (if b then sign_framed f.patterns NoSign (joined separator (bare p.start) (bare p.end))
      else joined separator (written p.start) (written p.end)))
  both_ways p true e =
      let j = are_joined separator (bare p.start) (bare p.end) [] (characters (bare p.start)) [] [] (characters (bare p.end)) []
      (characters-bare p.start) (characters-bare p.end) in
      inr (inr (record {
        back = j.back;
        next = j.next;
        together = e;
        all = characters-framed f.patterns NoSign (joined separator (bare p.start) (bare p.end))
            ∙ ap (λ l. (around NoSign).before ++ (l ++ (around NoSign).after)) j.all
            ∙ in_common (around NoSign).before (characters (bare p.start)) (spaces j.back ++ (chars separator.text ++ (spaces j.next ++ [])))
            (characters (bare p.end)) [] (around NoSign).after;
      }))
  both_ways p false e =
      let j = are_joined separator (written p.start) (written p.end) (around p.start.sign).before (characters (bare p.start))
      (around p.start.sign).after (around p.end.sign).before (characters (bare p.end)) (around p.end.sign).after
      (characters-alone p.start) (characters-alone p.end) in
      inr (inl (record { back = j.back; next = j.next; apart = e; all = j.all }))

  -- what is written for two amounts is a range of them
  is_range : (fallback : RangeIdentityFallback) (p : Ends) → fallback ≢ Approximately → AreDecimals p →
      IsRange f.formatter (chars separator.text) apart around tells once once_unsigned [] tt p
      (characters (plain_amounts f (record { separator = separator; fallback = fallback }) p))
  is_range fallback p exact hp =
      go (is_single fallback (written p.start) (written p.end)) refl
    where
      go : (b : Bool) → is_single fallback (written p.start) (written p.end) ≡ b →
          IsRange f.formatter (chars separator.text) apart around tells once once_unsigned [] tt p
          (characters (if b then single_of fallback (written p.start) (approximate p.start)
          else around_joined separator f.patterns p.start.sign p.end.sign (bare p.start) (bare p.end)))
      go true e = inl (record {
        all = ap characters (single_exact fallback (written p.start) (approximate p.start) exact) ∙ characters-alone p.start;
        same = singles f.formatter (chars separator.text) apart around tells once once_unsigned p.start p.end hp.start hp.end
            (sym (characters-alone p.start)
            ∙ same_characters (written p.start) (written p.end) _ _ refl refl (single_same fallback (written p.start) (written p.end) e)
            ∙ characters-alone p.end);
      })
      go false e = both_ways p (is_shared f.patterns p.start.sign p.end.sign) refl

-- equal characters of readable ranges of amounts are of equal ranges
pub amounts_tell : AmountRangeTextTellsBothEnds
amounts_tell f style p q exact h hp hq e =
    ranges_tell f.formatter (chars style.separator.text) (apart f style.separator h) (around f style.separator h) (tells f style.separator h)
    (once f style.separator h) (once_unsigned f style.separator h) [] tt p q _ _
    hp hq (is_range f style.separator h style.fallback p exact hp) (is_range f style.separator h style.fallback q exact hq) e

-- so are those that `write_to_string` answers
pub equal_amounts_tell : EqualAmountRangeTextsTell
equal_amounts_tell f style p q one other exact h hp hq first second same =
    amounts_tell f style p q exact h hp hq (same_characters (plain_amounts f style p) (plain_amounts f style q) one other first second same)
