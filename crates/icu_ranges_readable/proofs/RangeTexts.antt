-- Equal texts of readable ranges are of equal ranges.
use Rattle.std.proofs.Common.{◌≡◌, inl, inr, ℕ, refl, sym, ap, ◌∙◌, List, [], ◌∷◌, ◌++◌, append-nil, Bool, true, false}
use Rattle.std.proofs.Common.{if◌then◌else◌}
use Rattle.std.specs.Str.{chars}
use Rattle.fixed_decimal.specs.declared.signed.Decimal.{Decimal}
use Rattle.fixed_decimal.specs.declared.signs.Sign.{Sign}
use Rattle.fixed_decimal.specs.declared.signs.Sign.TheVariants.{None as NoSign}
use Rattle.writeable.specs.Events.{Event, characters, text_events}
use Rattle.writeable.specs.Events.Event.{Close}
use Rattle.writeable.specs.Writes.{characters-append}
use Rattle.writeable.proofs.EventLemmas.{characters-map_Char}
use Rattle.icu_decimal.specs.Decimal.{DecimalFormat, decimal_events, unsigned_events}
use Rattle.icu_decimal.proofs.CharactersShown.{characters-signed}
use Rattle.icu_decimal.proofs.DigitsDistinct.{IsOther}
use Rattle.icu_decimal.proofs.Runs.{Every}
use Rattle.icu_decimal.proofs.TextsDistinct.{same_characters}
use Rattle.icu_decimal_readable.specs.Readable.{Surroundings, affixes}
use Rattle.icu_ranges.specs.declared.options.RangeIdentityFallback.{RangeIdentityFallback}
use Rattle.icu_ranges.specs.declared.options.RangeIdentityFallback.TheVariants.{SingleValue, Approximately, Range}
use Rattle.icu_ranges.specs.Approximately.{approximated, approximately_events}
use Rattle.icu_ranges.specs.Joined.{joined}
use Rattle.icu_ranges.specs.Order.{Ends}
use Rattle.icu_ranges.specs.Ranges.{is_single, single_of}
use Rattle.icu_ranges.specs.Separator.{Separator}
use Rattle.icu_ranges_readable.specs.Characters.{has_any}
use Rattle.icu_ranges_readable.specs.RangeLaws.{AreDecimals, EqualRangeTextsTell, RangeTextTellsBothEnds, plain_range}
use Rattle.icu_ranges_readable.specs.ReadableRange.{IsApart, IsReadableRange}
use Rattle.icu_ranges_readable.proofs.JoinedTexts.{are_joined, single_same}
use Rattle.icu_ranges_readable.proofs.MarksFound.{none_found}
use Rattle.icu_ranges_readable.proofs.RangesTold.{IsRange, alone, ranges_tell, singles}
use Rattle.icu_ranges_readable.proofs.TwoNumbers.{TellsSigns, tells_signs}

-- nothing is written once for both numbers
abbrev never : Sign → Sign → Bool
never s t = false

never_once : (s t : Sign) → never s t ≡ true → (s ≡ NoSign) × (t ≡ NoSign)
never_once s t e = cc

-- the characters of the approximately sign
characters-sign : (sign : List ℕ) → characters (approximately_events sign) ≡ chars sign
unfolding approximately_events
characters-sign sign =
    characters-append (text_events sign) (Close ∷ []) ∙ append-nil (characters (text_events sign)) ∙ characters-map_Char (chars sign)

-- what stands in front of a text that is written for both: the approximately sign, if that is wanted
abbrev front_of : RangeIdentityFallback → List ℕ → List ℕ
front_of SingleValue sign = []
front_of Approximately sign = chars sign
front_of Range sign = []

-- the characters of such a text
characters-single : (fallback : RangeIdentityFallback) (sign : List ℕ) (es : List Event) →
    characters (single_of fallback es (approximated sign es)) ≡ front_of fallback sign ++ characters es
characters-single SingleValue sign es = refl
characters-single Approximately sign es =
    characters-append (approximately_events sign) es ∙ ap (λ l. l ++ characters es) (characters-sign sign)
characters-single Range sign es = refl

-- no digit stands in front
front_free : (f : DecimalFormat) (fallback : RangeIdentityFallback) (sign : List ℕ) →
    (fallback ≡ Approximately → has_any f.digits (chars sign) ≡ false) → Every (IsOther f) (front_of fallback sign)
front_free f SingleValue sign none = tt
front_free f Approximately sign none = none_found f.digits (chars sign) (none refl)
front_free f Range sign none = tt

module _ (f : DecimalFormat) (separator : Separator) (h : IsReadableRange f separator) where
  -- the separator stands apart from numbers
  apart : IsApart f (chars separator.text)
  apart = h.apart

  -- the affixes of each sign
  abbrev around : Sign → Surroundings
  around s = affixes f.symbols.strings s

  -- what stands before a number tells its sign
  tells : TellsSigns f (chars separator.text) apart around
  tells = tells_signs f (chars separator.text) apart around h.apart.readable.affixes_free h.signs_before

  -- what is written for a number
  abbrev written : Decimal → List Event
  written n = decimal_events f n.sign n.absolute

  -- what would be written with the approximately sign
  abbrev approximate : Decimal → List Event
  approximate n = approximated separator.approximately (written n)

  -- the characters of a number
  characters-alone : (n : Decimal) → characters (written n) ≡ alone f (chars separator.text) apart around tells never never_once n
  characters-alone n = characters-signed f n.sign (unsigned_events f n.absolute)

  module _ (fallback : RangeIdentityFallback) (none : fallback ≡ Approximately → has_any f.digits (chars separator.approximately) ≡ false) where
    -- what stands in front of a number that is both ends
    abbrev front : List ℕ
    front = front_of fallback separator.approximately

    free : Every (IsOther f) front
    free = front_free f fallback separator.approximately none

    -- what is written for two numbers is a range of them
    is_range : (p : Ends) → AreDecimals p → IsRange f (chars separator.text) apart around tells never never_once front free p
        (characters (plain_range f (record { separator = separator; fallback = fallback }) p))
    is_range p hp =
        go (is_single fallback (written p.start) (written p.end)) refl
      where
        go : (b : Bool) → is_single fallback (written p.start) (written p.end) ≡ b →
            IsRange f (chars separator.text) apart around tells never never_once front free p
            (characters (if b then single_of fallback (written p.start) (approximate p.start) else joined separator (written p.start) (written p.end)))
        go true e = inl (record {
          all = characters-single fallback separator.approximately (written p.start) ∙ ap (λ l. front ++ l) (characters-alone p.start);
          same = singles f (chars separator.text) apart around tells never never_once p.start p.end hp.start hp.end
              (sym (characters-alone p.start)
              ∙ same_characters (written p.start) (written p.end) _ _ refl refl (single_same fallback (written p.start) (written p.end) e)
              ∙ characters-alone p.end);
        })
        go false e =
            let j = are_joined separator (written p.start) (written p.end) (around p.start.sign).before (characters (unsigned_events f p.start.absolute))
            (around p.start.sign).after (around p.end.sign).before (characters (unsigned_events f p.end.absolute)) (around p.end.sign).after
            (characters-alone p.start) (characters-alone p.end) in
            inr (inl (record { back = j.back; next = j.next; apart = refl; all = j.all }))

-- equal characters of readable ranges are of equal ranges
pub range_tells : RangeTextTellsBothEnds
range_tells f style p q none h hp hq e =
    ranges_tell f (chars style.separator.text) (apart f style.separator h) (around f style.separator h) (tells f style.separator h) never never_once
    (front f style.separator h style.fallback none) (free f style.separator h style.fallback none) p q _ _
    hp hq (is_range f style.separator h style.fallback none p hp) (is_range f style.separator h style.fallback none q hq) e

-- so are those that `write_to_string` answers
pub equal_ranges_tell : EqualRangeTextsTell
equal_ranges_tell f style p q one other none h hp hq first second same =
    range_tells f style p q none h hp hq (same_characters (plain_range f style p) (plain_range f style q) one other first second same)
