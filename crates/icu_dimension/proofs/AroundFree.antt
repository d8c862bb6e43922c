-- Where neither a pattern's own characters nor the texts in it have a digit, none stands around a number: what `resolve`
-- makes of a pattern is its own tokens, signs and U+00A0.
use Rattle.std.proofs.Common.{◌≡◌, ℕ, suc, ◌-◌, arith, sym, ◌∙◌, subst, Bool, true, false, ◌&&◌, Option, Some, None, IfSome}
use Rattle.std.proofs.Common.{List, [], ◌∷◌, ◌++◌, map, length, slice_get, slice_index_or, append-nil, All, Contains, codes, if◌then◌else◌}
use Rattle.std.specs.Str.{chars}
use Rattle.std.proofs.lemmas.List.Elements.{All-append, All-cons, All-map, All-nil}
use Rattle.fixed_decimal.specs.declared.signs.Sign.{Sign}
use Rattle.fixed_decimal.specs.declared.signs.Sign.TheVariants.{None as NoSign, Negative, Positive}
use Rattle.writeable.specs.Events.{characters, text_events}
use Rattle.writeable.specs.Events.Event.{Close}
use Rattle.writeable.specs.Writes.{characters-append}
use Rattle.writeable.proofs.EventLemmas.{characters-map_Char}
use Rattle.icu_decimal_readable.specs.Readable.{HasNoDigit}
use Rattle.icu_dimension_data.specs.declared.affix_token.AffixToken.{AffixToken}
use Rattle.icu_dimension_data.specs.declared.affix_token.AffixToken.TheVariants.{Character, CurrencySymbol, MinusSign, PlusSign, PercentSign, PerMilleSign}
use Rattle.icu_dimension_data.specs.Patterns.{Affixes, PatternText}
use Rattle.icu_dimension_data.specs.Resolved.{Texts, affixes_of, are_digits, first_character, has_minus, is_symbol, last_character, led_by, minus_affixes}
use Rattle.icu_dimension_data.specs.Resolved.{minus_by}
use Rattle.icu_dimension_data.specs.Resolved.{needs_space, no_break_space, plus_affixes, plus_for, resolved, spaced, with_plus}
use Rattle.icu_dimension_data.specs.Surrounding.{affix_events, in_part, token_events}
use Rattle.icu_dimension.specs.MoneyReadable.{AffixesHaveNoDigit, PatternHasNoDigit, StandsForNoDigit, TextsHaveNoDigit}
use Rattle.icu_dimension.specs.MoneyLaws.{NoDigitStandsAround}

-- the characters of a text in a part
pub characters-part : (category value text : List ℕ) → characters (in_part category value text) ≡ chars text
characters-part category value text =
    characters-append (text_events text) (Close ∷ []) ∙ append-nil (characters (text_events text)) ∙ characters-map_Char (chars text)

module _ (digits : List ℕ) where
  part_free : (category value text : List ℕ) → HasNoDigit digits (chars text) → HasNoDigit digits (characters (in_part category value text))
  part_free category value text h = subst (HasNoDigit digits) (sym (characters-part category value text)) h

  token_free : (texts : Texts) (t : AffixToken) → TextsHaveNoDigit digits texts → StandsForNoDigit digits t →
      HasNoDigit digits (characters (token_events texts t))
  token_free texts (Character c) h k = All-cons (λ x. ¬ (Contains digits x)) c [] k (All-nil (λ x. ¬ (Contains digits x)))
  token_free texts CurrencySymbol h k = part_free (codes "dimension") (codes "currency") texts.currency h.symbol_free
  token_free texts MinusSign h k = part_free (codes "decimal") (codes "minusSign") texts.minus_sign h.minus_free
  token_free texts PlusSign h k = part_free (codes "decimal") (codes "plusSign") texts.plus_sign h.plus_free
  token_free texts PercentSign h k = part_free (codes "dimension") (codes "percentSign") texts.percent_sign h.percent_free
  token_free texts PerMilleSign h k = part_free (codes "dimension") (codes "perMilleSign") texts.percent_sign h.percent_free

  tokens_free : (texts : Texts) (ts : List AffixToken) → TextsHaveNoDigit digits texts → All (StandsForNoDigit digits) ts →
      HasNoDigit digits (characters (affix_events texts ts))
  tokens_free texts [] h k = All-nil (λ x. ¬ (Contains digits x))
  tokens_free texts (t ∷ ts) h k =
      subst (HasNoDigit digits) (sym (characters-append (token_events texts t) (affix_events texts ts)))
      (All-append (λ x. ¬ (Contains digits x)) (characters (token_events texts t)) (characters (affix_events texts ts))
      (token_free texts t h (k 0 t (omega arith))) (tokens_free texts ts h (λ i d l. k (suc i) d (omega arith))))

  -- a plus sign in place of a minus sign is no digit either
  plus_free : (t : AffixToken) → StandsForNoDigit digits t → StandsForNoDigit digits (plus_for t)
  plus_free (Character c) h = h
  plus_free CurrencySymbol h = h
  plus_free MinusSign h = tt
  plus_free PlusSign h = h
  plus_free PercentSign h = h
  plus_free PerMilleSign h = h

  pluses_free : (ts : List AffixToken) → All (StandsForNoDigit digits) ts → All (StandsForNoDigit digits) (map plus_for ts)
  pluses_free ts h = All-map (StandsForNoDigit digits) plus_for ts (λ k d l. plus_free (slice_index_or ts k d) (h k d l))

  -- of two lists without a digit the chosen one is without one
  either_free : (b : Bool) (ts us : List AffixToken) → All (StandsForNoDigit digits) ts → All (StandsForNoDigit digits) us →
      All (StandsForNoDigit digits) (if b then ts else us)
  either_free true ts us h k = h
  either_free false ts us h k = k

  affixes_either_free : (b : Bool) (a c : Affixes) → AffixesHaveNoDigit digits a → AffixesHaveNoDigit digits c →
      AffixesHaveNoDigit digits (if b then a else c)
  affixes_either_free true a c h k = h
  affixes_either_free false a c h k = k

  with_plus_free : (a : Affixes) → AffixesHaveNoDigit digits a → AffixesHaveNoDigit digits (with_plus a)
  with_plus_free a h = record { before_free = pluses_free a.before h.before_free; after_free = pluses_free a.after h.after_free }

  led_free : (sign : AffixToken) (a : Affixes) → StandsForNoDigit digits sign → AffixesHaveNoDigit digits a → AffixesHaveNoDigit digits (led_by sign a)
  led_free sign a k h = record { before_free = All-cons (StandsForNoDigit digits) sign a.before k h.before_free; after_free = h.after_free }

  minus_by_free : (first : Affixes) (second : Option Affixes) → AffixesHaveNoDigit digits first → IfSome second (AffixesHaveNoDigit digits) →
      AffixesHaveNoDigit digits (minus_by first second)
  minus_by_free first None h k = led_free MinusSign first tt h
  minus_by_free first (Some second) h k = k

  minus_affixes_free : (p : PatternText) → PatternHasNoDigit digits p → AffixesHaveNoDigit digits (minus_affixes p)
  minus_affixes_free p h = minus_by_free p.first p.second h.first_free h.second_free

  plus_affixes_free : (p : PatternText) → PatternHasNoDigit digits p → AffixesHaveNoDigit digits (plus_affixes p)
  plus_affixes_free p h =
      affixes_either_free (has_minus (minus_affixes p)) (with_plus (minus_affixes p)) (led_by PlusSign p.first)
      (with_plus_free (minus_affixes p) (minus_affixes_free p h)) (led_free PlusSign p.first tt h.first_free)

  -- a space beside the symbol is no digit
  spaced_free : ¬ (Contains digits 160) → (inserted : Bool) (currency : List ℕ) (a : Affixes) → AffixesHaveNoDigit digits a
      → AffixesHaveNoDigit digits (spaced inserted currency a)
  spaced_free apart inserted currency a h = record {
    before_free = either_free (is_symbol (slice_get a.before (length a.before - 1)) && (needs_space (last_character currency) && inserted))
        (a.before ++ no_break_space ∷ []) a.before
        (All-append (StandsForNoDigit digits) a.before (no_break_space ∷ []) h.before_free space_free) h.before_free;
    after_free = either_free (is_symbol (slice_get a.after 0) && (needs_space (first_character currency) && inserted)) (no_break_space ∷ a.after) a.after
        (All-cons (StandsForNoDigit digits) no_break_space a.after apart h.after_free) h.after_free;
  }
    where
      space_free : All (StandsForNoDigit digits) (no_break_space ∷ [])
      space_free = All-cons (StandsForNoDigit digits) no_break_space [] apart (All-nil (StandsForNoDigit digits))

  resolved_free : (p : PatternText) (texts : Texts) → PatternHasNoDigit digits p → ¬ (Contains digits 160) → (s : Sign) →
      AffixesHaveNoDigit digits (affixes_of (resolved digits p texts) s)
  resolved_free p texts h apart NoSign = spaced_free apart (are_digits digits) texts.currency p.first h.first_free
  resolved_free p texts h apart Negative = spaced_free apart (are_digits digits) texts.currency (minus_affixes p) (minus_affixes_free p h)
  resolved_free p texts h apart Positive = spaced_free apart (are_digits digits) texts.currency (plus_affixes p) (plus_affixes_free p h)

-- no digit of the pattern and none of the texts: none around a number
pub no_digit_stands_around : NoDigitStandsAround
no_digit_stands_around digits pattern texts h k apart s =
    let free = resolved_free digits pattern texts k apart s in
    record {
      before_free = tokens_free digits texts (affixes_of (resolved digits pattern texts) s).before h free.before_free;
      after_free = tokens_free digits texts (affixes_of (resolved digits pattern texts) s).after h free.after_free;
    }
