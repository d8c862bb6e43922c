-- What stands around a number determines the symbol that stands in it. Between equal characters the symbols' places are the same,
-- so that a longer symbol would leave a longer text; and where U+00A0 stands beside one of the symbols alone, the other would
-- have it at its end.
use Rattle.std.proofs.Common.{◌≡◌, ◌≢◌, ◌⊎◌, inl, inr, ℕ, zero, suc, ◌+◌, ◌-◌, ◌≤◌, arith, refl, sym, ap, ap₂, ◌∙◌}
use Rattle.std.proofs.Common.{Bool, true, false, ◌&&◌, if◌then◌else◌, Option, Some, None, IfSome}
use Rattle.std.proofs.Common.{List, [], ◌∷◌, ◌++◌, map, length, take, slice_get, Contains, codes, append_assoc, append-nil, length-append}
use Rattle.std.specs.Str.{chars}
use Rattle.std.proofs.lemmas.List.{append_cancel_left, same_from_push, take_at, length_push}
use Rattle.std.proofs.lemmas.List.Elements.{Contains-append_left}
use Rattle.fixed_decimal.specs.declared.signs.Sign.{Sign}
use Rattle.fixed_decimal.specs.declared.signs.Sign.TheVariants.{None as NoSign, Negative, Positive}
use Rattle.writeable.specs.Events.{characters}
use Rattle.writeable.specs.Writes.{characters-append}
use Rattle.icu_decimal_readable.specs.Readable.{Surroundings}
use Rattle.icu_dimension_data.specs.declared.affix_token.AffixToken.{AffixToken}
use Rattle.icu_dimension_data.specs.declared.affix_token.AffixToken.TheVariants.{Character, CurrencySymbol, MinusSign, PlusSign, PercentSign, PerMilleSign}
use Rattle.icu_dimension_data.specs.Patterns.{Affixes, PatternText}
use Rattle.icu_dimension_data.specs.Resolved.{Texts, affixes_of, are_digits, first_character, has_minus, is_symbol, last_character, led_by, minus_affixes}
use Rattle.icu_dimension_data.specs.Resolved.{minus_by}
use Rattle.icu_dimension_data.specs.Resolved.{needs_space, no_break_space, plus_affixes, plus_for, resolved, spaced, spaced_after, spaced_before, with_plus}
use Rattle.icu_dimension_data.specs.Surrounding.{affix_events, token_events}
use Rattle.icu_dimension.specs.MoneyReadable.{money_surroundings}
use Rattle.icu_dimension.specs.MoneySymbol.{HasSymbolPlaceholder, ShowsSymbol, SymbolEndsInNoSpace, with_symbol}
use Rattle.icu_dimension.proofs.AroundFree.{characters-part}

-- the characters of a token, with these in the symbol's place
abbrev pub piece : Texts → List ℕ → AffixToken → List ℕ
piece texts cs (Character c) = c ∷ []
piece texts cs CurrencySymbol = cs
piece texts cs MinusSign = chars texts.minus_sign
piece texts cs PlusSign = chars texts.plus_sign
piece texts cs PercentSign = chars texts.percent_sign
piece texts cs PerMilleSign = chars texts.percent_sign

-- the characters of tokens
abbrev pub written : Texts → List ℕ → List AffixToken → List ℕ
written texts cs [] = []
written texts cs (t ∷ ts) = piece texts cs t ++ written texts cs ts

characters-token : (texts : Texts) (currency : List ℕ) (t : AffixToken) →
    characters (token_events (with_symbol texts currency) t) ≡ piece texts (chars currency) t
characters-token texts currency (Character c) = refl
characters-token texts currency CurrencySymbol = characters-part (codes "dimension") (codes "currency") currency
characters-token texts currency MinusSign = characters-part (codes "decimal") (codes "minusSign") texts.minus_sign
characters-token texts currency PlusSign = characters-part (codes "decimal") (codes "plusSign") texts.plus_sign
characters-token texts currency PercentSign = characters-part (codes "dimension") (codes "percentSign") texts.percent_sign
characters-token texts currency PerMilleSign = characters-part (codes "dimension") (codes "perMilleSign") texts.percent_sign

pub characters-tokens : (texts : Texts) (currency : List ℕ) (ts : List AffixToken) →
    characters (affix_events (with_symbol texts currency) ts) ≡ written texts (chars currency) ts
characters-tokens texts currency [] = refl
characters-tokens texts currency (t ∷ ts) =
    characters-append (token_events (with_symbol texts currency) t) (affix_events (with_symbol texts currency) ts)
    ∙ ap₂ (λ (x y : List ℕ). x ++ y) (characters-token texts currency t) (characters-tokens texts currency ts)

module _ (texts : Texts) where
  pub written-append : (cs : List ℕ) (ts us : List AffixToken) → written texts cs (ts ++ us) ≡ written texts cs ts ++ written texts cs us
  written-append cs [] us = refl
  written-append cs (t ∷ ts) us =
      ap (λ l. piece texts cs t ++ l) (written-append cs ts us) ∙ sym (append_assoc (piece texts cs t) (written texts cs ts) (written texts cs us))

  piece_longer : (xs ys : List ℕ) → length xs ≤ length ys → (t : AffixToken) → length (piece texts xs t) ≤ length (piece texts ys t)
  piece_longer xs ys l (Character c) = omega arith
  piece_longer xs ys l CurrencySymbol = l
  piece_longer xs ys l MinusSign = omega arith
  piece_longer xs ys l PlusSign = omega arith
  piece_longer xs ys l PercentSign = omega arith
  piece_longer xs ys l PerMilleSign = omega arith

  -- with more characters in the symbol's place there are no fewer
  longer : (xs ys : List ℕ) → length xs ≤ length ys → (ts : List AffixToken) → length (written texts xs ts) ≤ length (written texts ys ts)
  longer xs ys l [] = omega arith
  longer xs ys l (t ∷ ts) =
      let first = piece_longer xs ys l t in
      let rest = longer xs ys l ts in
      omega (arith, length-append (piece texts xs t) (written texts xs ts), length-append (piece texts ys t) (written texts ys ts))

  same_front : (xs ys more others : List ℕ) → length xs ≡ length ys → xs ++ more ≡ ys ++ others → xs ≡ ys
  same_front xs ys more others l e = sym (take_at xs more (length xs) refl) ∙ ap (take (length xs)) e ∙ take_at ys others (length xs) (sym l)

  -- at the first place of the symbol
  front_distinct : (xs ys : List ℕ) (ts : List AffixToken) → xs ++ written texts xs ts ≡ ys ++ written texts ys ts → xs ≡ ys
  front_distinct xs ys ts e =
      let up : length xs ≤ length ys → length (written texts xs ts) ≤ length (written texts ys ts) = λ l. longer xs ys l ts in
      let down : length ys ≤ length xs → length (written texts ys ts) ≤ length (written texts xs ts) = λ l. longer ys xs l ts in
      let lengths : length xs + length (written texts xs ts) ≡ length ys + length (written texts ys ts) =
      sym (length-append xs (written texts xs ts)) ∙ ap length e ∙ length-append ys (written texts ys ts) in
      let same : length xs ≡ length ys = grind (arith, up, down, lengths) in
      same_front xs ys (written texts xs ts) (written texts ys ts) same e

  later : (t : AffixToken) (ts : List AffixToken) → t ≢ CurrencySymbol → Contains (t ∷ ts) CurrencySymbol → Contains ts CurrencySymbol
  later t ts other (zero, l, is) = absurd (other is)
  later t ts other (suc k, l, is) = (k, omega arith, is)

  -- wherever it stands
  place_distinct : (xs ys : List ℕ) (ts : List AffixToken) → Contains ts CurrencySymbol → written texts xs ts ≡ written texts ys ts → xs ≡ ys
  place_distinct xs ys [] (k, l, is) e = absurd (omega arith)
  place_distinct xs ys (CurrencySymbol ∷ ts) has e = front_distinct xs ys ts e
  place_distinct xs ys (Character c ∷ ts) has e =
      place_distinct xs ys ts (later (Character c) ts (λ is. cc) has) (append_cancel_left (c ∷ []) (written texts xs ts) (written texts ys ts) e)
  place_distinct xs ys (MinusSign ∷ ts) has e =
      place_distinct xs ys ts (later MinusSign ts (λ is. cc) has) (append_cancel_left (chars texts.minus_sign) (written texts xs ts) (written texts ys ts) e)
  place_distinct xs ys (PlusSign ∷ ts) has e =
      place_distinct xs ys ts (later PlusSign ts (λ is. cc) has) (append_cancel_left (chars texts.plus_sign) (written texts xs ts) (written texts ys ts) e)
  place_distinct xs ys (PercentSign ∷ ts) has e =
      place_distinct xs ys ts (later PercentSign ts (λ is. cc) has)
      (append_cancel_left (chars texts.percent_sign) (written texts xs ts) (written texts ys ts) e)
  place_distinct xs ys (PerMilleSign ∷ ts) has e =
      place_distinct xs ys ts (later PerMilleSign ts (λ is. cc) has)
      (append_cancel_left (chars texts.percent_sign) (written texts xs ts) (written texts ys ts) e)

  -- ---- after the number

  -- with U+00A0 before one symbol alone, the other begins with it
  spaced_front : (xs ys : List ℕ) (ts : List AffixToken) → slice_get ys 0 ≢ Some 160 →
      160 ∷ (xs ++ written texts xs ts) ≡ ys ++ written texts ys ts → ⊥
  spaced_front xs [] ts other e =
      let fewer = longer [] xs (omega arith) ts in
      omega (arith, ap length e, length-append xs (written texts xs ts))
  spaced_front xs (y ∷ ys) ts other e = let same : y ≡ 160 = cc in other (ap (λ (c : ℕ). Some c) same)

  -- tokens with a space before them, or without one
  abbrev perhaps_after : Bool → List AffixToken → List AffixToken
  perhaps_after b ts = if b then no_break_space ∷ ts else ts

  symbol_first : (xs ys : List ℕ) (ts : List AffixToken) → slice_get xs 0 ≢ Some 160 → slice_get ys 0 ≢ Some 160 → (b d : Bool) →
      written texts xs (perhaps_after b (CurrencySymbol ∷ ts)) ≡ written texts ys (perhaps_after d (CurrencySymbol ∷ ts)) → xs ≡ ys
  symbol_first xs ys ts hx hy true true e =
      front_distinct xs ys ts (append_cancel_left (160 ∷ []) (xs ++ written texts xs ts) (ys ++ written texts ys ts) e)
  symbol_first xs ys ts hx hy true false e = absurd (spaced_front xs ys ts hy e)
  symbol_first xs ys ts hx hy false true e = absurd (spaced_front ys xs ts hx (sym e))
  symbol_first xs ys ts hx hy false false e = front_distinct xs ys ts e

  after_distinct : (inserted : Bool) (one other : List ℕ) (ts : List AffixToken) → SymbolEndsInNoSpace one → SymbolEndsInNoSpace other
      → Contains ts CurrencySymbol →
      written texts (chars one) (spaced_after inserted one ts) ≡ written texts (chars other) (spaced_after inserted other ts) → chars one ≡ chars other
  after_distinct inserted one other [] h k (i, l, is) e = absurd (omega arith)
  after_distinct inserted one other (CurrencySymbol ∷ ts) h k has e =
      symbol_first (chars one) (chars other) ts h.first_other k.first_other (needs_space (first_character one) && inserted)
      (needs_space (first_character other) && inserted) e
  after_distinct inserted one other (Character c ∷ ts) h k has e = place_distinct (chars one) (chars other) (Character c ∷ ts) has e
  after_distinct inserted one other (MinusSign ∷ ts) h k has e = place_distinct (chars one) (chars other) (MinusSign ∷ ts) has e
  after_distinct inserted one other (PlusSign ∷ ts) h k has e = place_distinct (chars one) (chars other) (PlusSign ∷ ts) has e
  after_distinct inserted one other (PercentSign ∷ ts) h k has e = place_distinct (chars one) (chars other) (PercentSign ∷ ts) has e
  after_distinct inserted one other (PerMilleSign ∷ ts) h k has e = place_distinct (chars one) (chars other) (PerMilleSign ∷ ts) has e

  -- ---- before the number

  -- a list is empty or has a last element
  abbrev pub LastOf : {X : Type 0} → List X → Type 0
  LastOf {X} xs = (xs ≡ []) ⊎ ((front : List X) × (x : X) × (xs ≡ front ++ x ∷ []) × (slice_get xs (length xs - 1) ≡ Some x))

  last_of : {X : Type 0} (xs : List X) → LastOf xs
  last_of {X} [] = inl refl
  last_of {X} (x ∷ []) = inr ([], x, refl, refl)
  last_of {X} (x ∷ y ∷ ys) = elim (last_of (y ∷ ys)) [
    | inl none ↦ absurd cc
    | inr (front, z, is, last) ↦
        let place : length (x ∷ y ∷ ys) - 1 ≡ suc (length (y ∷ ys) - 1) = omega arith in
        inr (x ∷ front, z, ap (λ l. x ∷ l) is, ap (slice_get (x ∷ y ∷ ys)) place ∙ last)
  ]

  -- this token stands at the end
  abbrev IsLast : AffixToken → List AffixToken → Type 0
  IsLast t ts = (front : List AffixToken) × (ts ≡ front ++ t ∷ [])

  -- with U+00A0 behind one symbol alone, the other ends with it
  spaced_back : (xs ys : List ℕ) (ts front : List AffixToken) → ts ≡ front ++ CurrencySymbol ∷ [] → slice_get ys (length ys - 1) ≢ Some 160 →
      written texts xs ts ++ 160 ∷ [] ≡ written texts ys ts → ⊥
  spaced_back xs ys ts front ends other e = elim (last_of ys) [
    | inl none ↦
        let fewer = longer ys xs (omega (arith, ap length none)) ts in
        omega (arith, ap length e, length_push (written texts xs ts) 160)
    | inr (rest, c, is, last) ↦
        let seam : written texts ys ts ≡ (written texts ys front ++ rest) ++ c ∷ [] =
        ap (written texts ys) ends ∙ written-append ys front (CurrencySymbol ∷ []) ∙ ap (λ l. written texts ys front ++ l) (append-nil ys ∙ is)
        ∙ sym (append_assoc (written texts ys front) rest (c ∷ [])) in
        let same = same_from_push (written texts xs ts) (written texts ys front ++ rest) 160 c (e ∙ seam) in
        other (last ∙ ap (λ (x : ℕ). Some x) (sym same.1))
  ]

  -- tokens with a space behind them, or without one
  abbrev perhaps_before : Bool → List AffixToken → List AffixToken
  perhaps_before b ts = if b then ts ++ no_break_space ∷ [] else ts

  symbol_last : (xs ys : List ℕ) (ts : List AffixToken) → slice_get xs (length xs - 1) ≢ Some 160 → slice_get ys (length ys - 1) ≢ Some 160 →
      Contains ts CurrencySymbol → (last : Bool) → (last ≡ true → IsLast CurrencySymbol ts) → (b d : Bool) →
      written texts xs (perhaps_before (last && b) ts) ≡ written texts ys (perhaps_before (last && d) ts) → xs ≡ ys
  symbol_last xs ys ts hx hy has false ends b d e = place_distinct xs ys ts has e
  symbol_last xs ys ts hx hy has true ends true true e =
      place_distinct xs ys (ts ++ no_break_space ∷ []) (Contains-append_left ts (no_break_space ∷ []) CurrencySymbol has) e
  symbol_last xs ys ts hx hy has true ends true false e =
      let at = ends refl in
      absurd (spaced_back xs ys ts at.0 at.1 hy (sym (written-append xs ts (no_break_space ∷ [])) ∙ e))
  symbol_last xs ys ts hx hy has true ends false true e =
      let at = ends refl in
      absurd (spaced_back ys xs ts at.0 at.1 hx (sym (written-append ys ts (no_break_space ∷ [])) ∙ sym e))
  symbol_last xs ys ts hx hy has true ends false false e = place_distinct xs ys ts has e

  symbol_is : (t : AffixToken) → is_symbol (Some t) ≡ true → t ≡ CurrencySymbol
  symbol_is CurrencySymbol e = refl
  symbol_is (Character c) e = cc
  symbol_is MinusSign e = cc
  symbol_is PlusSign e = cc
  symbol_is PercentSign e = cc
  symbol_is PerMilleSign e = cc

  ends_with_symbol : (ts : List AffixToken) → is_symbol (slice_get ts (length ts - 1)) ≡ true → IsLast CurrencySymbol ts
  ends_with_symbol ts e = elim (last_of ts) [
    | inl none ↦
        let nothing : is_symbol (slice_get ts (length ts - 1)) ≡ false = ap (λ (l : List AffixToken). is_symbol (slice_get l (length l - 1))) none in
        cc
    | inr (front, t, is, last) ↦ (front, is ∙ ap (λ x. front ++ x ∷ []) (symbol_is t (sym (ap is_symbol last) ∙ e)))
  ]

  before_distinct : (inserted : Bool) (one other : List ℕ) (ts : List AffixToken) → SymbolEndsInNoSpace one → SymbolEndsInNoSpace other
      → Contains ts CurrencySymbol →
      written texts (chars one) (spaced_before inserted one ts) ≡ written texts (chars other) (spaced_before inserted other ts) → chars one ≡ chars other
  before_distinct inserted one other ts h k has e =
      symbol_last (chars one) (chars other) ts h.last_other k.last_other has (is_symbol (slice_get ts (length ts - 1))) (ends_with_symbol ts)
      (needs_space (last_character one) && inserted) (needs_space (last_character other) && inserted) e

  -- ---- on either side

  side_distinct : (inserted : Bool) (one other : List ℕ) (a : Affixes) → SymbolEndsInNoSpace one → SymbolEndsInNoSpace other → HasSymbolPlaceholder a
      →
      characters (affix_events (with_symbol texts one) (spaced_before inserted one a.before))
      ≡ characters (affix_events (with_symbol texts other) (spaced_before inserted other a.before)) →
      characters (affix_events (with_symbol texts one) (spaced_after inserted one a.after))
      ≡ characters (affix_events (with_symbol texts other) (spaced_after inserted other a.after)) → chars one ≡ chars other
  side_distinct inserted one other a h k (inl has) before after =
      before_distinct inserted one other a.before h k has
      (sym (characters-tokens texts one (spaced_before inserted one a.before)) ∙ before
      ∙ characters-tokens texts other (spaced_before inserted other a.before))
  side_distinct inserted one other a h k (inr has) before after =
      after_distinct inserted one other a.after h k has
      (sym (characters-tokens texts one (spaced_after inserted one a.after)) ∙ after ∙ characters-tokens texts other (spaced_after inserted other a.after))

-- ---- in the patterns of all signs

-- what stands around numbers of a sign, before spaces are put in
abbrev pub unspaced : PatternText → Sign → Affixes
unspaced p NoSign = p.first
unspaced p Negative = minus_affixes p
unspaced p Positive = plus_affixes p

has_behind : (t : AffixToken) (ts : List AffixToken) → Contains ts CurrencySymbol → Contains (t ∷ ts) CurrencySymbol
has_behind t ts (k, l, is) = (suc k, omega arith, is)

led_has : (sign : AffixToken) (a : Affixes) → HasSymbolPlaceholder a → HasSymbolPlaceholder (led_by sign a)
led_has sign a (inl has) = inl (has_behind sign a.before has)
led_has sign a (inr has) = inr has

minus_has : (first : Affixes) (second : Option Affixes) → HasSymbolPlaceholder first → IfSome second HasSymbolPlaceholder
    → HasSymbolPlaceholder (minus_by first second)
minus_has first None h k = led_has MinusSign first h
minus_has first (Some second) h k = k

pluses_have : (ts : List AffixToken) → Contains ts CurrencySymbol → Contains (map plus_for ts) CurrencySymbol
pluses_have [] (k, l, is) = absurd (omega arith)
pluses_have (t ∷ ts) (zero, l, is) = (0, omega arith, ap plus_for is)
pluses_have (t ∷ ts) (suc k, l, is) = has_behind (plus_for t) (map plus_for ts) (pluses_have ts (k, omega arith, is))

with_plus_has : (a : Affixes) → HasSymbolPlaceholder a → HasSymbolPlaceholder (with_plus a)
with_plus_has a (inl has) = inl (pluses_have a.before has)
with_plus_has a (inr has) = inr (pluses_have a.after has)

either_has : (b : Bool) (a c : Affixes) → HasSymbolPlaceholder a → HasSymbolPlaceholder c → HasSymbolPlaceholder (if b then a else c)
either_has true a c h k = h
either_has false a c h k = k

unspaced_has : (p : PatternText) (s : Sign) → ShowsSymbol p → HasSymbolPlaceholder (unspaced p s)
unspaced_has p NoSign h = h.first_shows
unspaced_has p Negative h = minus_has p.first p.second h.first_shows h.second_shows
unspaced_has p Positive h =
    either_has (has_minus (minus_affixes p)) (with_plus (minus_affixes p)) (led_by PlusSign p.first)
    (with_plus_has (minus_affixes p) (minus_has p.first p.second h.first_shows h.second_shows)) (led_has PlusSign p.first h.first_shows)

-- spaces are put in beside the symbol alone
pub affixes-resolved : (digits : List ℕ) (p : PatternText) (texts : Texts) (s : Sign) →
    affixes_of (resolved digits p texts) s ≡ spaced (are_digits digits) texts.currency (unspaced p s)
affixes-resolved digits p texts NoSign = refl
affixes-resolved digits p texts Negative = refl
affixes-resolved digits p texts Positive = refl

-- the characters around numbers, with a symbol
abbrev pub spaced_around : Bool → Texts → Affixes → Surroundings
spaced_around inserted texts a = record {
  before = characters (affix_events texts (spaced inserted texts.currency a).before);
  after = characters (affix_events texts (spaced inserted texts.currency a).after);
}

pub around-resolved : (digits : List ℕ) (p : PatternText) (texts : Texts) (s : Sign) →
    money_surroundings (resolved digits p texts) s ≡ spaced_around (are_digits digits) texts (unspaced p s)
around-resolved digits p texts NoSign = refl
around-resolved digits p texts Negative = refl
around-resolved digits p texts Positive = refl

-- equal characters around numbers of one sign are of equal symbols
pub symbol_distinct : (digits : List ℕ) (p : PatternText) (texts : Texts) (one other : List ℕ) (s : Sign) → ShowsSymbol p → SymbolEndsInNoSpace one →
    SymbolEndsInNoSpace other →
    money_surroundings (resolved digits p (with_symbol texts one)) s ≡ money_surroundings (resolved digits p (with_symbol texts other)) s →
    chars one ≡ chars other
symbol_distinct digits p texts one other s h ends others e =
    let same = sym (around-resolved digits p (with_symbol texts one) s) ∙ e ∙ around-resolved digits p (with_symbol texts other) s in
    side_distinct texts (are_digits digits) one other (unspaced p s) ends others (unspaced_has p s h)
    (ap (λ (a : Surroundings). a.before) same) (ap (λ (a : Surroundings). a.after) same)
