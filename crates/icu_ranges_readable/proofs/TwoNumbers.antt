-- Texts with two numbers, each between surroundings: what their characters determine.
-- The surroundings of a sign are any texts without a digit, of which that before a number tells the sign. So the same holds for plain
-- numbers with their affixes and for amounts with what stands around them.
use Rattle.std.proofs.Common.{◌≡◌, ◌≢◌, inl, inr, ℕ, ◌<◌, arith, refl, sym, ap, ◌∙◌, subst, List, [], ◌++◌}
use Rattle.std.proofs.Common.{Bool, true, false}
use Rattle.std.proofs.lemmas.List.{append_cancel_left}
use Rattle.fixed_decimal.specs.declared.signs.Sign.{Sign}
use Rattle.fixed_decimal.specs.declared.signs.Sign.TheVariants.{Negative, Positive, None as NoSign}
use Rattle.fixed_decimal.specs.Unsigned.{Unsigned, IsUnsigned}
use Rattle.writeable.specs.Events.{characters}
use Rattle.icu_decimal.specs.Decimal.{DecimalFormat, unsigned_events}
use Rattle.icu_decimal.proofs.DigitsDistinct.{IsDigitOf, IsOther}
use Rattle.icu_decimal.proofs.Runs.{Begins, Every, every-append, every_after, split_run}
use Rattle.icu_decimal.proofs.TextsDistinct.{are_others, text_tells}
use Rattle.icu_decimal_readable.specs.Readable.{IsFreeOfDigits, Surroundings}
use Rattle.icu_ranges_readable.specs.Characters.{has}
use Rattle.icu_ranges_readable.specs.ReadableRange.{IsApart, SignsStandBefore}
use Rattle.icu_ranges_readable.proofs.MarksFound.{IsMarkIn, clashing, found_has, mark_found, no_space_begins, none_found, not_contained}
use Rattle.icu_ranges_readable.proofs.MarksFound.{visible_begins, visible_count}
use Rattle.icu_ranges_readable.proofs.NumberShape.{IsSeparatorOf, is_number}
use Rattle.icu_ranges_readable.proofs.Numerals.{Closes, numeral_tells, text}
use Rattle.icu_ranges_readable.proofs.Numerals.Tail.{digit}
use Rattle.icu_ranges_readable.proofs.Spaces.{Has, IsNoSpace, has_after, has_before, no_spaces, no_spaces-append, no_spaces-spaces, spaced_tells, spaces}

-- no character is both
other_digits : (f : DecimalFormat) (c : ℕ) → IsDigitOf f c → IsOther f c → ⊥
other_digits f c is other = other is

module _ (f : DecimalFormat) (separator : List ℕ) (h : IsApart f separator) where
  -- the digits of a number
  abbrev pub digits : Unsigned → List ℕ
  digits u = characters (unsigned_events f u)

  -- a mark of the separator
  abbrev mark : IsMarkIn f.symbols.strings separator
  mark = mark_found f.symbols.strings separator h.marked

  -- a text without a digit and with the mark, which stands between two numbers
  pub record IsMiddle (m : List ℕ) : Type 0 where
    pub free : Every (IsOther f) m
    pub marked : Has mark.mark m

  -- a space is no digit
  spaces_free : (b : Bool) → Every (IsOther f) (spaces b)
  spaces_free true = (not_contained 32 f.digits h.space_free, tt)
  spaces_free false = tt

  -- the separator between such texts, with a space on each side or none
  pub is_middle : (before after : List ℕ) (back next : Bool) → Every (IsOther f) before → Every (IsOther f) after →
      IsMiddle (before ++ (spaces back ++ (separator ++ (spaces next ++ after))))
  is_middle before after back next hb ha = record {
    free = every-append (IsOther f) before (spaces back ++ (separator ++ (spaces next ++ after))) hb
        (every-append (IsOther f) (spaces back) (separator ++ (spaces next ++ after)) (spaces_free back)
        (every-append (IsOther f) separator (spaces next ++ after) (none_found f.digits separator h.separator_free)
        (every-append (IsOther f) (spaces next) after (spaces_free next) ha)));
    marked = has_after mark.mark before (spaces back ++ (separator ++ (spaces next ++ after)))
        (has_after mark.mark (spaces back) (separator ++ (spaces next ++ after)) (has_before mark.mark separator (spaces next ++ after) mark.stands));
  }

  -- it is no separator of numbers
  middle_apart : (m : List ℕ) → IsMiddle m → IsSeparatorOf f m → ⊥
  middle_apart m hm (inl is) = clashing (has mark.mark m) (found_has mark.mark m hm.marked) (ap (has mark.mark) is ∙ mark.no_decimal)
  middle_apart m hm (inr is) = clashing (has mark.mark m) (found_has mark.mark m hm.marked) (ap (has mark.mark) is ∙ mark.no_grouping)

  -- digits behind it close the digits before it
  closes_middle : (m : List ℕ) (u : Unsigned) (rest : List ℕ) → IsMiddle m → IsUnsigned u →
      Closes (IsDigitOf f) (IsOther f) (IsSeparatorOf f) (m ++ (digits u ++ rest))
  closes_middle m u rest hm hu =
      let d = is_number f u h.readable hu in
      inr (record {
        others = m;
        first = d.first;
        more = text d.tail ++ rest;
        all = ap (λ l. m ++ (l ++ rest)) d.all;
        some = λ e. subst (Has mark.mark) e hm.marked;
        none = hm.free;
        is_digit = d.is_digit;
        no_gap = middle_apart m hm;
      })

  -- digits begin with a digit
  begins_digit : (u : Unsigned) (rest : List ℕ) → IsUnsigned u → Begins (IsDigitOf f) (digits u ++ rest)
  begins_digit u rest hu =
      let d = is_number f u h.readable hu in
      subst (λ l. Begins (IsDigitOf f) (l ++ rest)) (sym d.all) d.is_digit

  -- digits and what closes them are determined
  digits_tell : (u v : Unsigned) (rest more : List ℕ) → IsUnsigned u → IsUnsigned v → Closes (IsDigitOf f) (IsOther f) (IsSeparatorOf f) rest →
      Closes (IsDigitOf f) (IsOther f) (IsSeparatorOf f) more → digits u ++ rest ≡ digits v ++ more → (u ≡ v) × (rest ≡ more)
  digits_tell u v rest more hu hv hr ho e =
      let a = is_number f u h.readable hu in
      let b = is_number f v h.readable hv in
      let cut = numeral_tells (IsDigitOf f) (IsOther f) (IsSeparatorOf f) (other_digits f) (digit a.first a.tail) (digit b.first b.tail) rest more
      (a.is_digit, a.is_numeral) (b.is_digit, b.is_numeral) hr ho (ap (λ l. l ++ rest) (sym a.all) ∙ e ∙ ap (λ l. l ++ more) b.all) in
      ((text_tells f NoSign NoSign u v h.readable hu hv (a.all ∙ cut.0 ∙ sym b.all)).1, cut.1)

  -- so is what stands before them
  number_tells : (p q : List ℕ) (u v : Unsigned) (rest more : List ℕ) → Every (IsOther f) p → Every (IsOther f) q → IsUnsigned u → IsUnsigned v
      → Closes (IsDigitOf f) (IsOther f) (IsSeparatorOf f) rest → Closes (IsDigitOf f) (IsOther f) (IsSeparatorOf f) more
      → p ++ (digits u ++ rest) ≡ q ++ (digits v ++ more) → (p ≡ q) × (u ≡ v) × (rest ≡ more)
  number_tells p q u v rest more hp hq hu hv hr ho e =
      let begun = split_run (IsOther f) (IsDigitOf f) (λ c other is. other is) p q (digits u ++ rest) (digits v ++ more) hp hq
      (begins_digit u rest hu) (begins_digit v more hv) e in
      let d = digits_tell u v rest more hu hv hr ho begun.1 in
      (begun.0, d.0, d.1)

  -- one number between texts determines itself and the text before it
  pub one_tells : (p q : List ℕ) (u v : Unsigned) (back next : List ℕ) → Every (IsOther f) p → Every (IsOther f) q → IsUnsigned u → IsUnsigned v
      → Every (IsOther f) back → Every (IsOther f) next → p ++ (digits u ++ back) ≡ q ++ (digits v ++ next) → (p ≡ q) × (u ≡ v)
  one_tells p q u v back next hp hq hu hv hb hn e =
      let all = number_tells p q u v back next hp hq hu hv (inl hb) (inl hn) e in
      (all.0, all.1)

  -- two numbers determine themselves, and the texts before them and between them
  pub two_tell : (p q : List ℕ) (u v x y : Unsigned) (m n back next : List ℕ) → Every (IsOther f) p → Every (IsOther f) q → IsUnsigned u →
      IsUnsigned v → IsUnsigned x → IsUnsigned y → IsMiddle m → IsMiddle n → Every (IsOther f) back → Every (IsOther f) next
      → p ++ (digits u ++ (m ++ (digits x ++ back))) ≡ q ++ (digits v ++ (n ++ (digits y ++ next)))
      → (p ≡ q) × (u ≡ v) × (m ≡ n) × (x ≡ y)
  two_tell p q u v x y m n back next hp hq hu hv hx hy hm hn hb hnext e =
      let first = number_tells p q u v (m ++ (digits x ++ back)) (n ++ (digits y ++ next)) hp hq hu hv (closes_middle m x back hm hx)
      (closes_middle n y next hn hy) e in
      let cut = split_run (IsOther f) (IsDigitOf f) (λ c other is. other is) m n (digits x ++ back) (digits y ++ next) hm.free hn.free
      (begins_digit x back hx) (begins_digit y next hy) first.2 in
      let last = digits_tell x y back next hx hy (inl hb) (inl hnext) cut.1 in
      (first.0, first.1, cut.0, last.0)

  -- one number isn't two
  pub one_is_not_two : (p q : List ℕ) (u v y : Unsigned) (n back next : List ℕ) → Every (IsOther f) p → Every (IsOther f) q → IsUnsigned u →
      IsUnsigned v → IsUnsigned y → IsMiddle n → Every (IsOther f) back
      → p ++ (digits u ++ back) ≡ q ++ (digits v ++ (n ++ (digits y ++ next))) → ⊥
  one_is_not_two p q u v y n back next hp hq hu hv hy hn hb e =
      let first = number_tells p q u v back (n ++ (digits y ++ next)) hp hq hu hv (inl hb) (closes_middle n y next hn hy) e in
      let free = every_after (IsOther f) n (digits y ++ next) (subst (Every (IsOther f)) first.2 hb) in
      let d = is_number f y h.readable hy in
      other_digits f d.first d.is_digit (subst (λ t. Every (IsOther f) (t ++ next)) d.all free).0

  -- What stands around numbers of each sign: no digit, and before them a text that tells the sign and begins with no space.
  -- A sign has a character before its number that isn't a space.
  pub record TellsSigns (around : Sign → Surroundings) : Type 0 where
    pub before_free : (s : Sign) → Every (IsOther f) (around s).before
    pub after_free : (s : Sign) → Every (IsOther f) (around s).after
    pub tells : (s t : Sign) → (around s).before ≡ (around t).before → s ≡ t
    pub begins : (s : Sign) → Begins IsNoSpace (around s).before
    pub some : (s : Sign) → s ≢ NoSign → 0 < no_spaces (around s).before

  -- they tell it where no digit stands around numbers, and what stands before them tells their sign
  pub tells_signs : (around : Sign → Surroundings) → ((s : Sign) → IsFreeOfDigits f.digits (around s)) → SignsStandBefore around → TellsSigns around
  tells_signs around free k = record {
    before_free = λ s. (are_others f (around s) (free s)).before;
    after_free = λ s. (are_others f (around s) (free s)).after;
    tells = tells;
    begins = begins;
    some = some;
  }
    where
      tells : (s t : Sign) → (around s).before ≡ (around t).before → s ≡ t
      tells NoSign NoSign e = refl
      tells NoSign Negative e = absurd (k.minus_differs e)
      tells NoSign Positive e = absurd (k.plus_differs e)
      tells Negative NoSign e = absurd (k.minus_differs (sym e))
      tells Negative Negative e = refl
      tells Negative Positive e = absurd (k.differ e)
      tells Positive NoSign e = absurd (k.plus_differs (sym e))
      tells Positive Negative e = absurd (k.differ (sym e))
      tells Positive Positive e = refl

      begins : (s : Sign) → Begins IsNoSpace (around s).before
      begins NoSign = no_space_begins (around NoSign).before k.none_begins
      begins Negative = visible_begins (around Negative).before k.minus_begins
      begins Positive = visible_begins (around Positive).before k.plus_begins

      some : (s : Sign) → s ≢ NoSign → 0 < no_spaces (around s).before
      some NoSign signed = absurd (signed refl)
      some Negative signed = visible_count (around Negative).before k.minus_begins
      some Positive signed = visible_count (around Positive).before k.plus_begins

  module _ (around : Sign → Surroundings) (k : TellsSigns around) where
    -- what stands between the digits of two numbers with signs
    abbrev pub between_signs : Sign → Bool → Bool → Sign → List ℕ
    between_signs s back next t = (around s).after ++ (spaces back ++ (separator ++ (spaces next ++ (around t).before)))

    -- two such texts that are equal are of two signs in common
    pub signs_tell : (s t u v : Sign) (back next before after : Bool) → s ≡ u → between_signs s back next t ≡ between_signs u before after v →
        t ≡ v
    signs_tell s t u v back next before after same e =
        let here : List ℕ = spaces back ++ (separator ++ (spaces next ++ (around t).before)) in
        let there : List ℕ = spaces before ++ (separator ++ (spaces after ++ (around v).before)) in
        let rests = append_cancel_left (around s).after here there (e ∙ ap (λ q. (around q).after ++ there) (sym same)) in
        k.tells t v (spaced_tells mark.mark mark.is_no_space separator mark.stands back before next after (around t).before (around v).before
        (k.begins t) (k.begins v) rests)

    -- one with a sign behind the separator isn't the separator alone
    pub sign_stands : (s t : Sign) (back next before after : Bool) → t ≢ NoSign →
        between_signs s back next t ≡ spaces before ++ (separator ++ (spaces after ++ [])) → ⊥
    sign_stands s t back next before after signed e =
        let here = no_spaces-append (around s).after (spaces back ++ (separator ++ (spaces next ++ (around t).before))) in
        let more = no_spaces-append (spaces back) (separator ++ (spaces next ++ (around t).before)) in
        let rest = no_spaces-append separator (spaces next ++ (around t).before) in
        let last = no_spaces-append (spaces next) (around t).before in
        let there = no_spaces-append (spaces before) (separator ++ (spaces after ++ [])) in
        let end = no_spaces-append separator (spaces after ++ []) in
        let nothing = no_spaces-append (spaces after) [] in
        let same : no_spaces (between_signs s back next t) ≡ no_spaces (spaces before ++ (separator ++ (spaces after ++ []))) = ap no_spaces e in
        let some = k.some t signed in
        absurd (omega (
          arith,
          here,
          more,
          rest,
          last,
          there,
          end,
          nothing,
          same,
          some,
          no_spaces-spaces back,
          no_spaces-spaces next,
          no_spaces-spaces before,
          no_spaces-spaces after,
        ))
