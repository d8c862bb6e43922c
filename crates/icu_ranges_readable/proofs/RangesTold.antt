-- Ranges of two numbers with signs: equal characters are of equal ranges.
-- A range is its start alone, perhaps behind a text without a digit, or both numbers in the surroundings of their signs with the
-- separator between them, or both in the surroundings of no sign, which are written once.
use Rattle.std.proofs.Common.{◌≡◌, ◌≢◌, ◌⊎◌, inl, inr, ℕ, refl, sym, ap₂, ◌∙◌, List, [], ◌++◌, append_assoc, Bool, true, false}
use Rattle.std.proofs.lemmas.List.{append_cancel_left}
use Rattle.fixed_decimal.specs.declared.signed.Decimal.{Decimal}
use Rattle.fixed_decimal.specs.declared.signs.Sign.{Sign}
use Rattle.fixed_decimal.specs.declared.signs.Sign.TheVariants.{Negative, Positive, None as NoSign}
use Rattle.fixed_decimal.specs.Unsigned.{Unsigned, IsUnsigned}
use Rattle.icu_decimal.specs.Decimal.{DecimalFormat}
use Rattle.icu_decimal.proofs.DigitsDistinct.{IsOther}
use Rattle.icu_decimal.proofs.Runs.{Every, every-append}
use Rattle.icu_decimal_readable.specs.Readable.{Surroundings}
use Rattle.icu_ranges.specs.Order.{Ends}
use Rattle.icu_ranges_readable.specs.RangeLaws.{AreDecimals}
use Rattle.icu_ranges_readable.proofs.MarksFound.{clashing}
use Rattle.icu_ranges_readable.proofs.Spaces.{spaces}
use Rattle.icu_ranges_readable.specs.ReadableRange.{IsApart}
use Rattle.icu_ranges_readable.proofs.TwoNumbers.{TellsSigns, between_signs, digits, is_middle, one_is_not_two, one_tells, sign_stands}
use Rattle.icu_ranges_readable.proofs.TwoNumbers.{signs_tell, two_tell}

-- a number of a sign and its digits
abbrev pub number : Sign → Unsigned → Decimal
number s u = record { sign = s; absolute = u }

-- two numbers
abbrev pub pair : Decimal → Decimal → Ends
pair n m = record { start = n; end = m }

-- a sign is none, or one
none_or_one : (s : Sign) → (s ≡ NoSign) ⊎ (s ≢ NoSign)
none_or_one NoSign = inl refl
none_or_one Negative = inr (λ e. cc)
none_or_one Positive = inr (λ e. cc)

module _ (f : DecimalFormat) (separator : List ℕ) (h : IsApart f separator) (around : Sign → Surroundings) (k : TellsSigns f separator h around)
    (once : Sign → Sign → Bool) (once_unsigned : (s t : Sign) → once s t ≡ true → (s ≡ NoSign) × (t ≡ NoSign)) where
  -- a number alone
  abbrev pub alone : Decimal → List ℕ
  alone n = (around n.sign).before ++ (digits f separator h n.absolute ++ (around n.sign).after)

  -- two numbers, each in the surroundings of its sign
  abbrev pub joined_signs : Decimal → Bool → Bool → Decimal → List ℕ
  joined_signs n back next m =
      (around n.sign).before
      ++ (digits f separator h n.absolute
      ++ (between_signs f separator h around k n.sign back next m.sign ++ (digits f separator h m.absolute ++ (around m.sign).after)))

  -- two numbers in the surroundings of no sign
  abbrev pub joined_once : Decimal → Bool → Bool → Decimal → List ℕ
  joined_once n back next m =
      (around NoSign).before
      ++ (digits f separator h n.absolute
      ++ ((spaces back ++ (separator ++ (spaces next ++ []))) ++ (digits f separator h m.absolute ++ (around NoSign).after)))

  -- characters of two numbers
  pub record IsBoth (p : Ends) (cs : List ℕ) : Type 0 where
    pub back : Bool
    pub next : Bool
    pub apart : once p.start.sign p.end.sign ≡ false
    pub all : cs ≡ joined_signs p.start back next p.end

  -- those of two in common surroundings
  pub record IsShared (p : Ends) (cs : List ℕ) : Type 0 where
    pub back : Bool
    pub next : Bool
    pub together : once p.start.sign p.end.sign ≡ true
    pub all : cs ≡ joined_once p.start back next p.end

  -- equal signs and digits are equal numbers
  numbers : (n m : Decimal) → n.sign ≡ m.sign → n.absolute ≡ m.absolute → n ≡ m
  numbers n m s u = ap₂ number s u

  -- one number is told
  pub singles : (n m : Decimal) → IsUnsigned n.absolute → IsUnsigned m.absolute → alone n ≡ alone m → n ≡ m
  singles n m hn hm e =
      let told = one_tells f separator h (around n.sign).before (around m.sign).before n.absolute m.absolute (around n.sign).after (around m.sign).after
      (k.before_free n.sign) (k.before_free m.sign) hn hm (k.after_free n.sign) (k.after_free m.sign) e in
      numbers n m (k.tells n.sign m.sign told.0) told.1

  -- two with signs are told
  both_told : (p q : Ends) (back next before after : Bool) → AreDecimals p → AreDecimals q
      → joined_signs p.start back next p.end ≡ joined_signs q.start before after q.end → p ≡ q
  both_told p q back next before after hp hq e =
      let told = two_tell f separator h (around p.start.sign).before (around q.start.sign).before p.start.absolute q.start.absolute
      p.end.absolute q.end.absolute
      (between_signs f separator h around k p.start.sign back next p.end.sign) (between_signs f separator h around k q.start.sign before after q.end.sign)
      (around p.end.sign).after (around q.end.sign).after (k.before_free p.start.sign) (k.before_free q.start.sign) hp.start hq.start hp.end hq.end
      (is_middle f separator h (around p.start.sign).after (around p.end.sign).before back next (k.after_free p.start.sign) (k.before_free p.end.sign))
      (is_middle f separator h (around q.start.sign).after (around q.end.sign).before before after (k.after_free q.start.sign) (k.before_free q.end.sign))
      (k.after_free p.end.sign) (k.after_free q.end.sign) e in
      let starts = k.tells p.start.sign q.start.sign told.0 in
      let ends = signs_tell f separator h around k p.start.sign p.end.sign q.start.sign q.end.sign back next before after starts told.2 in
      ap₂ pair (numbers p.start q.start starts told.1) (numbers p.end q.end ends told.3)

  -- two in common surroundings are told
  shared_told : (p q : Ends) (back next before after : Bool) → AreDecimals p → AreDecimals q → once p.start.sign p.end.sign ≡ true →
      once q.start.sign q.end.sign ≡ true → joined_once p.start back next p.end ≡ joined_once q.start before after q.end → p ≡ q
  shared_told p q back next before after hp hq op oq e =
      let told = two_tell f separator h (around NoSign).before (around NoSign).before p.start.absolute q.start.absolute p.end.absolute q.end.absolute
      (spaces back ++ (separator ++ (spaces next ++ []))) (spaces before ++ (separator ++ (spaces after ++ [])))
      (around NoSign).after (around NoSign).after (k.before_free NoSign) (k.before_free NoSign) hp.start hq.start hp.end hq.end
      (is_middle f separator h [] [] back next tt tt) (is_middle f separator h [] [] before after tt tt) (k.after_free NoSign) (k.after_free NoSign) e in
      let here = once_unsigned p.start.sign p.end.sign op in
      let there = once_unsigned q.start.sign q.end.sign oq in
      ap₂ pair (numbers p.start q.start (here.0 ∙ sym there.0) told.1) (numbers p.end q.end (here.1 ∙ sym there.1) told.3)

  -- two with signs aren't two in common surroundings
  both_not_shared : (p q : Ends) (back next before after : Bool) → AreDecimals p → AreDecimals q → once p.start.sign p.end.sign ≡ false →
      once q.start.sign q.end.sign ≡ true → joined_signs p.start back next p.end ≡ joined_once q.start before after q.end → ⊥
  both_not_shared p q back next before after hp hq op oq e =
      let told = two_tell f separator h (around p.start.sign).before (around NoSign).before p.start.absolute q.start.absolute
      p.end.absolute q.end.absolute (between_signs f separator h around k p.start.sign back next p.end.sign)
      (spaces before ++ (separator ++ (spaces after ++ [])))
      (around p.end.sign).after (around NoSign).after (k.before_free p.start.sign) (k.before_free NoSign) hp.start hq.start hp.end hq.end
      (is_middle f separator h (around p.start.sign).after (around p.end.sign).before back next (k.after_free p.start.sign) (k.before_free p.end.sign))
      (is_middle f separator h [] [] before after tt tt) (k.after_free p.end.sign) (k.after_free NoSign) e in
      let start = k.tells p.start.sign NoSign told.0 in
      let there = once_unsigned q.start.sign q.end.sign oq in
      go (none_or_one p.end.sign) start told.2 (ap₂ once (sym there.0) (sym there.1) ∙ oq)
    where
      go : (p.end.sign ≡ NoSign) ⊎ (p.end.sign ≢ NoSign) → p.start.sign ≡ NoSign
          → between_signs f separator h around k p.start.sign back next p.end.sign ≡ spaces before ++ (separator ++ (spaces after ++ []))
          → once NoSign NoSign ≡ true → ⊥
      go (inl end) start middle none =
          clashing (once p.start.sign p.end.sign) (ap₂ once start end ∙ none) op
      go (inr signed) start middle none =
          sign_stands f separator h around k p.start.sign p.end.sign back next before after signed middle

  -- a text without a digit may stand in front of a number that is both ends
  module _ (front : List ℕ) (free : Every (IsOther f) front) where
    -- characters of one number, which is both ends, behind that text
    pub record IsSingle (p : Ends) (cs : List ℕ) : Type 0 where
      pub all : cs ≡ front ++ alone p.start
      pub same : p.start ≡ p.end

    -- those of a range
    abbrev pub IsRange : Ends → List ℕ → Type 0
    IsRange p cs = IsSingle p cs ⊎ (IsBoth p cs ⊎ IsShared p cs)

    -- no digit stands before the number
    front_free : (s : Sign) → Every (IsOther f) (front ++ (around s).before)
    front_free s = every-append (IsOther f) front (around s).before free (k.before_free s)

    -- lists that are joined from the other side
    regrouped : (n : Decimal) → (front ++ (around n.sign).before) ++ (digits f separator h n.absolute ++ (around n.sign).after) ≡ front ++ alone n
    regrouped n = append_assoc front (around n.sign).before (digits f separator h n.absolute ++ (around n.sign).after)

    -- one number isn't two with signs
    single_not_both : (n : Decimal) (q : Ends) (before after : Bool) → IsUnsigned n.absolute → AreDecimals q
        → front ++ alone n ≡ joined_signs q.start before after q.end → ⊥
    single_not_both n q before after hn hq e =
        one_is_not_two f separator h (front ++ (around n.sign).before) (around q.start.sign).before n.absolute q.start.absolute q.end.absolute
        (between_signs f separator h around k q.start.sign before after q.end.sign) (around n.sign).after (around q.end.sign).after
        (front_free n.sign) (k.before_free q.start.sign) hn hq.start hq.end
        (is_middle f separator h (around q.start.sign).after (around q.end.sign).before before after (k.after_free q.start.sign) (k.before_free q.end.sign))
        (k.after_free n.sign) (regrouped n ∙ e)

    -- nor two in common surroundings
    single_not_shared : (n : Decimal) (q : Ends) (before after : Bool) → IsUnsigned n.absolute → AreDecimals q
        → front ++ alone n ≡ joined_once q.start before after q.end → ⊥
    single_not_shared n q before after hn hq e =
        one_is_not_two f separator h (front ++ (around n.sign).before) (around NoSign).before n.absolute q.start.absolute q.end.absolute
        (spaces before ++ (separator ++ (spaces after ++ []))) (around n.sign).after (around NoSign).after
        (front_free n.sign) (k.before_free NoSign) hn hq.start hq.end (is_middle f separator h [] [] before after tt tt)
        (k.after_free n.sign) (regrouped n ∙ e)

    -- equal characters are of equal ranges
    pub ranges_tell : (p q : Ends) (cs ds : List ℕ) → AreDecimals p → AreDecimals q → IsRange p cs → IsRange q ds → cs ≡ ds → p ≡ q
    ranges_tell p q cs ds hp hq (inl a) (inl b) e =
        let starts = singles p.start q.start hp.start hq.start (append_cancel_left front (alone p.start) (alone q.start) (sym a.all ∙ e ∙ b.all)) in
        ap₂ pair starts (sym a.same ∙ starts ∙ b.same)
    ranges_tell p q cs ds hp hq (inl a) (inr (inl b)) e = absurd (single_not_both p.start q b.back b.next hp.start hq (sym a.all ∙ e ∙ b.all))
    ranges_tell p q cs ds hp hq (inl a) (inr (inr b)) e = absurd (single_not_shared p.start q b.back b.next hp.start hq (sym a.all ∙ e ∙ b.all))
    ranges_tell p q cs ds hp hq (inr (inl a)) (inl b) e = absurd (single_not_both q.start p a.back a.next hq.start hp (sym b.all ∙ sym e ∙ a.all))
    ranges_tell p q cs ds hp hq (inr (inl a)) (inr (inl b)) e = both_told p q a.back a.next b.back b.next hp hq (sym a.all ∙ e ∙ b.all)
    ranges_tell p q cs ds hp hq (inr (inl a)) (inr (inr b)) e =
        absurd (both_not_shared p q a.back a.next b.back b.next hp hq a.apart b.together (sym a.all ∙ e ∙ b.all))
    ranges_tell p q cs ds hp hq (inr (inr a)) (inl b) e = absurd (single_not_shared q.start p a.back a.next hq.start hp (sym b.all ∙ sym e ∙ a.all))
    ranges_tell p q cs ds hp hq (inr (inr a)) (inr (inl b)) e =
        absurd (both_not_shared q p b.back b.next a.back a.next hq hp b.apart a.together (sym b.all ∙ sym e ∙ a.all))
    ranges_tell p q cs ds hp hq (inr (inr a)) (inr (inr b)) e =
        shared_told p q a.back a.next b.back b.next hp hq a.together b.together (sym a.all ∙ e ∙ b.all)
