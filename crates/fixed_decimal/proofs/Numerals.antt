-- A text is a numeral in at most one way, which the digits that it begins with determine.
-- What follows the digits before the point is nothing or the point, which is no digit; so the count of leading digits (std's
-- `prefix_len`) is the length of the first list, and both lists are functions of the text. Comparing two spellings item by
-- item would have to rule out that one goes on with a digit where the other has the point.
-- Then both ways of the test in `split_numeral`: where it passes, the text is a numeral (`whole_numeral`, `pointed_numeral`),
-- and of a numeral it passes (`has_point`, `has_fraction`, `fraction_passes`); the next module has this for the code's slices.
-- The rest adds the sign, which is determined since a numeral begins with none, and the limits.
use Rattle.std.proofs.Common.{◌≡◌, ◌≢◌, ℕ, ◌+◌, ◌-◌, ◌<◌, ◌≤◌, ◌⊎◌, inl, inr, List, [], ◌∷◌, ◌++◌, length, take}
use Rattle.std.proofs.Common.{drop, get_or, refl, sym, ◌∙◌, ap, arith, add-zero, length-append, max, true}
use Rattle.std.proofs.lemmas.List.{append-nil, take_rest, get_or-drop, length-map, take_at, drop_at, drop-drop, drop_all, take_all, length-take, length-drop}
use Rattle.std.proofs.lemmas.List.{get_or-take, drop_more, take-append-drop}
use Rattle.std.proofs.lemmas.List.Elements.{All-head, All-tail, All-nil, All-cons, All-append, All-map, All-weaker, All-from_get_or}
use Rattle.std.proofs.lemmas.List.Sums.{prefix_len_passes}
use Rattle.std.proofs.lemmas.Bool.Decides.{nat_tests}
use Rattle.std.specs.List.{prefix_len, AllPass}
use Rattle.std.specs.Char.{is_ascii_digit}
use Rattle.fixed_decimal.specs.declared.signs.Sign.{Sign}
use Rattle.fixed_decimal.specs.declared.signs.Sign.TheVariants.{None, Negative, Positive}
use Rattle.fixed_decimal.specs.Unsigned.{Unsigned, AreDigits, IsUnsigned, IsWithinLimits}
use Rattle.fixed_decimal.specs.Text.{digits_text, digit_values, fraction_text, IsNumeral, sign_text, integer_of, Reads, ReadsNothing, ReadsPastLimits}
use Rattle.fixed_decimal.proofs.Weights.{AreDigits-head, AreDigits-tail}

-- a written digit passes the test
pub digit_passes : (d : ℕ) → d < 10 → is_ascii_digit (48 + d) ≡ true
digit_passes d h = grind (arith, nat_tests)

-- the digits that the text of a numeral begins with are those before the point
prefix_len-numeral : (before after : List ℕ) → AreDigits before →
    prefix_len is_ascii_digit (digits_text before ++ fraction_text after) ≡ length before
prefix_len-numeral [] [] h = refl
prefix_len-numeral [] (a ∷ after) h = refl
prefix_len-numeral (b ∷ before) after h =
    rw (digit_passes b (AreDigits-head b before h), prefix_len-numeral before after (AreDigits-tail b before h)) (omega arith)

-- a text of digits alone begins with all of them
prefix_len-digits : (ds : List ℕ) → AreDigits ds → prefix_len is_ascii_digit (digits_text ds) ≡ length (digits_text ds)
prefix_len-digits [] h = refl
prefix_len-digits (d ∷ ds) h =
    rw (digit_passes d (AreDigits-head d ds h), prefix_len-digits ds (AreDigits-tail d ds h)) (omega arith)

-- the digits that a text of digits writes
pub digit_values-text : (ds : List ℕ) → digit_values (digits_text ds) ≡ ds
digit_values-text [] = refl
digit_values-text (d ∷ ds) =
    let same : 48 + d - 48 ≡ d = omega arith in
    rw (same, digit_values-text ds) refl

module _ (text before after : List ℕ) (is : IsNumeral text before after) where
  count_is : prefix_len is_ascii_digit text ≡ length before
  count_is = rw is.spelled (prefix_len-numeral before after is.before_digits)

  front_is : take (prefix_len is_ascii_digit text) text ≡ digits_text before
  front_is = rw (count_is, is.spelled) (take_at (digits_text before) (fraction_text after) (length before) (length-map before (λ d. 48 + d)))

  rest_is : drop (prefix_len is_ascii_digit text) text ≡ fraction_text after
  rest_is = rw (count_is, is.spelled) (drop_at (digits_text before) (fraction_text after) (length before) (length-map before (λ d. 48 + d)))

-- a text is the numeral of one list of digits before the point and of one after it
pub IsNumeral-unique : (text b a b' a' : List ℕ) → IsNumeral text b a → IsNumeral text b' a' → (b ≡ b') × (a ≡ a')
IsNumeral-unique text b a b' a' is is' =
    let fronts : digits_text b ≡ digits_text b' = sym (front_is text b a is) ∙ front_is text b' a' is' in
    let rests : fraction_text a ≡ fraction_text a' = sym (rest_is text b a is) ∙ rest_is text b' a' is' in (
      sym (digit_values-text b) ∙ ap digit_values fronts ∙ digit_values-text b',
      fraction_same a a' rests,
    )
  where
    fraction_same : (xs ys : List ℕ) → fraction_text xs ≡ fraction_text ys → xs ≡ ys
    fraction_same [] [] e = refl
    fraction_same [] (y ∷ ys) e = absurd (omega (arith, ap length e))
    fraction_same (x ∷ xs) [] e = absurd (omega (arith, ap length e))
    fraction_same (x ∷ xs) (y ∷ ys) e =
        let tails : digits_text (x ∷ xs) ≡ digits_text (y ∷ ys) = ap (drop 1) e in
        sym (digit_values-text (x ∷ xs)) ∙ ap digit_values tails ∙ digit_values-text (y ∷ ys)

-- a text that begins with no sign
abbrev pub BeginsUnsigned : List ℕ → Type 0
BeginsUnsigned n = (x : ℕ) (xs : List ℕ) → n ≡ x ∷ xs → (x ≢ 43) × (x ≢ 45)

-- a numeral begins with a digit or the point, and so with no sign
pub begins_unsigned : (n b a : List ℕ) → IsNumeral n b a → BeginsUnsigned n
begins_unsigned n [] [] is x xs e = absurd (omega (arith, is.some_digit))
begins_unsigned n [] (a ∷ aa) is x xs e =
    let point : x ≡ 46 = ap (λ l. get_or l 0 0) (sym e ∙ is.spelled) in
    (omega arith, omega arith)
begins_unsigned n (b ∷ bs) aa is x xs e =
    let digit : x ≡ 48 + b = ap (λ l. get_or l 0 0) (sym e ∙ is.spelled) in
    (omega arith, omega arith)

-- a text is a sign and what begins with no sign in one way at most
same_signed : (s s' : Sign) (n n' : List ℕ) → BeginsUnsigned n → BeginsUnsigned n' → sign_text s ++ n ≡ sign_text s' ++ n'
    → (s ≡ s') × (n ≡ n')
same_signed None None n n' h h' e = (refl, e)
same_signed None Negative n n' h h' e = absurd ((h 45 n' e).1 refl)
same_signed None Positive n n' h h' e = absurd ((h 43 n' e).0 refl)
same_signed Negative None n n' h h' e = absurd ((h' 45 n (sym e)).1 refl)
same_signed Positive None n n' h h' e = absurd ((h' 43 n (sym e)).0 refl)
same_signed Negative Negative n n' h h' e = (refl, ap (drop 1) e)
same_signed Positive Positive n n' h h' e = (refl, ap (drop 1) e)
same_signed Negative Positive n n' h h' e = absurd (different (ap (λ l. get_or l 0 0) e))
  where
    different : ◌≡◌ {A = ℕ} 45 43 → ⊥
    different h = omega arith
same_signed Positive Negative n n' h h' e = absurd (different (ap (λ l. get_or l 0 0) e))
  where
    different : ◌≡◌ {A = ℕ} 43 45 → ⊥
    different h = omega arith

-- the number that digits before and after the point write
abbrev pub number_of : List ℕ → List ℕ → Unsigned
number_of before after = record { digits = integer_of before ++ after; scale = length after }

-- where a text is a sign and a numeral, the number that it spells is that of this numeral
pub Reads-unique : (text : List ℕ) (s s' : Sign) (n b a : List ℕ) (d : Unsigned) → text ≡ sign_text s ++ n → IsNumeral n b a → Reads text s' d →
    d ≡ number_of b a
Reads-unique text s s' n b a d signed is r =
    let numerals : n ≡ r.numeral =
    (same_signed s s' n r.numeral (begins_unsigned n b a is) (begins_unsigned r.numeral r.before r.after r.spelled) (sym signed ∙ r.signed)).1 in
    let same : (b ≡ r.before) × (a ≡ r.after) = IsNumeral-unique n b a r.before r.after is (rw numerals r.spelled) in
    made d b a (rw (same.0, same.1) r.digits) (rw same.1 r.scale)
  where
    made : (u : Unsigned) (b a : List ℕ) → u.digits ≡ integer_of b ++ a → u.scale ≡ length a → u ≡ number_of b a
    made u b a e f = λ i. record { digits = e i; scale = f i }

-- bytes that pass the test of a digit are the text of their values
pub digits_text-values : (bs : List ℕ) → AllPass is_ascii_digit bs → digits_text (digit_values bs) ≡ bs
digits_text-values [] h = refl
digits_text-values (b ∷ bs) h =
    let first : 48 + (b - 48) ≡ b = value_of b (All-head (λ x. is_ascii_digit x ≡ true) b bs h) in
    rw (first, digits_text-values bs (All-tail (λ x. is_ascii_digit x ≡ true) b bs h)) refl
  where
    value_of : (x : ℕ) → is_ascii_digit x ≡ true → 48 + (x - 48) ≡ x
    value_of x h = grind (arith, nat_tests)

-- the values of written digits are digits
pub AreDigits-values : (bs : List ℕ) → AllPass is_ascii_digit bs → AreDigits (digit_values bs)
AreDigits-values bs h = All-map (λ d. d < 10) (λ c. c - 48) bs (All-weaker (λ x. is_ascii_digit x ≡ true) (λ x. x - 48 < 10) small bs h)
  where
    small : (x : ℕ) → is_ascii_digit x ≡ true → x - 48 < 10
    small x h = grind (arith, nat_tests)

-- the bytes of a fraction, where there are some
pub fraction_bytes : (bs : List ℕ) → AllPass is_ascii_digit bs → 0 < length bs → fraction_text (digit_values bs) ≡ 46 ∷ bs
fraction_bytes [] h some = absurd (omega arith)
fraction_bytes (b ∷ bs) h some = ap (λ l. 46 ∷ l) (digits_text-values (b ∷ bs) h)

-- which texts are numerals, by the digits at the front and behind the point
module _ (text : List ℕ) where
  front_passes : AllPass is_ascii_digit (take (prefix_len is_ascii_digit text) text)
  front_passes = All-from_get_or (λ x. is_ascii_digit x ≡ true) _ 0 (λ k h.
      let inside : k < prefix_len is_ascii_digit text = omega (arith, length-take (prefix_len is_ascii_digit text) text) in
      rw get_or-take (prefix_len_passes is_ascii_digit text k 0 inside))

  -- where the digits of a tail are all of it, each of its bytes passes
  pub tail_passes : (n : ℕ) → prefix_len is_ascii_digit (drop n text) ≡ length (drop n text) → AllPass is_ascii_digit (drop n text)
  tail_passes n all = All-from_get_or (λ x. is_ascii_digit x ≡ true) _ 0 (λ k h. prefix_len_passes is_ascii_digit (drop n text) k 0 (omega arith))

  pub whole_numeral : prefix_len is_ascii_digit text ≡ length text → 0 < length text →
      IsNumeral text (digit_values (take (prefix_len is_ascii_digit text) text)) (digit_values (drop (prefix_len is_ascii_digit text) text))
  whole_numeral all some =
      let n = prefix_len is_ascii_digit text in
      let none : drop n text ≡ [] = drop_all n text (omega arith) in
      let full : take n text ≡ text = take_all n text (omega arith) in
      rw none (record {
        spelled = rw (digits_text-values (take n text) front_passes, append-nil, full) refl;
        some_digit = rw full (omega (arith, length-map text (λ c. c - 48)));
        before_digits = AreDigits-values _ front_passes;
        after_digits = All-nil (λ d. d < 10);
      })

  pub pointed_numeral : prefix_len is_ascii_digit text < length text → get_or text (prefix_len is_ascii_digit text) 0 ≡ 46 →
      0 < length (drop (prefix_len is_ascii_digit text + 1) text) → AllPass is_ascii_digit (drop (prefix_len is_ascii_digit text + 1) text) →
      IsNumeral text (digit_values (take (prefix_len is_ascii_digit text) text)) (digit_values (drop (prefix_len is_ascii_digit text + 1) text))
  pointed_numeral inside point some digits =
      let n = prefix_len is_ascii_digit text in
      record {
        spelled = rw (digits_text-values (take n text) front_passes, fraction_bytes (drop (n + 1) text) digits some)
            (sym (take-append-drop n text) ∙ ap (λ l. take n text ++ l) (drop_more text n 0 inside ∙ ap (λ x. x ∷ drop (n + 1) text) point));
        some_digit = omega (arith, length-map (drop (n + 1) text) (λ c. c - 48));
        before_digits = AreDigits-values _ front_passes;
        after_digits = AreDigits-values _ digits;
      }

  module _ (before after : List ℕ) (is : IsNumeral text before after) where
    pub not_empty : 0 < length text
    not_empty = rw is.spelled (some before after is.some_digit)
      where
        some : (b a : List ℕ) → 0 < length b + length a → 0 < length (digits_text b ++ fraction_text a)
        some [] [] h = absurd (omega arith)
        some [] (x ∷ a) h = omega arith
        some (x ∷ b) a h = omega arith

    point_rest : prefix_len is_ascii_digit text < length text →
        (drop (prefix_len is_ascii_digit text) text ≡ 46 ∷ digits_text after) × (0 < length after)
    point_rest inside = cases after (rest_is text before after is)
      where
        cases : (a : List ℕ) → drop (prefix_len is_ascii_digit text) text ≡ fraction_text a →
            (drop (prefix_len is_ascii_digit text) text ≡ 46 ∷ digits_text a) × (0 < length a)
        cases [] e = absurd (omega (arith, ap length e, length-drop (prefix_len is_ascii_digit text) text))
        cases (x ∷ a) e = (e, omega arith)

    after_is : prefix_len is_ascii_digit text < length text → drop (prefix_len is_ascii_digit text + 1) text ≡ digits_text after
    after_is inside = sym (drop-drop 1 (prefix_len is_ascii_digit text) text) ∙ ap (drop 1) (point_rest inside).0

    pub has_point : prefix_len is_ascii_digit text < length text → get_or text (prefix_len is_ascii_digit text) 0 ≡ 46
    has_point inside =
        let n = prefix_len is_ascii_digit text in
        let here : get_or (drop n text) 0 0 ≡ get_or text (n + 0) 0 = get_or-drop n text 0 0 in
        ap (λ k. get_or text k 0) (sym (add-zero n)) ∙ sym here ∙ ap (λ l. get_or l 0 0) (point_rest inside).0

    pub has_fraction : prefix_len is_ascii_digit text < length text → 0 < length (drop (prefix_len is_ascii_digit text + 1) text)
    has_fraction inside = rw (after_is inside) (omega (arith, length-map after (λ d. 48 + d), (point_rest inside).1))

    pub fraction_passes : prefix_len is_ascii_digit text < length text →
        prefix_len is_ascii_digit (drop (prefix_len is_ascii_digit text + 1) text) ≡ length (drop (prefix_len is_ascii_digit text + 1) text)
    fraction_passes inside = rw (after_is inside) (prefix_len-digits after is.after_digits)

-- the same with the parts as the code has them: n is the count of leading digits
module _ (text : List ℕ) (n : ℕ) (e : n ≡ prefix_len is_ascii_digit text) where
  -- a text of leading digits alone is the numeral of these digits, which are its integer
  pub whole : n ≡ length text → 0 < n → IsNumeral text (digit_values (take n text)) (digit_values (take (length text - n) (drop n text)))
  whole all some = rw (take_rest, e) (whole_numeral text (sym e ∙ all) (omega arith))

  -- both parts of such a text are digits
  pub whole_passes : n ≡ length text → AllPass is_ascii_digit (take n text) × AllPass is_ascii_digit (take (length text - n) (drop n text))
  whole_passes all =
      let none : drop n text ≡ [] = drop_all n text (omega arith) in
      rw (take_rest, none, e) (front_passes text, All-nil (λ x. is_ascii_digit x ≡ true))

  module _ (inside : n < length text) where
    pub pointed_passes : (m : ℕ) → m ≡ prefix_len is_ascii_digit (take (length text - (n + 1)) (drop (n + 1) text)) →
        m ≡ length (take (length text - (n + 1)) (drop (n + 1) text)) →
        AllPass is_ascii_digit (take n text) × AllPass is_ascii_digit (take (length text - (n + 1)) (drop (n + 1) text))
    pointed_passes m f all =
        let g : prefix_len is_ascii_digit (drop (n + 1) text) ≡ length (drop (n + 1) text) = rw take_rest at (sym f ∙ all) in
        (rw e (front_passes text), rw take_rest (tail_passes text (n + 1) g))

    pub pointed : (m : ℕ) → m ≡ prefix_len is_ascii_digit (take (length text - (n + 1)) (drop (n + 1) text)) →
        m ≡ length (take (length text - (n + 1)) (drop (n + 1) text)) → get_or text n 0 ≡ 46 → 0 < m →
        IsNumeral text (digit_values (take n text)) (digit_values (take (length text - (n + 1)) (drop (n + 1) text)))
    pointed m f all point some =
        let g : prefix_len is_ascii_digit (drop (n + 1) text) ≡ length (drop (n + 1) text) = rw take_rest at (sym f ∙ all) in
        let l : m ≡ length (drop (n + 1) text) = rw take_rest at all in
        let inside' : prefix_len is_ascii_digit text < length text = omega arith in
        let point' : get_or text (prefix_len is_ascii_digit text) 0 ≡ 46 = rw e at point in
        let some' : 0 < length (drop (prefix_len is_ascii_digit text + 1) text) = rw (← e) (omega arith) in
        rw (take_rest, e) (pointed_numeral text inside' point' some' (rw (← e) (tail_passes text (n + 1) g)))

    module _ (before after : List ℕ) (is : IsNumeral text before after) where
      inside_prefix : prefix_len is_ascii_digit text < length text
      inside_prefix = omega arith

      pub has_point_at : get_or text n 0 ≡ 46
      has_point_at = rw e (has_point text before after is inside_prefix)

      pub has_fraction_at : 0 < length (take (length text - (n + 1)) (drop (n + 1) text))
      has_fraction_at = rw (take_rest, e) (has_fraction text before after is inside_prefix)

      pub fraction_passes_at : prefix_len is_ascii_digit (take (length text - (n + 1)) (drop (n + 1) text))
          ≡ length (take (length text - (n + 1)) (drop (n + 1) text))
      fraction_passes_at = rw (take_rest, e) (fraction_passes text before after is inside_prefix)

-- a number with at most 32768 digits before the point and as many after it is a decimal
pub number_valid : (b a : List ℕ) → AreDigits b → AreDigits a → length b ≤ 32768 → length a ≤ 32768 → IsUnsigned (number_of b a)
number_valid b a hb ha lb la = record {
  below_ten = All-append (λ d. d < 10) (integer_of b) a (integer_digits b hb) ha;
  integer_some = omega (arith, length-append (integer_of b) a, (integer_length b).0);
  high_limit = omega (arith, length-append (integer_of b) a, (integer_length b).1);
  low_limit = la;
}
  where
    integer_digits : (ds : List ℕ) → AreDigits ds → AreDigits (integer_of ds)
    integer_digits [] h = All-cons (λ d. d < 10) 0 [] (omega arith) (All-nil (λ d. d < 10))
    integer_digits (d ∷ ds) h = h

    integer_length : (ds : List ℕ) → (0 < length (integer_of ds)) × (length (integer_of ds) ≤ max 1 (length ds))
    integer_length [] = (omega arith, omega arith)
    integer_length (d ∷ ds) = (omega arith, omega arith)

-- what the limits say of the digits before and after the point
pub limits_iff : (b a : List ℕ) → IsWithinLimits (number_of b a) → (length b ≤ 32768) × (length a ≤ 32768)
limits_iff [] a h = (omega arith, h.low_limit)
limits_iff (x ∷ b) a h = (omega (arith, h.high_limit, length-append (x ∷ b) a), h.low_limit)

-- a sign and a numeral spell the number of the numeral
pub Reads-here : (text : List ℕ) (s : Sign) (n b a : List ℕ) → text ≡ sign_text s ++ n → IsNumeral n b a → Reads text s (number_of b a)
Reads-here text s n b a signed is = record { numeral = n; before = b; after = a; signed = signed; spelled = is; digits = refl; scale = refl }

-- past the limits exactly where one of the two lists is too long
pub past_limits : (text : List ℕ) (s : Sign) (n b a : List ℕ) → text ≡ sign_text s ++ n → IsNumeral n b a →
    (32768 < length b) ⊎ (32768 < length a) → ReadsPastLimits text
past_limits text s n b a signed is (inl h) = (s, number_of b a, Reads-here text s n b a signed is, λ w. absurd (omega (arith, (limits_iff b a w).0)))
past_limits text s n b a signed is (inr h) = (s, number_of b a, Reads-here text s n b a signed is, λ w. absurd (omega (arith, (limits_iff b a w).1)))

-- a numeral with few digits isn't past the limits
pub not_past_limits : (text : List ℕ) (s : Sign) (n b a : List ℕ) → text ≡ sign_text s ++ n → IsNumeral n b a → length b ≤ 32768 →
    length a ≤ 32768 → ¬ (ReadsPastLimits text)
not_past_limits text s n b a signed is lb la (t, d, r, past) =
    let same : d ≡ number_of b a = Reads-unique text s t n b a d signed is r in
    let valid = number_valid b a is.before_digits is.after_digits lb la in
    past (rw same (record { high_limit = valid.high_limit; low_limit = valid.low_limit }))

-- a sign and a numeral spell a decimal
pub reads_something : (text : List ℕ) (s : Sign) (n b a : List ℕ) → text ≡ sign_text s ++ n → IsNumeral n b a → ¬ (ReadsNothing text)
reads_something text s n b a signed is none = none s (number_of b a) (Reads-here text s n b a signed is)

-- a number with at most 32768 written digits before the point and as many after it is a decimal
pub text_valid : (before after : List ℕ) → AllPass is_ascii_digit before → AllPass is_ascii_digit after → length before ≤ 32768 →
    length after ≤ 32768 → IsUnsigned (record { digits = integer_of (digit_values before) ++ digit_values after; scale = length after })
text_valid before after hb ha lb la =
    let same : length (digit_values after) ≡ length after = length-map after (λ c. c - 48) in
    rw same at (number_valid (digit_values before) (digit_values after) (AreDigits-values before hb) (AreDigits-values after ha)
    (omega (arith, length-map before (λ c. c - 48))) (omega (arith, same)))

-- a text spells one sign and one number at most
pub Reads-one : (text : List ℕ) (s s' : Sign) (d d' : Unsigned) → Reads text s d → Reads text s' d' → (s ≡ s') × (d ≡ d')
Reads-one text s s' d d' r r' = (
  (same_signed s s' r.numeral r'.numeral (begins_unsigned r.numeral r.before r.after r.spelled) (begins_unsigned r'.numeral r'.before r'.after r'.spelled)
      (sym r.signed ∙ r'.signed)).0,
  Reads-unique text s s r.numeral r.before r.after d r.signed r.spelled r ∙ sym (Reads-unique text s s' r.numeral r.before r.after d' r.signed r.spelled r'),
)
