-- What a text reads as, computed and as a relation.
-- From the relation to what is computed (`reading-reads`): the text is written as sign, digits and fraction, and each step of
-- the computation takes its part off the front, by induction on the digits; that it stops there needs that no digit follows.
-- Back (`reading-spells`): by cases on each test of the computation, where `go` has the answer of the test as a variable and
-- its equation besides, since `if` is computed only at true and false. Each case gives the parts of which the text consists.
-- That nothing is computed exactly where nothing is spelled follows from both. Uniqueness (proofs/Numerals) is not needed:
-- both directions name the parts.
use Rattle.std.proofs.Common.{◌≡◌, ℕ, ◌<◌, ◌+◌, ◌-◌, Bool, true, false, List, [], ◌∷◌, ◌++◌, length, refl, sym, ap, ◌∙◌}
use Rattle.std.proofs.Common.{subst, arith, ne_eqb, Option, Some, None, append-nil, All}
use Rattle.std.specs.Prelude.{◌==◌, if◌then◌else◌}
use Rattle.std.specs.Char.{is_ascii_digit}
use Rattle.std.specs.Str.{IsUtf8}
use Rattle.std.proofs.lemmas.Str.{IsUtf8-from_ascii}
use Rattle.std.proofs.lemmas.Str.Ascii.{IsAscii-from_all}
use Rattle.std.proofs.lemmas.Bool.{eqb-true}
use Rattle.std.proofs.lemmas.Bool.Decides.{nat_tests}
use Rattle.std.proofs.lemmas.List.Elements.{All-head, All-tail, All-nil, All-cons, All-append, All-map, All-weaker}
use Rattle.fixed_decimal.specs.declared.signs.Sign.{Sign}
use Rattle.fixed_decimal.specs.declared.signs.Sign.TheVariants.{None as no_sign, Negative, Positive}
use Rattle.fixed_decimal.specs.Unsigned.{Unsigned, AreDigits}
use Rattle.fixed_decimal.specs.Text.{sign_text, digits_text, fraction_text, integer_of, IsNumeral, Reads, ReadsNothing}
use Rattle.fixed_decimal.specs.Reading.{Digits, digit_before, leading_digits, number, with_fraction, after_integer, unsigned_reading, signed, reading}
use Rattle.fixed_decimal.proofs.Numerals.{digit_passes, BeginsUnsigned, begins_unsigned}

-- the list does not begin with a digit
abbrev BeginsNoDigit : List ℕ → Type 0
BeginsNoDigit [] = Unit {0}
BeginsNoDigit (b ∷ bs) = is_ascii_digit b ≡ false

fraction_begins : (ds : List ℕ) → BeginsNoDigit (fraction_text ds)
fraction_begins [] = tt
fraction_begins (d ∷ ds) = refl

leading_digits-text : (ds rest : List ℕ) → AreDigits ds → BeginsNoDigit rest →
    leading_digits (digits_text ds ++ rest) ≡ record { values = ds; rest = rest }
leading_digits-text [] [] h k = refl
leading_digits-text [] (b ∷ bs) h k = rw k refl
leading_digits-text (d ∷ ds) rest h k =
    let same : 48 + d - 48 ≡ d = omega arith in
    rw (digit_passes d (All-head (λ x. x < 10) d ds h), leading_digits-text ds rest (All-tail (λ x. x < 10) d ds h) k, same) refl

after_integer-text : (before after : List ℕ) → 0 < length before + length after → AreDigits after →
    after_integer before (fraction_text after) ≡ number before after
after_integer-text [] [] some h = absurd (omega arith)
after_integer-text (d ∷ ds) [] some h = refl
after_integer-text before (x ∷ xs) some h =
    let e : leading_digits (digits_text (x ∷ xs)) ≡ record { values = x ∷ xs; rest = [] } =
    ap leading_digits (sym (append-nil (digits_text (x ∷ xs)))) ∙ leading_digits-text (x ∷ xs) [] h tt in
    ap (λ (k : Digits). with_fraction before k.values k.rest) e

unsigned_reading-text : (before after : List ℕ) → 0 < length before + length after → AreDigits before → AreDigits after →
    unsigned_reading (digits_text before ++ fraction_text after) ≡ number before after
unsigned_reading-text before after some h k =
    ap (λ (d : Digits). after_integer d.values d.rest) (leading_digits-text before (fraction_text after) h (fraction_begins after))
    ∙ after_integer-text before after some k

-- the sign is split off, where what follows it begins with none
reading-signed : (s : Sign) (n : List ℕ) → BeginsUnsigned n → reading (sign_text s ++ n) ≡ signed s (unsigned_reading n)
unfolding reading
reading-signed no_sign [] h = refl
reading-signed no_sign (b ∷ bs) h =
    let no_sign_first = h b bs refl in
    rw (ne_eqb b 45 no_sign_first.1, ne_eqb b 43 no_sign_first.0) refl
reading-signed Negative n h = refl
reading-signed Positive n h = refl

-- what a text spells is computed of it
pub reading-reads : (text : List ℕ) (s : Sign) (d : Unsigned) → Reads text s d → reading text ≡ Some (s, d)
reading-reads text s d r =
    let is = r.spelled in
    ap reading r.signed
    ∙ reading-signed s r.numeral (begins_unsigned r.numeral r.before r.after is)
    ∙ ap (λ (n : List ℕ). signed s (unsigned_reading n)) is.spelled
    ∙ ap (signed s) (unsigned_reading-text r.before r.after is.some_digit is.before_digits is.after_digits)
    ∙ ap (λ (u : Unsigned). Some (s, u)) (same d (integer_of r.before ++ r.after) (length r.after) r.digits r.scale)
  where
    same : (u : Unsigned) (ds : List ℕ) (n : ℕ) → u.digits ≡ ds → u.scale ≡ n → record { digits = ds; scale = n } ≡ u
    same u ds n e f = λ i. record { digits = (sym e) i; scale = (sym f) i }

-- a byte that passes the test of a digit is the text of its value, which is a digit
digit_back : (b : ℕ) → is_ascii_digit b ≡ true → (48 + (b - 48) ≡ b) × (b - 48 < 10)
digit_back b h = (grind (arith, nat_tests), grind (arith, nat_tests))

abbrev IsSplit : List ℕ → Digits → Type 0
IsSplit text d = (text ≡ digits_text d.values ++ d.rest) × AreDigits d.values

leading_digits-spells : (text : List ℕ) → IsSplit text (leading_digits text)
leading_digits-spells [] = (refl, All-nil (λ d. d < 10))
leading_digits-spells (b ∷ bs) = go (is_ascii_digit b) refl (leading_digits bs) (leading_digits-spells bs)
  where
    go : (t : Bool) → is_ascii_digit b ≡ t → (d : Digits) → IsSplit bs d →
        IsSplit (b ∷ bs) (if t then digit_before b d else record { values = []; rest = b ∷ bs })
    go true e d is =
        let back = digit_back b e in (
          ap (λ (k : List ℕ). b ∷ k) is.0 ∙ ap (λ (x : ℕ). x ∷ (digits_text d.values ++ d.rest)) (sym back.0),
          All-cons (λ x. x < 10) (b - 48) d.values back.1 is.1,
        )
    go false e d is = (refl, All-nil (λ x. x < 10))

-- the text spells the digits before and after a point, and these are the number
record Spells (text : List ℕ) (u : Unsigned) : Type 0 where
  before : List ℕ
  after : List ℕ
  numeral : IsNumeral text before after
  is : number before after ≡ Some u

after_integer-spells : (before rest : List ℕ) (u : Unsigned) → AreDigits before → after_integer before rest ≡ Some u →
    Spells (digits_text before ++ rest) u
after_integer-spells [] [] u h e = absurd cc
after_integer-spells (d ∷ ds) [] u h e = record {
  before = d ∷ ds;
  after = [];
  numeral = record { spelled = refl; some_digit = omega arith; before_digits = h; after_digits = All-nil (λ x. x < 10) };
  is = e;
}
after_integer-spells before (b ∷ bs) u h e = at_point (b == 46) refl e
  where
    with_digits : (d : Digits) → IsSplit bs d → b ≡ 46 → with_fraction before d.values d.rest ≡ Some u → Spells (digits_text before ++ b ∷ bs) u
    with_digits d is point f = go d.values d.rest is.0 is.1 f
      where
        go : (v r : List ℕ) → bs ≡ digits_text v ++ r → AreDigits v → with_fraction before v r ≡ Some u →
            Spells (digits_text before ++ b ∷ bs) u
        go [] r e k f = absurd cc
        go (x ∷ xs) (y ∷ ys) e k f = absurd cc
        go (x ∷ xs) [] e k f = record {
          before = before;
          after = x ∷ xs;
          numeral = record {
            spelled = ap (λ (l : List ℕ). digits_text before ++ l)
                (ap (λ (y : ℕ). y ∷ bs) point ∙ ap (λ (l : List ℕ). 46 ∷ l) (e ∙ append-nil (digits_text (x ∷ xs))));
            some_digit = omega arith;
            before_digits = h;
            after_digits = k;
          };
          is = f;
        }

    at_point : (t : Bool) → (b == 46) ≡ t → (if t then with_fraction before (leading_digits bs).values (leading_digits bs).rest else None) ≡ Some u →
        Spells (digits_text before ++ b ∷ bs) u
    at_point true p f = with_digits (leading_digits bs) (leading_digits-spells bs) (eqb-true b 46 p) f
    at_point false p f = absurd cc

unsigned_reading-spells : (text : List ℕ) (u : Unsigned) → unsigned_reading text ≡ Some u → Spells text u
unsigned_reading-spells text u e =
    let is = leading_digits-spells text in
    subst (λ (k : List ℕ). Spells k u) (sym is.0) (after_integer-spells (leading_digits text).values (leading_digits text).rest u is.1 e)

signed-spells : (s s' : Sign) (n : List ℕ) (o : Option Unsigned) (d : Unsigned) → unsigned_reading n ≡ o → signed s' o ≡ Some (s, d) →
    Reads (sign_text s' ++ n) s d
signed-spells s s' n None d e f = absurd cc
signed-spells s s' n (Some u) d e f =
    let pair : ◌≡◌ {A = Sign × Unsigned} (s', u) (s, d) = cc in
    let same_sign : s' ≡ s = ap (λ (q : Sign × Unsigned). q.0) pair in
    let same_number : u ≡ d = ap (λ (q : Sign × Unsigned). q.1) pair in
    let spells = unsigned_reading-spells n u e in
    let parts : number spells.before spells.after ≡ Some d = spells.is ∙ ap (λ (k : Unsigned). Some k) same_number in
    let whole : record { digits = integer_of spells.before ++ spells.after; scale = length spells.after } ≡ d = cc in
    record {
      numeral = n;
      before = spells.before;
      after = spells.after;
      signed = ap (λ (k : Sign). sign_text k ++ n) same_sign;
      spelled = spells.numeral;
      digits = sym (ap (λ (k : Unsigned). k.digits) whole);
      scale = sym (ap (λ (k : Unsigned). k.scale) whole);
    }

-- what is computed of a text is what it spells
pub reading-spells : (text : List ℕ) (s : Sign) (d : Unsigned) → reading text ≡ Some (s, d) → Reads text s d
unfolding reading
reading-spells [] s d e = absurd cc
reading-spells (b ∷ bs) s d e = go (b == 45) (b == 43) refl refl e
  where
    go : (t u : Bool) → (b == 45) ≡ t → (b == 43) ≡ u →
        (if t then signed Negative (unsigned_reading bs) else
        (if u then signed Positive (unsigned_reading bs) else signed no_sign (unsigned_reading (b ∷ bs)))) ≡ Some (s, d) → Reads (b ∷ bs) s d
    go true u p q e = subst (λ (x : ℕ). Reads (x ∷ bs) s d) (sym (eqb-true b 45 p)) (signed-spells s Negative bs (unsigned_reading bs) d refl e)
    go false true p q e = subst (λ (x : ℕ). Reads (x ∷ bs) s d) (sym (eqb-true b 43 q)) (signed-spells s Positive bs (unsigned_reading bs) d refl e)
    go false false p q e = signed-spells s no_sign (b ∷ bs) (unsigned_reading (b ∷ bs)) d refl e

-- nothing is computed of a text that spells nothing
pub reading-nothing : (text : List ℕ) → ReadsNothing text → reading text ≡ None
reading-nothing text none = go (reading text) refl
  where
    go : (o : Option (Sign × Unsigned)) → reading text ≡ o → o ≡ None
    go None e = refl
    go (Some (s, d)) e = absurd (none s d (reading-spells text s d e))

-- a text of which nothing is computed spells nothing
pub nothing-reading : (text : List ℕ) → reading text ≡ None → ReadsNothing text
nothing-reading text none s d r = differ (sym none ∙ reading-reads text s d r)
  where
    differ : ◌≡◌ {A = Option (Sign × Unsigned)} None (Some (s, d)) → ⊥
    differ e = cc

-- a text that reads as a decimal is ASCII
digits_ascii : (ds : List ℕ) → AreDigits ds → All (λ b. b < 128) (digits_text ds)
digits_ascii ds h = All-map (λ b. b < 128) (λ d. 48 + d) ds (All-weaker (λ d. d < 10) (λ d. 48 + d < 128) (λ d k. omega arith) ds h)

fraction_ascii : (ds : List ℕ) → AreDigits ds → All (λ b. b < 128) (fraction_text ds)
fraction_ascii [] h = All-nil (λ b. b < 128)
fraction_ascii (d ∷ ds) h = All-cons (λ b. b < 128) 46 (digits_text (d ∷ ds)) (omega arith) (digits_ascii (d ∷ ds) h)

sign_ascii : (s : Sign) → All (λ b. b < 128) (sign_text s)
sign_ascii no_sign = All-nil (λ b. b < 128)
sign_ascii Negative = All-cons (λ b. b < 128) 45 [] (omega arith) (All-nil (λ b. b < 128))
sign_ascii Positive = All-cons (λ b. b < 128) 43 [] (omega arith) (All-nil (λ b. b < 128))

-- bytes that aren't UTF-8 spell nothing
pub reads_nothing : (text : List ℕ) → ¬ (IsUtf8 text) → ReadsNothing text
reads_nothing text no_text s d r =
    let is = r.spelled in
    let number_ascii : All (λ b. b < 128) r.numeral = subst (λ (k : List ℕ). All (λ b. b < 128) k) (sym is.spelled)
    (All-append (λ b. b < 128) (digits_text r.before) (fraction_text r.after) (digits_ascii r.before is.before_digits)
    (fraction_ascii r.after is.after_digits)) in
    let ascii : All (λ b. b < 128) text = subst (λ (k : List ℕ). All (λ b. b < 128) k) (sym r.signed)
    (All-append (λ b. b < 128) (sign_text s) r.numeral (sign_ascii s) number_ascii) in
    no_text (IsUtf8-from_ascii text (IsAscii-from_all text ascii))
