-- What is read of a short text: its lanes are the text with zeros behind it.
use Rattle.std.proofs.Common.{◌≡◌, ℕ, ◌+◌, ◌-◌, ◌<◌, ◌≤◌, List, [], ◌∷◌, ◌++◌, length, take, drop, refl, sym, ap, ◌∙◌}
use Rattle.std.proofs.Common.{subst, arith, true}
use Rattle.std.proofs.lemmas.List.{length-take-le, take-append-le, append-nil, append_assoc, length-append, length-map, take_at, map-append}
use Rattle.std.proofs.lemmas.List.{take-append-drop, drop-append-le}
use Rattle.std.proofs.lemmas.List.Elements.{All-append, All-nil}
use Rattle.std.specs.List.{prefix_len, AllPass}
use Rattle.std.specs.Char.{is_ascii_digit}
use Rattle.fixed_decimal.specs.declared.signs.Sign.{Sign}
use Rattle.fixed_decimal.specs.Unsigned.{Unsigned, IsUnsigned, IsWithinLimits}
use Rattle.fixed_decimal.specs.Text.{digit_values, digits_text, integer_of, sign_text, IsNumber, Reads, ReadsNothing, ReadsPastLimits}
use Rattle.fixed_decimal.proofs.Numerals.{digits_text-values, AreDigits-values, tail_passes, Reads-one}

-- the first values of the lanes are those of a text of digits that the lanes begin with
pub lane_values : (text lanes values rest : List ℕ) → lanes ≡ text ++ rest → AllPass is_ascii_digit text
    → ((k : ℕ) → AllPass is_ascii_digit (take k lanes) → take k values ≡ digit_values (take k lanes))
    → take (length text) values ≡ digit_values text
lane_values text lanes values rest e digits given =
    let front : take (length text) lanes ≡ text = ap (take (length text)) e ∙ take_at text rest (length text) refl in
    given (length text) (subst (λ (l : List ℕ). AllPass is_ascii_digit l) (sym front) digits) ∙ ap digit_values front

-- where there is a digit before the point, `integer_of` gives the digits before the point
some_integer : (bs : List ℕ) → 0 < length bs → digit_values bs ≡ integer_of (digit_values bs)
some_integer [] some = absurd (omega arith)
some_integer (b ∷ bs) some = refl

-- the first values of the lanes are those of two texts of digits that the lanes begin with
pub both_values : (integer fraction lanes values rest : List ℕ) → lanes ≡ integer ++ (fraction ++ rest) → 0 < length integer →
    AllPass is_ascii_digit integer → AllPass is_ascii_digit fraction
    → ((k : ℕ) → AllPass is_ascii_digit (take k lanes) → take k values ≡ digit_values (take k lanes))
    → take (length integer + length fraction) values ≡ integer_of (digit_values integer) ++ digit_values fraction
both_values integer fraction lanes values rest e some front back given =
    ap (λ k. take k values) (sym (length-append integer fraction))
    ∙ lane_values (integer ++ fraction) lanes values rest (e ∙ sym (append_assoc integer fraction rest))
    (All-append (λ b. is_ascii_digit b ≡ true) integer fraction front back) given
    ∙ map-append (λ c. c - 48) integer fraction
    ∙ ap (λ (l : List ℕ). l ++ digit_values fraction) (some_integer integer some)

-- a whole number of at most sixteen digits is within the limits
pub whole_valid : (bs : List ℕ) → AllPass is_ascii_digit bs → 0 < length bs → length bs ≤ 16 →
    IsUnsigned (record { digits = digit_values bs; scale = 0 })
whole_valid bs digits some short = record {
  below_ten = AreDigits-values bs digits;
  integer_some = omega (arith, length-map bs (λ c. c - 48));
  high_limit = omega (arith, length-map bs (λ c. c - 48));
  low_limit = omega arith;
}

-- where a text begins with as many digits as it has bytes, each byte is a digit
pub all_digits : (text : List ℕ) → length text ≡ prefix_len is_ascii_digit text → AllPass is_ascii_digit text
all_digits text all = tail_passes text 0 (sym all)

-- a text of digits alone is their whole number
pub whole_number : (text : List ℕ) (d : Unsigned) → AllPass is_ascii_digit text → 0 < length text → d.digits ≡ digit_values text → d.scale ≡ 0 →
    IsNumber text d
whole_number text d digits some e f = record {
  before = digit_values text;
  after = [];
  spelled = record {
    spelled = sym (append-nil (digits_text (digit_values text)) ∙ digits_text-values text digits);
    some_digit = omega (arith, length-map text (λ c. c - 48));
    before_digits = AreDigits-values text digits;
    after_digits = All-nil (λ d. d < 10);
  };
  digits = e ∙ some_integer text some ∙ sym (append-nil (integer_of (digit_values text)));
  scale = f;
}

-- a text of a sign and a number reads as these
pub signed_number : (text n : List ℕ) (s : Sign) (d : Unsigned) → text ≡ sign_text s ++ n → IsNumber n d → Reads text s d
signed_number text n s d signed is = record {
  numeral = n;
  before = is.before;
  after = is.after;
  signed = signed;
  spelled = is.spelled;
  digits =
      is.digits;
  scale = is.scale;
}

-- a text of a sign and a number reads as some decimal
pub signed_reads : (text n : List ℕ) (s : Sign) (d : Unsigned) → text ≡ sign_text s ++ n → IsNumber n d → ¬ (ReadsNothing text)
signed_reads text n s d signed is none = none s d (signed_number text n s d signed is)

-- where its number is within the limits, a text of a sign and a number isn't past the limits
pub signed_within : (text n : List ℕ) (s : Sign) (d : Unsigned) → text ≡ sign_text s ++ n → IsNumber n d → IsUnsigned d → ¬ (ReadsPastLimits text)
signed_within text n s d signed is valid (t, e, r, past) =
    let same = Reads-one text s t d e (signed_number text n s d signed is) r in
    past (subst IsWithinLimits same.1 (record { high_limit = valid.high_limit; low_limit = valid.low_limit }))

-- the lanes of a text begin with each front of it
pub front_lanes : (text lanes rest : List ℕ) (n : ℕ) → lanes ≡ text ++ rest → n ≤ length text → take (length (take n text)) lanes ≡ take n text
front_lanes text lanes rest n e inside =
    ap (λ (k : ℕ). take k lanes) (length-take-le n text inside) ∙ ap (take n) e ∙ take-append-le n text rest inside

-- the lanes of a text have each rest of it where it stands in the text
behind_lanes : (text lanes rest : List ℕ) (n : ℕ) → lanes ≡ text ++ rest → n ≤ length text →
    take (length (drop n text)) (drop n lanes) ≡ drop n text
behind_lanes text lanes rest n e inside =
    ap (λ (l : List ℕ). take (length (drop n text)) (drop n l)) e
    ∙ ap (take (length (drop n text))) (drop-append-le n text rest inside)
    ∙ take_at (drop n text) rest (length (drop n text)) refl

-- the lanes of a text have what stands behind its point
pub behind_point : (text lanes rest after : List ℕ) (n : ℕ) → lanes ≡ text ++ rest → n < length text → after ≡ drop (n + 1) text →
    take (length after) (drop (length (take n text) + 1) lanes) ≡ after
behind_point text lanes rest after n e inside same =
    let at : length (take n text) ≡ n = length-take-le n text (omega arith) in
    ap (λ (l : List ℕ). take (length l) (drop (length (take n text) + 1) lanes)) same
    ∙ ap (λ (k : ℕ). take (length (drop (n + 1) text)) (drop (k + 1) lanes)) at
    ∙ behind_lanes text lanes rest (n + 1) e (omega arith)
    ∙ sym same

-- lanes without that of the point begin with what stands before it and behind it
pub without_point : (before after lanes moved : List ℕ) →
    moved ≡ take (length before) lanes ++ (drop (length before + 1) lanes ++ take 1 lanes) → take (length before) lanes ≡ before →
    take (length after) (drop (length before + 1) lanes) ≡ after
    → moved ≡ before ++ (after ++ (drop (length after) (drop (length before + 1) lanes) ++ take 1 lanes))
without_point before after lanes moved e front behind =
    let back : List ℕ = drop (length before + 1) lanes in
    let split : back ≡ after ++ drop (length after) back =
    sym (take-append-drop (length after) back) ∙ ap (λ (l : List ℕ). l ++ drop (length after) back) behind in
    e ∙ ap (λ (l : List ℕ). l ++ (back ++ take 1 lanes)) front
    ∙ ap (λ (l : List ℕ). before ++ (l ++ take 1 lanes)) split
    ∙ ap (λ (l : List ℕ). before ++ l) (append_assoc after (drop (length after) back) (take 1 lanes))
