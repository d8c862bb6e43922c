-- Numbers are read of their canonical texts.
use Rattle.std.proofs.Common.{◌≡◌, ℕ, suc, zero, ◌+◌, ◌-◌, ◌≤◌, ◌<◌, List, [], ◌∷◌, ◌++◌, length, drop, Bool, true}
use Rattle.std.proofs.Common.{false, ◌&&◌, refl, arith, sym, ◌∙◌, length-append, append_assoc, ◌≢◌}
use Rattle.std.proofs.lemmas.Bool.Decides.{nat_tests}
use Rattle.std.proofs.lemmas.List.{append-nil}
use Rattle.std.proofs.lemmas.List.Folds.{list_all-append}
use Rattle.std.specs.List.{list_all, prefix_len}
use Rattle.std.specs.Prelude.{Ok, Some, ◌==◌, nat_lt, get_or, if◌then◌else◌}
use Rattle.fixed_decimal.specs.declared.increments.RoundingIncrement.{RoundingIncrement}
use Rattle.fixed_decimal.specs.declared.increments.RoundingIncrement.TheVariants as increment
use Rattle.number_skeleton.specs.declared.numbers.Number.TheVariants as number
use Rattle.number_skeleton.specs.Bytes.{is_byte, is_digit, run_len}
use Rattle.skeleton_settings.specs.Canonical.{repeated, increment_digits, increment_len, point_zeros, behind_zeros, behind_point, number_text}
use Rattle.number_skeleton.specs.Numbers.{is_filler, filler_len, fraction_len, zeros_in, is_number, leads, leading_increment, step_of, unsigned_number}
use Rattle.number_skeleton.specs.Numbers.{number_of}
use Rattle.number_skeleton.proofs.Pieces.{all_repeated, counted, passed, repeated_length, suc_some}

-- one more
one_suc : (n : ℕ) → 1 + n ≡ suc n
one_suc n = omega arith

-- tests of equal numbers
pub same_number : (n : ℕ) → (n == n) ≡ true
same_number n = grind (arith, nat_tests)

-- a list of which the rest is nothing
pub prefix_all : (p : ℕ → Bool) (n b : ℕ) → p b ≡ true → prefix_len p (repeated n b) ≡ n
prefix_all p n b h = rw (append-nil (repeated n b)) at (counted p n b [] h refl)

pub all_of : (p : ℕ → Bool) (n b : ℕ) → p b ≡ true → list_all p (repeated n b) ≡ true
all_of p n b h = rw (append-nil (repeated n b)) at (all_repeated p n b [] h refl)

pub passed_all : (n b : ℕ) → drop n (repeated n b) ≡ []
passed_all n b = rw (append-nil (repeated n b)) at (passed n b [])

-- zeros alone
tail_filled : (z : ℕ) → filler_len (repeated z 48) ≡ length (repeated z 48)
unfolding filler_len
tail_filled z = prefix_all is_filler z 48 refl ∙ sym (repeated_length z 48)

tail_zeros : (z : ℕ) → zeros_in (repeated z 48) ≡ z
unfolding zeros_in run_len
tail_zeros z = rw (prefix_all (is_byte 48) z 48 refl, passed_all z 48) (omega arith)

-- zeros with the point among them
filled : (z : ℕ) → prefix_len is_filler (repeated z 48) ≡ length (repeated z 48)
filled z = prefix_all is_filler z 48 refl ∙ sym (repeated_length z 48)

filled_pointed : (l n : ℕ) → prefix_len is_filler (repeated n 48 ++ 46 ∷ repeated l 48) ≡ length (repeated n 48 ++ 46 ∷ repeated l 48)
unfolding repeated
filled_pointed l zero = rw (filled l) (omega arith)
filled_pointed l (suc n) = rw (filled_pointed l n) (omega arith)

pub pointed_filled : (a l : ℕ) → filler_len (repeated a 48 ++ point_zeros l) ≡ length (repeated a 48 ++ point_zeros l)
unfolding filler_len
pointed_filled a zero = rw (append-nil (repeated a 48)) (filled a)
pointed_filled a (suc l) = filled_pointed (suc l) a

pub pointed_zeros : (a l : ℕ) → zeros_in (repeated a 48 ++ point_zeros l) ≡ a + l
unfolding zeros_in run_len
pointed_zeros a zero = rw (append-nil (repeated a 48), prefix_all (is_byte 48) a 48 refl, passed_all a 48) (omega arith)
pointed_zeros a (suc l) =
    rw (
      counted (is_byte 48) a 48 (46 ∷ repeated (suc l) 48) refl refl,
      passed a 48 (46 ∷ repeated (suc l) 48),
      prefix_all (is_byte 48) (suc l) 48 refl,
    ) refl

suc_positive : (n : ℕ) → nat_lt 0 (suc n) ≡ true
suc_positive n = grind (arith, nat_tests)

suc_past : (n : ℕ) → nat_lt 1 (suc (suc n)) ≡ true
suc_past n = grind (arith, nat_tests)

-- digits in front of the point
digits_whole : (a l : ℕ) → prefix_len is_digit (repeated a 48 ++ point_zeros l) ≡ a
digits_whole a zero = counted is_digit a 48 [] refl refl
digits_whole a (suc l) = counted is_digit a 48 (46 ∷ repeated (suc l) 48) refl refl

-- what stands behind them
rest_is : (w l : ℕ) → (if length (point_zeros l) == 0 then nat_lt 0 (suc w)
    else get_or (point_zeros l) 0 0 == 46 && nat_lt 1 (length (point_zeros l)) && list_all is_digit (drop 1 (point_zeros l))) ≡ true
unfolding repeated
rest_is w zero = suc_positive w
rest_is w (suc l) = rw (suc_some (length (repeated (suc l) 48)), suc_past (length (repeated l 48)), all_of is_digit l 48 refl) refl

-- a whole number, with zeros behind the point or without
whole_number : (i : RoundingIncrement) (a l : ℕ) → is_number (increment_digits i ++ (repeated a 48 ++ point_zeros l)) ≡ true
unfolding is_number
whole_number increment.MultiplesOf1 a l = rw (digits_whole a l, one_suc a, passed a 48 (point_zeros l)) (rest_is a l)
whole_number increment.MultiplesOf2 a l = rw (digits_whole a l, one_suc a, passed a 48 (point_zeros l)) (rest_is a l)
whole_number increment.MultiplesOf5 a l = rw (digits_whole a l, one_suc a, passed a 48 (point_zeros l)) (rest_is a l)
whole_number increment.MultiplesOf25 a l = rw (digits_whole a l, one_suc a, one_suc (suc a), passed a 48 (point_zeros l)) (rest_is (suc a) l)

point_len : (l : ℕ) → length (drop 1 (point_zeros l)) ≡ l
point_len zero = refl
point_len (suc l) = repeated_length (suc l) 48

whole_fraction : (i : RoundingIncrement) (a l : ℕ) → fraction_len (increment_digits i ++ (repeated a 48 ++ point_zeros l)) ≡ l
unfolding fraction_len
whole_fraction increment.MultiplesOf1 a l = rw (digits_whole a l, one_suc a, passed a 48 (point_zeros l)) (point_len l)
whole_fraction increment.MultiplesOf2 a l = rw (digits_whole a l, one_suc a, passed a 48 (point_zeros l)) (point_len l)
whole_fraction increment.MultiplesOf5 a l = rw (digits_whole a l, one_suc a, passed a 48 (point_zeros l)) (point_len l)
whole_fraction increment.MultiplesOf25 a l = rw (digits_whole a l, one_suc a, one_suc (suc a), passed a 48 (point_zeros l)) (point_len l)

whole_leads : (i : RoundingIncrement) (a l : ℕ) → leading_increment (increment_digits i ++ (repeated a 48 ++ point_zeros l)) ≡ Some (leads i
    (increment_len i))
unfolding leading_increment repeated
whole_leads increment.MultiplesOf1 a l = refl
whole_leads increment.MultiplesOf2 zero zero = refl
whole_leads increment.MultiplesOf2 zero (suc l) = refl
whole_leads increment.MultiplesOf2 (suc a) l = refl
whole_leads increment.MultiplesOf5 a l = refl
whole_leads increment.MultiplesOf25 a l = refl

-- an increment, and zeros behind it
module _ (tail : List ℕ) (f z : ℕ) (full : filler_len tail ≡ length tail) (zeros : zeros_in tail ≡ z) where
  step_is : (i : RoundingIncrement) → leading_increment (increment_digits i ++ tail) ≡ Some (leads i (increment_len i)) → step_of (increment_digits i ++
      tail) f ≡ number.Step i z f
  unfolding step_of
  step_is increment.MultiplesOf1 h = rw (h, full, same_number (length tail), zeros) refl
  step_is increment.MultiplesOf2 h = rw (h, full, same_number (length tail), zeros) refl
  step_is increment.MultiplesOf5 h = rw (h, full, same_number (length tail), zeros) refl
  step_is increment.MultiplesOf25 h = rw (h, full, same_number (length tail), zeros) refl

whole_read : (i : RoundingIncrement) (a l : ℕ) → number_of (increment_digits i ++ (repeated a 48 ++ point_zeros l)) ≡ Ok (number.Step i (a + l) l)
unfolding number_of unsigned_number filler_len
whole_read increment.MultiplesOf1 a l =
    let s = step_is (repeated a 48 ++ point_zeros l) l (a + l) (pointed_filled a l) (pointed_zeros a l) increment.MultiplesOf1 (whole_leads
    increment.MultiplesOf1 a l) in
    rw (whole_number increment.MultiplesOf1 a l, suc_some (length (repeated a 48 ++ point_zeros l)), whole_fraction increment.MultiplesOf1 a l, s) refl
whole_read increment.MultiplesOf2 a l =
    let s = step_is (repeated a 48 ++ point_zeros l) l (a + l) (pointed_filled a l) (pointed_zeros a l) increment.MultiplesOf2 (whole_leads
    increment.MultiplesOf2 a l) in
    rw (whole_number increment.MultiplesOf2 a l, suc_some (length (repeated a 48 ++ point_zeros l)), whole_fraction increment.MultiplesOf2 a l, s) refl
whole_read increment.MultiplesOf5 a l =
    let s = step_is (repeated a 48 ++ point_zeros l) l (a + l) (pointed_filled a l) (pointed_zeros a l) increment.MultiplesOf5 (whole_leads
    increment.MultiplesOf5 a l) in
    rw (whole_number increment.MultiplesOf5 a l, suc_some (length (repeated a 48 ++ point_zeros l)), whole_fraction increment.MultiplesOf5 a l, s) refl
whole_read increment.MultiplesOf25 a l =
    let s = step_is (repeated a 48 ++ point_zeros l) l (a + l) (pointed_filled a l) (pointed_zeros a l) increment.MultiplesOf25 (whole_leads
    increment.MultiplesOf25 a l) in
    rw (whole_number increment.MultiplesOf25 a l, suc_some (suc (length (repeated a 48 ++ point_zeros l))), whole_fraction increment.MultiplesOf25 a l, s) refl

-- an increment behind the point, and zeros behind it
behind_len : (i : RoundingIncrement) (k z : ℕ) → length (repeated k 48 ++ (increment_digits i ++ repeated z 48)) ≡ suc (k + (increment_len i + z) - 1)
behind_len increment.MultiplesOf1 k z = omega (
  arith,
  length-append (repeated k 48) (increment_digits increment.MultiplesOf1 ++ repeated z 48),
  repeated_length k 48,
  repeated_length z 48,
)
behind_len increment.MultiplesOf2 k z = omega (
  arith,
  length-append (repeated k 48) (increment_digits increment.MultiplesOf2 ++ repeated z 48),
  repeated_length k 48,
  repeated_length z 48,
)
behind_len increment.MultiplesOf5 k z = omega (
  arith,
  length-append (repeated k 48) (increment_digits increment.MultiplesOf5 ++ repeated z 48),
  repeated_length k 48,
  repeated_length z 48,
)
behind_len increment.MultiplesOf25 k z = omega (
  arith,
  length-append (repeated k 48) (increment_digits increment.MultiplesOf25 ++ repeated z 48),
  repeated_length k 48,
  repeated_length z 48,
)

behind_digits : (i : RoundingIncrement) (k z : ℕ) → list_all is_digit (repeated k 48 ++ (increment_digits i ++ repeated z 48)) ≡ true
behind_digits increment.MultiplesOf1 k z = all_repeated is_digit k 48 (increment_digits increment.MultiplesOf1 ++ repeated z 48) refl (all_of is_digit z 48
    refl)
behind_digits increment.MultiplesOf2 k z = all_repeated is_digit k 48 (increment_digits increment.MultiplesOf2 ++ repeated z 48) refl (all_of is_digit z 48
    refl)
behind_digits increment.MultiplesOf5 k z = all_repeated is_digit k 48 (increment_digits increment.MultiplesOf5 ++ repeated z 48) refl (all_of is_digit z 48
    refl)
behind_digits increment.MultiplesOf25 k z = all_repeated is_digit k 48 (increment_digits increment.MultiplesOf25 ++ repeated z 48) refl (all_of is_digit z 48
    refl)

behind_number : (i : RoundingIncrement) (k z : ℕ) → is_number (48 ∷ 46 ∷ (repeated k 48 ++ (increment_digits i ++ repeated z 48))) ≡ true
unfolding is_number
behind_number i k z =
    rw (
      behind_len i k z,
      suc_some (suc (k + (increment_len i + z) - 1)),
      suc_past (k + (increment_len i + z) - 1),
      behind_digits i k z,
    ) refl

behind_fraction : (i : RoundingIncrement) (k z : ℕ) → fraction_len (48 ∷ 46 ∷ (repeated k 48 ++ (increment_digits i ++ repeated z 48))) ≡ suc (k +
    (increment_len i + z) - 1)
unfolding fraction_len
behind_fraction i k z = behind_len i k z

behind_filler : (i : RoundingIncrement) (k z : ℕ) → filler_len (48 ∷ 46 ∷ (repeated k 48 ++ (increment_digits i ++ repeated z 48))) ≡ suc (suc k)
unfolding filler_len
behind_filler increment.MultiplesOf1 k z = rw (
  counted is_filler k 48 (increment_digits increment.MultiplesOf1 ++ repeated z 48) refl refl,
  one_suc k,
  one_suc
      (suc k),
) refl
behind_filler increment.MultiplesOf2 k z = rw (
  counted is_filler k 48 (increment_digits increment.MultiplesOf2 ++ repeated z 48) refl refl,
  one_suc k,
  one_suc
      (suc k),
) refl
behind_filler increment.MultiplesOf5 k z = rw (
  counted is_filler k 48 (increment_digits increment.MultiplesOf5 ++ repeated z 48) refl refl,
  one_suc k,
  one_suc
      (suc k),
) refl
behind_filler increment.MultiplesOf25 k z = rw (
  counted is_filler k 48 (increment_digits increment.MultiplesOf25 ++ repeated z 48) refl refl,
  one_suc k,
  one_suc (suc k),
) refl

behind_leads : (i : RoundingIncrement) (z : ℕ) → leading_increment (increment_digits i ++ repeated z 48) ≡ Some (leads i (increment_len i))
unfolding leading_increment repeated
behind_leads increment.MultiplesOf1 z = refl
behind_leads increment.MultiplesOf2 zero = refl
behind_leads increment.MultiplesOf2 (suc z) = refl
behind_leads increment.MultiplesOf5 z = refl
behind_leads increment.MultiplesOf25 z = refl

behind_some : (i : RoundingIncrement) (z : ℕ) → (length (increment_digits i ++ repeated z 48) == 0) ≡ false
behind_some increment.MultiplesOf1 z = suc_some (length (repeated z 48))
behind_some increment.MultiplesOf2 z = suc_some (length (repeated z 48))
behind_some increment.MultiplesOf5 z = suc_some (length (repeated z 48))
behind_some increment.MultiplesOf25 z = suc_some (suc (length (repeated z 48)))

behind_read : (i : RoundingIncrement) (k z : ℕ) → number_of (48 ∷ 46 ∷ (repeated k 48 ++ (increment_digits i ++ repeated z 48))) ≡ Ok (number.Step i
    z (suc (k + (increment_len i + z) - 1)))
unfolding number_of unsigned_number
behind_read i k z =
    let s = step_is (repeated z 48) (suc (k + (increment_len i + z) - 1)) z (tail_filled z) (tail_zeros z) i (behind_leads i z) in
    rw (behind_number i k z, behind_filler i k z, passed k 48 (increment_digits i ++ repeated z 48), behind_some i z, behind_fraction i k z, s) refl

-- 2.5, and zeros behind it
split_read : (z : ℕ) → number_of (50 ∷ 46 ∷ 53 ∷ repeated z 48) ≡ Ok (number.Step increment.MultiplesOf25 z (suc z))
unfolding number_of unsigned_number is_number fraction_len filler_len step_of leading_increment
split_read z =
    let full : prefix_len is_filler (repeated z 48) ≡ length (repeated z 48) = filled z in
    rw (
      suc_some (suc (length (repeated z 48))),
      suc_past (length (repeated z 48)),
      all_of is_digit z 48 refl,
      suc_some (suc (suc (length (repeated z 48)))),
      full,
      same_number (length (repeated z 48)),
      tail_zeros z,
      repeated_length z 48,
    ) refl

-- the text of an increment behind the point
module _ (i : RoundingIncrement) (b least : ℕ) (long : increment_len i ≤ suc b) (within : suc b ≤ least) where
  zeros_read : number_of (behind_zeros i (suc b) ++ repeated (least - suc b) 48) ≡ Ok (number.Step i (least - suc b) least)
  zeros_read =
      let e : suc (suc b - increment_len i + (increment_len i + (least - suc b)) - 1) ≡ least = omega arith in
      rw (append_assoc (repeated (suc b - increment_len i) 48) (increment_digits i) (repeated (least - suc b) 48))
      (behind_read i (suc b - increment_len i) (least - suc b) ∙ rw e refl)

below_read : (i : RoundingIncrement) (b least : ℕ) → suc b ≤ least → number_of (behind_point i (suc b) ++ repeated (least - suc b) 48) ≡ Ok
    (number.Step i (least - suc b) least)
below_read increment.MultiplesOf1 b least h = zeros_read increment.MultiplesOf1 b least (omega arith) h
below_read increment.MultiplesOf2 b least h = zeros_read increment.MultiplesOf2 b least (omega arith) h
below_read increment.MultiplesOf5 b least h = zeros_read increment.MultiplesOf5 b least (omega arith) h
below_read increment.MultiplesOf25 zero least h = let e : suc (least - 1) ≡ least = omega arith in split_read (least - 1) ∙ rw e refl
below_read increment.MultiplesOf25 (suc b) least h = zeros_read increment.MultiplesOf25 (suc b) least (omega arith) h

-- the text of a number is read as it
pub number_read : (i : RoundingIncrement) (above below least : ℕ) → below ≤ least → (below ≢ 0 → above ≡ 0) →
    number_of (number_text i above below least) ≡ Ok (number.Step i (above + (least - below)) least)
number_read i above zero least h k = let e : least - 0 ≡ least = omega arith in rw e (whole_read i above least)
number_read i above (suc b) least h k =
    let none : above ≡ 0 = k (λ e. absurd cc) in
    let e : above + (least - suc b) ≡ least - suc b = omega arith in
    below_read i b least h ∙ rw e refl

-- both of two lists
pub both_all : (p : ℕ → Bool) (xs ys : List ℕ) → list_all p xs ≡ true → list_all p ys ≡ true → list_all p (xs ++ ys) ≡ true
both_all p xs ys h k = list_all-append p xs ys ∙ rw (h, k) refl

-- what holds of the digits of increments, of zero and of the point holds of each byte of a number
module _ (p : ℕ → Bool) (zero_is : p 48 ≡ true) (point_is : p 46 ≡ true) (one_is : p 49 ≡ true) (two_is : p 50 ≡ true) (five_is : p 53 ≡ true)
  where
    zeros_all : (n : ℕ) → list_all p (repeated n 48) ≡ true
    zeros_all n = all_of p n 48 zero_is

    digits_all : (i : RoundingIncrement) → list_all p (increment_digits i) ≡ true
    digits_all increment.MultiplesOf1 = rw one_is refl
    digits_all increment.MultiplesOf2 = rw two_is refl
    digits_all increment.MultiplesOf5 = rw five_is refl
    digits_all increment.MultiplesOf25 = rw (two_is, five_is) refl

    point_all : (l : ℕ) → list_all p (point_zeros l) ≡ true
    point_all zero = refl
    point_all (suc l) = rw (point_is, zeros_all (suc l)) refl

    behind_all : (i : RoundingIncrement) (b : ℕ) → list_all p (behind_zeros i b) ≡ true
    behind_all i b =
        rw (zero_is, point_is) (both_all p (repeated (b - increment_len i) 48) (increment_digits i) (zeros_all (b - increment_len i)) (digits_all i))

    front_all : (i : RoundingIncrement) (b : ℕ) → list_all p (behind_point i (suc b)) ≡ true
    front_all increment.MultiplesOf1 b = behind_all increment.MultiplesOf1 (suc b)
    front_all increment.MultiplesOf2 b = behind_all increment.MultiplesOf2 (suc b)
    front_all increment.MultiplesOf5 b = behind_all increment.MultiplesOf5 (suc b)
    front_all increment.MultiplesOf25 zero = rw (two_is, point_is, five_is) refl
    front_all increment.MultiplesOf25 (suc b) = behind_all increment.MultiplesOf25 (suc (suc b))

    pub number_all : (i : RoundingIncrement) (above below least : ℕ) → list_all p (number_text i above below least) ≡ true
    number_all i above zero least =
        both_all p (increment_digits i) (repeated above 48 ++ point_zeros least) (digits_all i) (both_all p (repeated above 48) (point_zeros least) (zeros_all
        above) (point_all least))
    number_all i above (suc b) least = both_all p (behind_point i (suc b)) (repeated (least - suc b) 48) (front_all i b) (zeros_all (least - suc b))

-- a number has a digit
pub number_some : (i : RoundingIncrement) (above below least : ℕ) → 0 < length (number_text i above below least)
number_some increment.MultiplesOf1 above zero least = omega arith
number_some increment.MultiplesOf1 above (suc b) least = omega arith
number_some increment.MultiplesOf2 above zero least = omega arith
number_some increment.MultiplesOf2 above (suc b) least = omega arith
number_some increment.MultiplesOf5 above zero least = omega arith
number_some increment.MultiplesOf5 above (suc b) least = omega arith
number_some increment.MultiplesOf25 above zero least = omega arith
number_some increment.MultiplesOf25 above (suc zero) least = omega arith
number_some increment.MultiplesOf25 above (suc (suc b)) least = omega arith
