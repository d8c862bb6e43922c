-- Numbers that are read digit by digit.
use Rattle.std.proofs.Common.{◌≡◌, ℕ, ◌+◌, ◌-◌, ◌*◌, ◌/◌, ◌%◌, ◌^◌, ◌<◌, ◌≤◌, nat_le, ◌||◌, min, List, []}
use Rattle.std.proofs.Common.{◌∷◌, ◌++◌, length, take, drop, replicate, get_or, sym, ◌∙◌, ap, arith, All, ⊎_elim}
use Rattle.std.proofs.Math.Nat.{pow-le-pow_right}
use Rattle.std.proofs.lemmas.Nat.{mod-mul-add}
use Rattle.std.proofs.lemmas.Bool.{cases_lt}
use Rattle.std.proofs.lemmas.Bool.Decides.{nat_tests}
use Rattle.std.proofs.lemmas.List.Elements.{All-take, recursion_from_All}
use Rattle.std.proofs.lemmas.List.{length-take-le, take_more, take_all, drop_all, replicate-append-replicate}
use Rattle.std.proofs.lemmas.Int.Digits.{number_after_append, number_lt}
use Rattle.std.specs.Int.Digits.{number_from_digits_after}
use Rattle.fixed_decimal.specs.Unsigned.{Unsigned, integer, fraction}
use Rattle.icu_plurals.specs.Operands.{number_of, integer_after_moving}
use Rattle.icu_plurals.specs.WholeNumber.{whole_number}
use Rattle.icu_plurals.specs.declared.whole_number.WholeNumber.{WholeNumber}

-- one more digit is read
pub number_after_more : (n : ℕ) (ds : List ℕ) (i : ℕ) → i < length ds →
    number_from_digits_after 10 n (take (i + 1) ds) ≡ number_from_digits_after 10 n (take i ds) * 10 + get_or ds i 0
number_after_more n ds i h =
    ap (number_from_digits_after 10 n) (take_more ds i 0 h) ∙ number_after_append 10 n (take i ds) (get_or ds i 0 ∷ [])

-- one more zero is read
pub number_after_more_zeros : (n i : ℕ) → number_from_digits_after 10 n (replicate (i + 1) 0) ≡ number_from_digits_after 10 n (replicate i 0) * 10 + 0
number_after_more_zeros n i =
    let split : replicate (i + 1) 0 ≡ replicate i 0 ++ (0 ∷ []) = sym (replicate-append-replicate i 1 0) in
    ap (number_from_digits_after 10 n) split ∙ number_after_append 10 n (replicate i 0) (0 ∷ [])

-- fewer than eighteen digits
pub number_small : (ds : List ℕ) (i : ℕ) → All (λ d. d < 10) ds → i < length ds → length ds ≤ 18 → number_of (take i ds) < 10 ^ 17
number_small ds i digits h few =
    let below : number_of (take i ds) < 10 ^ length (take i ds) = number_lt 10 (take i ds) (recursion_from_All _ _ (All-take (λ d. d < 10) i ds digits)) in
    let short : length (take i ds) ≤ 17 = omega (arith, length-take-le i ds (omega arith)) in
    let power : 10 ^ length (take i ds) ≤ 10 ^ 17 = pow-le-pow_right (omega arith) short in
    omega arith

-- the eighteen lowest digits of a number with one more digit
pub lowest_more : (n d : ℕ) → d < 10 → n % 10 ^ 18 % 10 ^ 17 * 10 + d ≡ (n * 10 + d) % 10 ^ 18
lowest_more n d h =
    let r : ℕ = n % 10 ^ 18 in
    let q : ℕ = 10 * (n / 10 ^ 18) + r / 10 ^ 17 in
    let same : n * 10 + d ≡ q * 10 ^ 18 + (r % 10 ^ 17 * 10 + d) = omega arith in
    sym (ap (λ x. x % 10 ^ 18) same ∙ mod-mul-add q (10 ^ 18) (r % 10 ^ 17 * 10 + d) (omega arith))

-- whether a number with one more digit has more than eighteen
pub large_more : (n d : ℕ) → d < 10 → (nat_le (10 ^ 18) n || nat_le (10 ^ 17) (n % 10 ^ 18)) ≡ nat_le (10 ^ 18) (n * 10 + d)
large_more n d h = grind (arith, nat_tests)

-- digits were read after a whole number, which makes another
pub record IsReadAfter (whole : WholeNumber) (ds : List ℕ) (read : WholeNumber) : Type 0 where
  pub seen : read.lowest < 10 ^ 18
  pub reads : (n : ℕ) → whole ≡ whole_number n → read ≡ whole_number (number_from_digits_after 10 n ds)

-- the same with one more digit read after them
pub IsReadAfter-more : (whole read next : WholeNumber) (ds : List ℕ) (i : ℕ) → i < length ds → IsReadAfter whole (take i ds) read →
    next.lowest < 10 ^ 18 → ((n : ℕ) → read ≡ whole_number n → next ≡ whole_number (n * 10 + get_or ds i 0)) →
    IsReadAfter whole (take (i + 1) ds) next
IsReadAfter-more whole read next ds i h before seen step = record {
  seen = seen;
  reads = λ n e. step _ (before.reads n e) ∙ ap whole_number (sym (number_after_more n ds i h));
}

-- the same with one more zero read after zeros
pub IsReadAfter-more_zeros : (whole read next : WholeNumber) (i : ℕ) → IsReadAfter whole (replicate i 0) read → next.lowest < 10 ^ 18 →
    ((n : ℕ) → read ≡ whole_number n → next ≡ whole_number (n * 10 + 0)) → IsReadAfter whole (replicate (i + 1) 0) next
IsReadAfter-more_zeros whole read next i before seen step = record {
  seen = seen;
  reads = λ n e. step _ (before.reads n e) ∙ ap whole_number (sym (number_after_more_zeros n i));
}

-- a count that passes the list's end is the list's length
pub take-min : (xs : List ℕ) (n : ℕ) → take (min (length xs) n) xs ≡ take n xs
take-min xs n = ⊎_elim (λ h. ap (λ k. take k xs) (omega arith)) (λ h. take_all (min (length xs) n) xs (omega arith) ∙ sym (take_all n xs (omega arith)))
    (cases_lt n (length xs))

-- the same of what is left
pub drop-min : (xs : List ℕ) (n : ℕ) → drop (min (length xs) n) xs ≡ drop n xs
drop-min xs n = ⊎_elim (λ h. ap (λ k. drop k xs) (omega arith)) (λ h. drop_all (min (length xs) n) xs (omega arith) ∙ sym (drop_all n xs (omega arith)))
    (cases_lt n (length xs))

-- the digits before the point are read in three pieces
pub number_after_moving : (places : ℕ) (d : Unsigned) (passed : List ℕ) → passed ≡ take (min (length (fraction d)) places) (fraction d) →
    number_from_digits_after 10 (number_from_digits_after 10 (number_of (integer d)) passed) (replicate (places - length passed) 0)
    ≡ number_of (integer_after_moving places d)
number_after_moving places d passed is =
    let same : passed ≡ take places (fraction d) = is ∙ take-min (fraction d) places in
    let size : length passed ≡ min (length (fraction d)) places = ap length is ∙ length-take-le _ (fraction d) (omega arith) in
    let left : places - length passed ≡ places - length (fraction d) = omega arith in
    rw (left, same) (sym (number_after_append 10 0 (integer d ++ take places (fraction d)) (replicate (places - length (fraction d)) 0)
    ∙ ap (λ n. number_from_digits_after 10 n (replicate (places - length (fraction d)) 0))
    (number_after_append 10 0 (integer d) (take places (fraction d)))))
