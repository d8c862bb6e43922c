-- Moving the point multiplies by a power of ten.
-- A size is a natural number in units of 10^-finest, so the integer part of a multiple of it is a quotient by `10 ^ finest`. There is no
-- induction over the places: the digits are cut once, where the point is moved to, into `before` and `rest`. `product_split` writes the
-- multiple as `before`, with its zeros, times the unit, plus `rest` in its own weight, and `rest_small` says that this is less than a unit.
-- It has two cases: the point is moved past the last digit, so `rest` is empty, or it isn't, so no zeros are added. `div-mul-add` ends it.
-- Digits as numbers are std's `number_after_append` and `number_lt`; `weighed_is` leads to them from the weights of `fixed_decimal`.
use Rattle.std.proofs.Common.{◌≡◌, ℕ, zero, suc, ◌+◌, ◌-◌, ◌*◌, ◌/◌, ◌^◌, ◌<◌, ◌≤◌, List, [], ◌∷◌, ◌++◌, length}
use Rattle.std.proofs.Common.{take, drop, replicate, refl, sym, ◌∙◌, ap, arith, false, IsTrue, nat_le, ◌%◌, append-nil, zero-add, append_assoc}
use Rattle.std.proofs.Common.{length-drop, ⊎_elim}
use Rattle.std.proofs.Math.Nat.{add-mul, mul_assoc, mul-lt-mul_of_pos_left}
use Rattle.std.proofs.lemmas.Nat.{pow-add, div-mul-add}
use Rattle.std.proofs.lemmas.Bool.{cases_lt}
use Rattle.std.proofs.lemmas.Bool.Decides.{nat_tests}
use Rattle.std.proofs.lemmas.List.{take-append-drop, length-replicate, drop_all}
use Rattle.std.proofs.lemmas.List.Elements.{All-drop, recursion_from_All}
use Rattle.std.proofs.lemmas.Int.Digits.{number_after_append, number_lt}
use Rattle.std.specs.Int.Digits.{number_from_digits_after}
use Rattle.fixed_decimal.specs.Unsigned.{Unsigned, IsUnsigned, AreDigits, integer, fraction, integer_count}
use Rattle.fixed_decimal.specs.Size.{size, weighed, finest}
use Rattle.fixed_decimal.proofs.Weights.{ten_more, ten_pos}
use Rattle.icu_plurals.specs.Operands.{Operands, number_of, integer_after_moving, operands_of}
use Rattle.icu_plurals.specs.Elements.{is_exactly}
use Rattle.icu_plurals.specs.Laws.{MovingThePointMultiplies, ExactlyIsTheNumber}

ten_suc : (n : ℕ) → 10 ^ suc n ≡ 10 * 10 ^ n
ten_suc n = ap (λ k. 10 ^ k) next ∙ ten_more n
  where
    next : suc n ≡ n + 1
    next = omega arith

-- a digit is worth ten to the count of what follows it
first_digit : (n d m p q : ℕ) → q ≡ 10 * p → (n * 10 + d) * p + m ≡ n * q + ((0 * 10 + d) * p + m)
first_digit n d m p q e =
    let left : (n * 10 + d) * p ≡ n * (10 * p) + d * p = add-mul (n * 10) d p ∙ ap (λ x. x + d * p) (mul_assoc n 10 p) in
    let right : (0 * 10 + d) * p ≡ d * p = ap (λ x. x * p) (zero-add d) in
    rw (e, left, right) (omega arith)

-- what is read first is worth ten to the count of what follows
number_after_is : (n : ℕ) (ds : List ℕ) → number_from_digits_after 10 n ds ≡ n * 10 ^ length ds + number_of ds
number_after_is n [] = omega arith
number_after_is n (d ∷ ds) =
    rw (number_after_is (n * 10 + d) ds, number_after_is (0 * 10 + d) ds) (first_digit n d (number_of ds) (10 ^ length ds) _ (ten_suc (length ds)))

number_of-append : (xs ys : List ℕ) → number_of (xs ++ ys) ≡ number_of xs * 10 ^ length ys + number_of ys
number_of-append xs ys = number_after_append 10 0 xs ys ∙ number_after_is (number_of xs) ys

number_of-zeros : (n : ℕ) → number_of (replicate n 0) ≡ 0
number_of-zeros zero = refl
number_of-zeros (suc n) = number_of-zeros n

-- digits that end at a place
weighed_is : (e : ℕ) (ds : List ℕ) → weighed e ds ≡ number_of ds * 10 ^ e
weighed_is e [] = omega arith
weighed_is e (x ∷ xs) =
    let rest = weighed_is e xs in
    let whole = number_after_is (0 * 10 + x) xs in
    rw (rest, pow-add 10 e (length xs), whole) (omega arith)

scale_within : (d : Unsigned) → IsUnsigned d → d.scale ≤ finest
unfolding finest
scale_within d h = omega (arith, h.low_limit)

-- digits in two parts, in units of which z units make one of the first part's
product_split : (a r m q z u : ℕ) → m * q ≡ z * u → (a * m + r) * q ≡ a * z * u + r * q
product_split a r m q z u e =
    let left : a * m * q ≡ a * z * u = mul_assoc a m q ∙ ap (λ x. a * x) e ∙ sym (mul_assoc a z u) in
    add-mul (a * m) r q ∙ ap (λ x. x + r * q) left

moved_exponent : (scale length_fraction length_rest places top : ℕ) → length_fraction ≡ scale → scale ≤ top →
    length_rest ≡ length_fraction - places → length_rest + (top - scale + places) ≡ (places - length_fraction) + (top + 0)
moved_exponent scale length_fraction length_rest places top e h k = omega arith

length-fraction : (d : Unsigned) → IsUnsigned d → length (fraction d) ≡ d.scale
length-fraction d h = omega (arith, length-drop (integer_count d) d.digits, h.integer_some)

-- the digits behind the point write less than one
rest_small : (places : ℕ) (xs : List ℕ) (q u : ℕ) → AreDigits xs → 0 < q → 0 < u →
    10 ^ length (drop places xs) * q ≡ 10 ^ (places - length xs) * u → number_of (drop places xs) * q < u
rest_small places xs q u digits some one e = ⊎_elim past within (cases_lt (length xs) places)
  where
    past : length xs < places → number_of (drop places xs) * q < u
    past h =
        let nothing : drop places xs ≡ [] = drop_all places xs (omega arith) in
        rw nothing (omega arith)

    within : places ≤ length xs → number_of (drop places xs) * q < u
    within h =
        let below : number_of (drop places xs) < 10 ^ length (drop places xs) =
        number_lt 10 (drop places xs) (recursion_from_All _ _ (All-drop (λ d. d < 10) places xs digits)) in
        let none : places - length xs ≡ 0 = omega arith in
        let no_zeros : 10 ^ (places - length xs) ≡ 1 = ap (λ n. 10 ^ n) none in
        let more = mul-lt-mul_of_pos_left below some in
        let unit : 10 ^ (places - length xs) * u ≡ u = rw no_zeros (omega arith) in
        omega (arith, more, e, unit)

-- the law of a moved point
pub moving_the_point_multiplies : MovingThePointMultiplies
moving_the_point_multiplies d places h =
    let before : List ℕ = integer d ++ take places (fraction d) in
    let rest : List ℕ = drop places (fraction d) in
    let zeros : ℕ = places - length (fraction d) in
    let split : d.digits ≡ before ++ rest =
    sym (append_assoc (integer d) (take places (fraction d)) rest ∙ ap (λ l. integer d ++ l) (take-append-drop places (fraction d))
    ∙ take-append-drop (integer_count d) d.digits) in
    let digits : number_of d.digits ≡ number_of before * 10 ^ length rest + number_of rest = ap number_of split ∙ number_of-append before rest in
    let size_of_zeros : length (replicate {A = ℕ} zeros 0) ≡ zeros = length-replicate {A = ℕ} zeros 0 in
    let whole : number_of (integer_after_moving places d) ≡ number_of before * 10 ^ zeros =
    number_of-append before (replicate zeros 0) ∙ rw (size_of_zeros, number_of-zeros zeros) (omega arith) in
    let exponent : length rest + (finest - d.scale + places) ≡ zeros + (finest + 0) =
    moved_exponent d.scale (length (fraction d)) (length rest) places finest (length-fraction d h) (scale_within d h) (length-drop places (fraction d)) in
    let units : 10 ^ length rest * 10 ^ (finest - d.scale + places) ≡ 10 ^ zeros * 10 ^ (finest + 0) =
    sym (pow-add 10 (length rest) (finest - d.scale + places)) ∙ ap (λ n. 10 ^ n) exponent ∙ pow-add 10 zeros (finest + 0) in
    let product : size d * 10 ^ places ≡ (number_of before * 10 ^ length rest + number_of rest) * 10 ^ (finest - d.scale + places) =
    rw (weighed_is (finest - d.scale) d.digits, digits, pow-add 10 (finest - d.scale) places) (omega arith) in
    let small : number_of rest * 10 ^ (finest - d.scale + places) < 10 ^ (finest + 0) =
    rest_small places (fraction d) _ _ (All-drop (λ x. x < 10) (integer_count d) d.digits h.below_ten) (ten_pos (finest - d.scale + places))
    (ten_pos (finest + 0)) units in
    whole ∙ sym (ap (λ n. n / 10 ^ (finest + 0)) (product ∙ product_split (number_of before) (number_of rest) _ _ _ _ units)
    ∙ div-mul-add (number_of before * 10 ^ zeros) (10 ^ (finest + 0)) _ small)

-- no digit of the fraction was seen, so none is written
nothing_seen : (xs : List ℕ) → length (take 18 xs) ≡ 0 → xs ≡ []
nothing_seen [] e = refl
nothing_seen (x ∷ xs) e = absurd (omega (arith, e))

-- a number below ten to the eighteenth is its eighteen lowest digits
lowest_of_small : (m n : ℕ) → nat_le (10 ^ 18) m ≡ false → m % 10 ^ 18 ≡ n → m ≡ n
lowest_of_small m n small e = grind (arith, nat_tests)

-- without a fraction the digits before the point are all of them
only_integer : (d : Unsigned) → fraction d ≡ [] → integer_after_moving 0 d ≡ d.digits
only_integer d e =
    let whole : integer d ++ fraction d ≡ d.digits = take-append-drop (integer_count d) d.digits in
    let same : integer d ≡ d.digits = sym (append-nil (integer d)) ∙ ap (λ l. integer d ++ l) (sym e) ∙ whole in
    let no_zeros : 0 - length (fraction d) ≡ 0 = omega arith in
    rw no_zeros (append-nil (integer d ++ []) ∙ append-nil (integer d) ∙ same)

-- what the four tests say
exact_parts : (o : Operands) (n : ℕ) → IsTrue (is_exactly n o) → (o.is_large ≡ false) × (o.i ≡ n) × (o.v ≡ 0)
exact_parts o n h = (grind (arith, nat_tests), grind (arith, nat_tests), grind (arith, nat_tests))

-- the law of a number that is exactly another
pub exactly_is_the_number : ExactlyIsTheNumber
exactly_is_the_number d n h exact =
    let parts = exact_parts (operands_of d 0) n exact in
    let none : fraction d ≡ [] = nothing_seen (fraction d) parts.2 in
    let scale : d.scale ≡ 0 = sym (length-fraction d h) ∙ ap length none in
    let number : number_of d.digits ≡ n = ap number_of (sym (only_integer d none)) ∙ lowest_of_small _ n parts.0 parts.1 in
    let top : finest - d.scale ≡ finest + 0 = omega arith in
    weighed_is (finest - d.scale) d.digits ∙ rw (number, top) refl
