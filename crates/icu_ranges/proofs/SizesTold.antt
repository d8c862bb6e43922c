-- Which of two decimals is larger, told by their digits.
use Rattle.std.proofs.Common.{◌≡◌, ◌≢◌, ◌↔◌, ℕ, zero, suc, ◌+◌, ◌-◌, ◌*◌}
use Rattle.std.proofs.Common.{◌^◌, ◌<◌, ◌≤◌, List, [], ◌∷◌, ◌++◌, length, drop, slice_index}
use Rattle.std.proofs.Common.{Bool, true, false, IsTrue, sym, ap, ◌∙◌, subst, arith, replicate, inl, inr, length-drop}
use Rattle.std.proofs.lemmas.Bool.{cases_lt}
use Rattle.std.proofs.lemmas.List.{take-append-drop}
use Rattle.std.proofs.Math.Nat.{mul-le-mul_left}
use Rattle.std.proofs.lemmas.List.Elements.{All-tail}
use Rattle.fixed_decimal.specs.Unsigned.{AreDigits, IsUnsigned, Unsigned, fraction, integer}
use Rattle.fixed_decimal.specs.Size.{finest, size, weighed}
use Rattle.fixed_decimal.proofs.Weights.{ten_mono, weighed_lt, weighed_units, weighed-append, weighed-replicate_zero}
use Rattle.icu_ranges.specs.Digits.{IsTrimmed, TellsHeavier}

-- every place below power 0 stands above the unit
fine : (s : ℕ) → s ≤ 32768 → s ≤ finest
unfolding finest
fine s h = omega arith

-- digits behind others are digits
digits_behind : (n : ℕ) (ts : List ℕ) → AreDigits (replicate n 0 ++ ts) → AreDigits ts
digits_behind zero ts h = h
digits_behind (suc n) ts h = digits_behind n ts (All-tail (λ d. d < 10) 0 (replicate n 0 ++ ts) h)

-- what is left without the zeros in front are digits
pub trimmed_digits : (ds ts : List ℕ) → AreDigits ds → IsTrimmed ds ts → AreDigits ts
trimmed_digits ds ts h t = digits_behind t.zeros ts (subst AreDigits t.all h)

-- how many digits stand below power 0
fraction_length : (u : Unsigned) → IsUnsigned u → length (fraction u) ≡ u.scale
fraction_length u h = length-drop (length u.digits - u.scale) u.digits ∙ omega (arith, h.integer_some)

-- the place of the last digit, and the digits below power 0, come up to power 0
pub fraction_place : (u : Unsigned) → IsUnsigned u → finest - u.scale + length (fraction u) ≡ finest
fraction_place u h = omega (arith, fraction_length u h, fine u.scale h.low_limit)

-- the size: the whole part in units of power 0, and the rest
pub size_parts : (u : Unsigned) (ts : List ℕ) → IsUnsigned u → IsTrimmed (integer u) ts →
    size u ≡ weighed 0 ts * 10 ^ finest + weighed (finest - u.scale) (fraction u)
size_parts u ts h t =
    ap (weighed (finest - u.scale)) (sym (take-append-drop (length u.digits - u.scale) u.digits))
    ∙ weighed-append (finest - u.scale) (integer u) (fraction u)
    ∙ ap (λ n. weighed n (integer u) + weighed (finest - u.scale) (fraction u)) (fraction_place u h)
    ∙ ap (λ n. n + weighed (finest - u.scale) (fraction u)) whole
  where
    whole : weighed finest (integer u) ≡ weighed 0 ts * 10 ^ finest
    whole =
        ap (weighed finest) t.all ∙ weighed-append finest (replicate t.zeros 0) ts
        ∙ ap (λ n. n + weighed finest ts) (weighed-replicate_zero (finest + length ts) t.zeros)
        ∙ omega (arith, weighed_units finest ts)

-- the rest is less than a unit of power 0
pub rest_small : (u : Unsigned) → IsUnsigned u → weighed (finest - u.scale) (fraction u) < 10 ^ finest
rest_small u h =
    subst (λ n. weighed (finest - u.scale) (fraction u) < 10 ^ n) (fraction_place u h)
    (weighed_lt (finest - u.scale) (fraction u) (digits_from (length u.digits - u.scale) u.digits h.below_ten))
  where
    digits_from : (n : ℕ) (ds : List ℕ) → AreDigits ds → AreDigits (drop n ds)
    digits_from zero ds d = d
    digits_from (suc n) [] d = d
    digits_from (suc n) (x ∷ ds) d = digits_from n ds (All-tail (λ e. e < 10) x ds d)

-- a greater whole part makes a greater size
greater_whole : (a b unit r s : ℕ) → b < a → s < unit → b * unit + s < a * unit + r
greater_whole a b unit r s less small =
    let step : suc b ≤ a = less in
    omega (arith, small, mul-le-mul_left unit step)

-- a decimal whose whole part weighs more is larger
pub larger_by_whole : (u v : Unsigned) (ds es : List ℕ) → IsUnsigned u → IsUnsigned v → IsTrimmed (integer u) ds → IsTrimmed (integer v) es →
    weighed 0 es < weighed 0 ds → size v < size u
larger_by_whole u v ds es hu hv tu tv less =
    omega (
      arith,
      size_parts u ds hu tu,
      size_parts v es hv tv,
      greater_whole (weighed 0 ds) (weighed 0 es) (10 ^ finest) (weighed (finest - u.scale) (fraction u)) (weighed (finest - v.scale) (fraction v)) less
          (rest_small v hv),
    )

-- more digits weigh more, where the first isn't 0
longer_weighs_more : (ds es : List ℕ) → AreDigits es → (0 < length ds → slice_index ds 0 ≢ 0) → length es < length ds →
    weighed 0 es < weighed 0 ds
longer_weighs_more [] es h first less = absurd (omega arith)
longer_weighs_more (d ∷ ds) es h first less =
    let some : 1 ≤ d = omega (arith, first (omega arith)) in
    let tall : 10 ^ (0 + length es) ≤ 10 ^ (0 + length ds) = ten_mono (0 + length es) (0 + length ds) (omega arith) in
    omega (arith, weighed_lt 0 es h, tall, mul-le-mul_left (10 ^ (0 + length ds)) some)

-- a decimal with more digits in front of the point is larger
pub larger_by_length : (u v : Unsigned) (ds es : List ℕ) → IsUnsigned u → IsUnsigned v → AreDigits (integer v) → IsTrimmed (integer u) ds →
    IsTrimmed (integer v) es → length es < length ds → size v < size u
larger_by_length u v ds es hu hv digits tu tv less =
    larger_by_whole u v ds es hu hv tu tv (longer_weighs_more ds es (trimmed_digits (integer v) es digits tv) tu.begins less)

-- where the numbers of digits differ, they tell which is larger
pub lengths_tell : (answer : Bool) (u v : Unsigned) (ds es : List ℕ) → IsUnsigned u → IsUnsigned v → AreDigits (integer u) → AreDigits (integer v) →
    IsTrimmed (integer u) ds → IsTrimmed (integer v) es → length ds ≢ length es → (IsTrue answer ↔ (length es < length ds)) →
    IsTrue answer ↔ (size v < size u)
lengths_tell answer u v ds es hu hv du dv tu tv differ told = (
  λ yes. larger_by_length u v ds es hu hv dv tu tv (told.0 yes),
  λ less. told.1 (elim (cases_lt (length es) (length ds)) [
    | inl below ↦ below
    | inr above ↦ absurd (omega (arith, less, larger_by_length v u es ds hv hu du tv tu (omega arith)))
  ]),
)

-- where they are equal, the whole parts are told
pub wholes_tell : (answer : Bool) (u v : Unsigned) (ds es : List ℕ) → IsUnsigned u → IsUnsigned v → IsTrimmed (integer u) ds →
    IsTrimmed (integer v) es → length ds ≡ length es → TellsHeavier answer ds es → answer ≡ true → size v < size u
wholes_tell answer u v ds es hu hv tu tv same told passed = larger_by_whole u v ds es hu hv tu tv ((told 0 0 (omega arith)).0 passed)

-- a test that isn't passed
not_told : (answer : Bool) (ds es : List ℕ) → length ds ≡ length es → TellsHeavier answer ds es → answer ≡ false →
    ¬ (weighed 0 es < weighed 0 ds)
not_told answer ds es same told failed less = let passed : answer ≡ true = (told 0 0 (omega arith)).1 less in cc

-- where neither whole part is more, the fractions tell
pub fractions_tell : (answer one other : Bool) (u v : Unsigned) (ds es : List ℕ) → IsUnsigned u → IsUnsigned v → IsTrimmed (integer u) ds →
    IsTrimmed (integer v) es → length ds ≡ length es → TellsHeavier one ds es → one ≡ false → TellsHeavier other es ds → other ≡ false →
    TellsHeavier answer (fraction u) (fraction v) → IsTrue answer ↔ (size v < size u)
fractions_tell answer one other u v ds es hu hv tu tv same told failed told' failed' rest =
    let e : weighed 0 ds ≡ weighed 0 es =
    omega (arith, not_told one ds es same told failed, not_told other es ds (sym same) told' failed') in
    let p : size v ≡ weighed 0 ds * 10 ^ finest + weighed (finest - v.scale) (fraction v) =
    size_parts v es hv tv ∙ ap (λ n. n * 10 ^ finest + weighed (finest - v.scale) (fraction v)) (sym e) in
    let q = rest (finest - u.scale) (finest - v.scale) (fraction_place u hu ∙ sym (fraction_place v hv)) in (
      λ yes. omega (arith, size_parts u ds hu tu, p, q.0 yes),
      λ less. q.1 (omega (arith, size_parts u ds hu tu, p, less)),
    )
