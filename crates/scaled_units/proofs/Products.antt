-- The number that digits write, times a small number.
use Rattle.std.proofs.Common.{◌≡◌, ℕ, suc, zero, ◌+◌, ◌-◌, ◌*◌, ◌/◌, ◌%◌, ◌^◌, ◌<◌, ◌≤◌, List, []}
use Rattle.std.proofs.Common.{◌∷◌, ◌++◌, length, get_or, take, drop, set}
use Rattle.std.proofs.Common.{refl, sym, ◌∙◌, ap, arith, add-one, min, mul_assoc, zero-add, replicate, length-append}
use Rattle.std.proofs.lemmas.List.{drop_more, drop-set, length-drop, take-set, get_or-take, length-replicate}
use Rattle.std.proofs.lemmas.Nat.{mul-le, pow-add}
use Rattle.std.proofs.lemmas.Grind.{pow_more}
use Rattle.std.proofs.Math.Nat.{pow-suc, pow-zero, le_trans, mul_comm}
use Rattle.fixed_decimal.specs.Unsigned.{AreDigits, Unsigned, fraction}
use Rattle.fixed_decimal.specs.Size.{weighed}
use Rattle.fixed_decimal.proofs.Weights.{weighed-append, weighed_times, weighed_units, weighed_lt, weighed-replicate_zero}
use Rattle.fixed_decimal.proofs.Weights.{ten_pos, ten_more, ten_mono, same_power}

-- a digit times a factor and a carry: the last digit stays, the rest is carried to the next place
one_place : (p v d f c r w : ℕ) → v ≡ d * f + c → r + c * p ≡ w * f → ((v % 10) * p + r) + (v / 10) * (10 * p) ≡ (d * p + w) * f
one_place p v d f c r w e h =
    let q : v ≡ 10 * (v / 10) + v % 10 = omega arith in
    let s : v * p ≡ (10 * (v / 10) + v % 10) * p = ap (λ n. n * p) q in
    let t : v * p ≡ (d * f + c) * p = ap (λ n. n * p) e in
    omega (arith, s, t, h)

-- one place more is multiplied
pub place_more : (xs ys : List ℕ) (k v f c : ℕ) → k < length xs → length ys ≡ length xs → v ≡ get_or xs k 0 * f + c →
    weighed 0 (drop (k + 1) ys) + c * 10 ^ (length xs - (k + 1)) ≡ weighed 0 (drop (k + 1) xs) * f →
    weighed 0 (drop k (set ys k (v % 10))) + (v / 10) * 10 ^ (length xs - k) ≡ weighed 0 (drop k xs) * f
place_more xs ys k v f c inside same e h =
    let p = 10 ^ (length xs - (k + 1)) in
    let more : 10 ^ (length xs - k) ≡ 10 * p = same_power (length xs - k) (length xs - (k + 1) + 1) (omega arith) ∙ ten_more (length xs - (k + 1)) in
    let ly : 10 ^ (0 + length (drop (k + 1) ys)) ≡ p = same_power _ _ (omega (arith, length-drop (k + 1) ys)) in
    let lx : 10 ^ (0 + length (drop (k + 1) xs)) ≡ p = same_power _ _ (omega (arith, length-drop (k + 1) xs)) in
    rw (drop-set ys k (v % 10) (omega arith), drop_more xs k 0 inside, more, ly, lx)
    (one_place p v (get_or xs k 0) f c (weighed 0 (drop (k + 1) ys)) (weighed 0 (drop (k + 1) xs)) e h)

-- what is carried is at most the factor
pub carry_small : (d f c : ℕ) → d < 10 → c ≤ f → (d * f + c) / 10 ≤ f
carry_small d f c digit small =
    let most : d * f ≤ 9 * f = mul-le d f 9 f (omega arith) (omega arith) in
    omega arith

-- where there is room for the product, nothing is carried out of the front
pub carried_out : (w c p z : ℕ) → w + c * p ≡ z → z < p → w ≡ z
carried_out w zero p z e small = omega arith
carried_out w (suc c) p z e small = absurd (omega (arith, mul-le 1 p (suc c) p (omega arith) (omega arith)))

-- a digit that is not yet multiplied
pub digit_before : (xs ys : List ℕ) (k : ℕ) → take (k + 1) ys ≡ take (k + 1) xs → get_or ys k 0 ≡ get_or xs k 0
digit_before xs ys k e =
    let h : k < k + 1 = omega arith in
    sym (get_or-take (k + 1) ys k 0 h) ∙ ap (λ l. get_or l k 0) e ∙ get_or-take (k + 1) xs k 0 h

-- the digits before it
pub fronts_before : (xs ys : List ℕ) (k a : ℕ) → take (k + 1) ys ≡ take (k + 1) xs → take k (set ys k a) ≡ take k xs
fronts_before xs ys k a e =
    take-set ys k a ∙ sym (take-take_less ys k) ∙ ap (take k) e ∙ take-take_less xs k
  where
    within : (l : List ℕ) (n : ℕ) → take n (take (suc n) l) ≡ take n l
    within l zero = refl
    within [] (suc n) = refl
    within (x ∷ l) (suc n) = ap (λ t. x ∷ t) (within l n)

    take-take_less : (l : List ℕ) (n : ℕ) → take n (take (n + 1) l) ≡ take n l
    take-take_less l n = rw add-one (within l n)

-- the number that digits write with one digit more behind them
pub weighed-push : (xs : List ℕ) (x : ℕ) → weighed 0 (xs ++ x ∷ []) ≡ 10 * weighed 0 xs + x
weighed-push xs x =
    let up : weighed (0 + 1) xs ≡ weighed 0 xs * 10 ^ 1 = weighed_times 0 1 xs in
    weighed-append 0 xs (x ∷ []) ∙ omega (arith, up)

-- of a number with one digit more, the lesser of it and a bound
pub min_more : (w d m b : ℕ) → m ≡ min w b → min (m * 10 + d) b ≡ min (10 * w + d) b
min_more w d m b e = omega arith

-- a power of a factor of seven digits at most
pub factor_power : (f j : ℕ) → f ≤ 10 ^ 7 → f ^ j ≤ 10 ^ (7 * j)
factor_power f zero small = rw pow-zero (omega arith)
factor_power f (suc j) small =
    let here = factor_power f j small in
    let split : 10 ^ (7 * suc j) ≡ 10 ^ (7 * j) * 10 ^ 7 = same_power (7 * suc j) (7 * j + 7) (omega arith) ∙ pow-add 10 (7 * j) 7 in
    rw (pow-suc, split) (mul-le (f ^ j) f (10 ^ (7 * j)) (10 ^ 7) here small)

-- one factor more
pub factor_more : (w v f j : ℕ) → v ≡ w * f ^ j → v * f ≡ w * f ^ (j + 1)
factor_more w v f j e = ap (λ n. n * f) e ∙ mul_assoc w (f ^ j) f ∙ ap (λ n. w * n) (sym (pow_more f j))

-- there is room for one factor more
pub factor_room : (w v f j p n : ℕ) → v ≡ w * f ^ j → j < p → f ≤ 10 ^ 7 → w * 10 ^ (7 * p) < 10 ^ n → v * f < 10 ^ n
factor_room w v f j p n e more small room =
    let most : f ^ (j + 1) ≤ 10 ^ (7 * p) = le_trans (factor_power f (j + 1) small) (ten_mono (7 * (j + 1)) (7 * p) (omega arith)) in
    let all : w * f ^ (j + 1) ≤ w * 10 ^ (7 * p) = mul-le w (f ^ (j + 1)) w (10 ^ (7 * p)) (omega arith) most in
    omega (arith, factor_more w v f j e)

-- zeros in front weigh nothing
front_weighed : (ds : List ℕ) (z : ℕ) → weighed 0 (replicate z 0 ++ ds) ≡ weighed 0 ds
front_weighed ds z = weighed-append 0 (replicate z 0) ds ∙ rw (weighed-replicate_zero (0 + length ds) z) (zero-add _)

-- with a zero in front for each digit of the factors there is room for the product
pub front_room : (ds : List ℕ) (z : ℕ) → AreDigits ds → weighed 0 (replicate z 0 ++ ds) * 10 ^ z < 10 ^ length (replicate z 0 ++ ds)
front_room ds z digits =
    let same : weighed 0 (replicate z 0 ++ ds) ≡ weighed 0 ds = front_weighed ds z in
    let size : 10 ^ length (replicate z 0 ++ ds) ≡ 10 ^ (0 + length ds) * 10 ^ z =
    same_power _ (0 + length ds + z) (omega (arith, length-append (replicate z 0) ds, length-replicate {A = ℕ} z 0)) ∙ pow-add 10 (0 + length ds) z in
    let more : (weighed 0 ds + 1) * 10 ^ z ≤ 10 ^ (0 + length ds) * 10 ^ z =
    mul-le (weighed 0 ds + 1) (10 ^ z) (10 ^ (0 + length ds)) (10 ^ z) (omega (arith, weighed_lt 0 ds digits)) (omega arith) in
    rw (same, size) (omega (arith, more, ten_pos z))

-- a product of digits with zeros in front, as a product of sizes
pub product_size : (ds new : List ℕ) (z u m : ℕ) → weighed 0 new ≡ weighed 0 (replicate z 0 ++ ds) * m → weighed u new ≡ weighed u ds * m
product_size ds new z u m e =
    weighed_units u new ∙ ap (λ n. n * 10 ^ u) (e ∙ ap (λ n. n * m) (front_weighed ds z)) ∙ regroup (weighed 0 ds) m (10 ^ u)
    ∙ ap (λ n. n * m) (sym (weighed_units u ds))
  where
    regroup : (a b c : ℕ) → a * b * c ≡ a * c * b
    regroup a b c = mul_assoc a b c ∙ ap (λ n. a * n) (mul_comm b c) ∙ sym (mul_assoc a c b)

-- how many digits a number has below power 0
pub fraction_length : (d : Unsigned) → d.scale < length d.digits → length (fraction d) ≡ d.scale
fraction_length d some = length-drop (length d.digits - d.scale) d.digits ∙ omega arith
