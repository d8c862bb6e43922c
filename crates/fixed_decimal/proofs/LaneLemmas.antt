-- From the mask of sixteen lanes to the digits that they begin with.
-- A mask shifted by k is the mask of the lanes after the first k (`mask_l-drop`, by induction on k: halving drops a lane),
-- and the count of its trailing zeros, from std, is the number of lanes before the first that stops. Whether a lane stops
-- is `top 7 (ge 10 (sub x 48))`, a subtraction that wraps and a comparison: that a lane goes on exactly at `is_ascii_digit`
-- is computed for all 256 bytes (`agree_below`) where the lemma is used. The operations of a lane are therefore variables
-- here; arithmetic on bits would be needed to show the agreement for a byte that is a variable. Below that are lists alone:
-- a short text with zeros behind it, copied by its two ends, and longer texts in steps of sixteen.
use Rattle.std.proofs.Common.{◌≡◌, ℕ, ◌+◌, ◌-◌, ◌*◌, ◌%◌, ◌/◌, ◌^◌, ◌<◌, ◌≤◌, Bool, true, false, not, cond, List, []}
use Rattle.std.proofs.Common.{◌∷◌, map, length, get_or, take, drop, Fits, w8, refl, sym, ap, ◌∙◌, arith, zero, suc, replicate, ◌++◌}
use Rattle.std.proofs.lemmas.Bool.{agree_below, agree_below_at}
use Rattle.std.proofs.lemmas.Simd.{zip2_splat, zip2_splat_left, map-map, mask_l-mod, leading_from_mask_l, trailing_mask_l, Each1-from_get_or}
use Rattle.std.proofs.lemmas.List.{length-take-le, drop-drop, drop-replicate, take_all, length-map, drop-map, length-drop, get_or-drop, take-append-le}
use Rattle.std.proofs.lemmas.List.{take-take, take-append-drop, append_assoc}
use Rattle.std.proofs.lemmas.Slice.{drop-append-drop}
use Rattle.std.proofs.lemmas.List.Elements.{All-head, All-tail}
use Rattle.std.proofs.lemmas.List.Sums.{prefix_len-le-length}
use Rattle.std.specs.List.{prefix_len, AllPass}
use Rattle.std.specs.Char.{is_ascii_digit}
use Rattle.std.proofs.Math.Nat.{pow-zero, pow-suc, div-one, zero-div, div-div-eq-div-mul, mul_comm}
use Rattle.std.specs.Prelude.{◌==◌, if◌then◌else◌}
use Rattle.std.proofs.lemmas.Bool.{eqb-true}
use Rattle.std.proofs.lemmas.Bool.Decides.{nat_tests}
use lib.Lanes.{Each1, zip2, chunk, mask_l, top}
use lib.Count.{count_trailing_zeros}
use Rattle.fixed_decimal.specs.Text.{digit_values}

lowest : (b : Bool) (n : ℕ) → (cond b 1 0 + 2 * n) / 2 ≡ n
lowest true n = omega arith
lowest false n = omega arith

-- the lowest bits of a mask shifted out are the first lanes
mask_l-drop : (k : ℕ) (ms : List Bool) → mask_l ms / 2 ^ k ≡ mask_l (drop k ms)
mask_l-drop zero ms = ap (λ n. mask_l ms / n) (pow-zero 2) ∙ div-one (mask_l ms)
mask_l-drop (suc k) [] = zero-div (2 ^ suc k)
mask_l-drop (suc k) (m ∷ ms) =
    ap (λ n. mask_l (m ∷ ms) / n) (pow-suc 2 k ∙ mul_comm (2 ^ k) 2)
    ∙ sym (div-div-eq-div-mul (mask_l (m ∷ ms)) 2 (2 ^ k))
    ∙ ap (λ n. n / 2 ^ k) (lowest m (mask_l ms))
    ∙ mask_l-drop k ms

-- two tests that agree on bytes are passed by the same lanes at the front
prefix_len-agrees : (p q : ℕ → Bool) → ((x : ℕ) → x < 256 → p x ≡ q x) → (xs : List ℕ) → Each1 (λ x. x < 256) xs →
    prefix_len p xs ≡ prefix_len q xs
prefix_len-agrees p q same [] h = refl
prefix_len-agrees p q same (x ∷ xs) h = rw (same x h.0, prefix_len-agrees p q same xs h.1) refl

module _ (sub ge : ℕ → ℕ → ℕ) (agree : agree_below (λ x. not (top 7 (ge 10 (sub x 48)))) is_ascii_digit 256 ≡ true) (v : List ℕ) (start : ℕ)
    (long : length v ≡ 16) (inside : start ≤ 16) (fits : (k : ℕ) → Fits w8 (get_or v k 0)) where
  abbrev mask : ℕ
  mask = mask_l (map (top 7) (zip2 ge (replicate 16 10) (zip2 sub (chunk 0 16 v) (replicate 16 48))))

  abbrev stops : ℕ → Bool
  stops x = top 7 (ge 10 (sub x 48))

  mask_is : mask % 2 ^ 64 / 2 ^ start ≡ mask_l (map stops (drop start v))
  mask_is =
      let whole : chunk 0 16 v ≡ v = take_all 16 v (omega (arith, long)) in
      let values : zip2 sub (chunk 0 16 v) (replicate 16 48) ≡ map (λ x. sub x 48) v =
      ap (λ l. zip2 sub l (replicate 16 48)) whole ∙ zip2_splat sub v 16 48 long in
      let lanes : zip2 ge (replicate 16 10) (zip2 sub (chunk 0 16 v) (replicate 16 48)) ≡ map (λ x. ge 10 (sub x 48)) v =
      ap (zip2 ge (replicate 16 10)) values ∙ zip2_splat_left ge 10 16 (map (λ x. sub x 48) v) (length-map v (λ x. sub x 48) ∙ long)
      ∙ map-map (λ y. ge 10 y) (λ x. sub x 48) v in
      ap (λ l. mask_l l % 2 ^ 64 / 2 ^ start) (ap (map (top 7)) lanes ∙ map-map (top 7) (λ x. ge 10 (sub x 48)) v)
      ∙ ap (λ n. n / 2 ^ start) (mask_l-mod (map stops v) 64 (omega (arith, length-map v stops, long)))
      ∙ mask_l-drop start (map stops v)
      ∙ ap mask_l (drop-map stops start v)

  digits_are : prefix_len (λ x. not (stops x)) (drop start v) ≡ prefix_len is_ascii_digit (drop start v)
  digits_are = prefix_len-agrees (λ x. not (stops x)) is_ascii_digit (λ x small. agree_below_at (λ x. not (stops x)) is_ascii_digit 256 x agree small)
      (drop start v) (Each1-from_get_or (λ x. x < 256) (drop start v) 0 (λ k h. rw (get_or-drop start v k 0) (fits (start + k)).fits))

  -- where no lane from the start on stops, all of them are digits
  pub none_stops : mask % 2 ^ 64 / 2 ^ start ≡ 0 → 16 - start ≡ prefix_len is_ascii_digit (drop start v)
  none_stops none =
      omega (arith, leading_from_mask_l stops (drop start v) (sym mask_is ∙ none), length-drop start v, long, digits_are)

  -- where some lane stops, the first of them ends the digits
  pub one_stops : (mask % 2 ^ 64 / 2 ^ start ≡ 0 → ⊥) → count_trailing_zeros 64 (mask % 2 ^ 64 / 2 ^ start) ≡ prefix_len is_ascii_digit (drop start v)
  one_stops some =
      ap (count_trailing_zeros 64) mask_is
      ∙ trailing_mask_l stops 64 (drop start v) (omega (arith, length-drop start v, long)) (omega (arith, mask_is, some))
      ∙ digits_are

-- the subtraction gives the values of the lanes that are digits
pub values_are : (sub : ℕ → ℕ → ℕ) → agree_below (λ x. if is_ascii_digit x then sub x 48 == x - 48 else true) (λ _. true) 256 ≡ true →
    (v : List ℕ) → length v ≡ 16 → (n : ℕ) → AllPass is_ascii_digit (take n v)
    → take n (zip2 sub (chunk 0 16 v) (replicate 16 48)) ≡ digit_values (take n v)
values_are sub agree v long n digits =
    ap (take n) (ap (λ l. zip2 sub l (replicate 16 48)) (take_all 16 v (omega (arith, long))) ∙ zip2_splat sub v 16 48 long) ∙ go v n digits
  where
    here : (x : ℕ) → is_ascii_digit x ≡ true → sub x 48 ≡ x - 48
    here x digit =
        let small : x < 256 = grind (arith, nat_tests) in
        eqb-true _ _ (rw digit at (agree_below_at (λ x. if is_ascii_digit x then sub x 48 == x - 48 else true) (λ _. true) 256 x agree small))

    go : (v : List ℕ) (n : ℕ) → AllPass is_ascii_digit (take n v) → take n (map (λ x. sub x 48) v) ≡ digit_values (take n v)
    go v zero digits = refl
    go [] (suc n) digits = refl
    go (x ∷ v) (suc n) digits =
        rw (here x (All-head (λ x. is_ascii_digit x ≡ true) x (take n v) digits), go v n (All-tail (λ x. is_ascii_digit x ≡ true) x (take n v) digits))
        refl

-- the first n and the last n bytes of a text, written over zeros, are the text and zeros behind it
pub both_ends : (text zeros first last front result : List ℕ) (n : ℕ) → n ≤ length text → length text ≤ n + n → length text ≤ 16 →
    zeros ≡ replicate 16 0 → first ≡ take n text → last ≡ drop (length text - n) text
    → front ≡ first ++ drop (0 + length first) zeros → result ≡ take (length text - n) front ++ (last ++ drop (length text - n + length last) front) →
    result ≡ text ++ replicate (16 - length text) 0
both_ends text zeros first last front result n part both short e0 e1 e2 eg er =
    let at : 0 + length first ≡ length first = omega arith in
    let ef : front ≡ first ++ drop (length first) zeros = eg ∙ ap (λ (k : ℕ). first ++ drop k zeros) at in
    let a : length first ≡ n = ap length e1 ∙ length-take-le n text part in
    let b : take (length text - n) front ≡ take (length text - n) text =
    ap (take (length text - n)) ef ∙ take-append-le (length text - n) first (drop (length first) zeros) (omega (arith, a, both))
    ∙ ap (take (length text - n)) e1 ∙ take-take (length text - n) n text (omega (arith, both)) in
    let len : length last ≡ length text - (length text - n) = ap length e2 ∙ length-drop (length text - n) text in
    let all : length text - n + length last ≡ length text = omega (arith, len, part) in
    let z : drop (length text - n + length last) front ≡ replicate (16 - length text) 0 =
    ap (λ (k : ℕ). drop k front) all
    ∙ ap (drop (length text)) ef
    ∙ drop-append-drop (length first) zeros first (length text) (omega (arith, a, part)) refl
    ∙ ap (drop (length text)) e0
    ∙ drop-replicate (length text) 16 0 in
    er
    ∙ ap (λ (l : List ℕ). l ++ (last ++ drop (length text - n + length last) front)) b
    ∙ ap (λ (l : List ℕ). take (length text - n) text ++ (last ++ l)) z
    ∙ ap (λ (l : List ℕ). take (length text - n) text ++ (l ++ replicate (16 - length text) 0)) e2
    ∙ sym (append_assoc (take (length text - n) text) (drop (length text - n) text) (replicate (16 - length text) 0))
    ∙ ap (λ (l : List ℕ). l ++ replicate (16 - length text) 0) (take-append-drop (length text - n) text)

-- the lanes behind two texts are still zeros
pub both_left : (front back zeros part : List ℕ) → part ≡ drop (length front) zeros → zeros ≡ replicate 16 0 → length front + length back ≤ 16 →
    drop (length back) part ≡ replicate (16 - (length front + length back)) 0
both_left front back zeros part e f le =
    ap (drop (length back)) (e ∙ ap (drop (length front)) f)
    ∙ drop-drop (length back) (length front) (replicate 16 0)
    ∙ drop-replicate (length front + length back) 16 0

-- zeros behind a text are no digits
pub padded_digits : (text : List ℕ) (n start : ℕ) → start ≤ length text →
    prefix_len is_ascii_digit (drop start (text ++ replicate n 0)) ≡ prefix_len is_ascii_digit (drop start text)
padded_digits text n zero le = go text
  where
    none : (n : ℕ) → prefix_len is_ascii_digit (replicate n 0) ≡ 0
    none zero = refl
    none (suc n) = refl

    go : (text : List ℕ) → prefix_len is_ascii_digit (text ++ replicate n 0) ≡ prefix_len is_ascii_digit text
    go [] = none n
    go (x ∷ text) = ap (λ (k : ℕ). if is_ascii_digit x then 1 + k else 0) (go text)
padded_digits [] n (suc start) le = absurd (omega arith)
padded_digits (x ∷ text) n (suc start) le = padded_digits text n start (omega arith)

-- digits that end inside of the first n items are all the digits at the front
pub part_ends : (n : ℕ) (xs : List ℕ) → prefix_len is_ascii_digit (take n xs) < length (take n xs) →
    prefix_len is_ascii_digit xs ≡ prefix_len is_ascii_digit (take n xs)
part_ends zero xs some = absurd (omega arith)
part_ends (suc n) [] some = refl
part_ends (suc n) (x ∷ xs) some = go (is_ascii_digit x) (part_ends n xs) some
  where
    go : (t : Bool) → (prefix_len is_ascii_digit (take n xs) < length (take n xs) → prefix_len is_ascii_digit xs ≡ prefix_len is_ascii_digit (take n xs))
        → (if t then 1 + prefix_len is_ascii_digit (take n xs) else 0) < suc (length (take n xs))
        → (if t then 1 + prefix_len is_ascii_digit xs else 0) ≡ (if t then 1 + prefix_len is_ascii_digit (take n xs) else 0)
    go true more some = ap (λ k. 1 + k) (more (omega arith))
    go false more some = refl

-- where the first n items are digits, the digits at the front go on behind them
pub part_full : (n : ℕ) (xs : List ℕ) → prefix_len is_ascii_digit (take n xs) ≡ n →
    prefix_len is_ascii_digit xs ≡ n + prefix_len is_ascii_digit (drop n xs)
part_full zero xs all = omega arith
part_full (suc n) [] all = absurd (omega arith)
part_full (suc n) (x ∷ xs) all = go (is_ascii_digit x) (part_full n xs) all
  where
    go : (t : Bool) → (prefix_len is_ascii_digit (take n xs) ≡ n → prefix_len is_ascii_digit xs ≡ n + prefix_len is_ascii_digit (drop n xs))
        → (if t then 1 + prefix_len is_ascii_digit (take n xs) else 0) ≡ suc n →
        (if t then 1 + prefix_len is_ascii_digit xs else 0) ≡ suc n + prefix_len is_ascii_digit (drop n xs)
    go true more all = omega (arith, more (omega arith))
    go false more all = absurd (omega arith)

-- one more step, over the sixteen bytes from `count` on, which begin with `run` digits
module _ (text : List ℕ) (count run : ℕ) (inside : count + 16 ≤ length text)
    (found : run ≡ prefix_len is_ascii_digit (take (count + 16 - count) (drop count text))) where
  pub step_long : length (take 16 (drop count text)) ≡ 16
  step_long = length-take-le 16 (drop count text) (omega (arith, length-drop count text))

  pub step_found : run ≡ prefix_len is_ascii_digit (take 16 (drop count text))
  step_found =
      let n : count + 16 - count ≡ 16 = omega arith in
      found ∙ ap (λ (k : ℕ). prefix_len is_ascii_digit (take k (drop count text))) n

  -- a step reads sixteen bytes at most
  pub step_within : run ≤ 16
  step_within = omega (arith, step_found, step_long, prefix_len-le-length is_ascii_digit (take 16 (drop count text)))

  -- with fewer than sixteen digits in a step, the digits of the text end in it
  pub step_ends : run < 16 → prefix_len is_ascii_digit text ≡ count + prefix_len is_ascii_digit (drop count text) →
      count + run ≡ prefix_len is_ascii_digit text
  step_ends short so_far = omega (arith, so_far, step_found, part_ends 16 (drop count text) (omega (arith, step_found, step_long)))

  -- with sixteen digits in a step, the digits of the text go on behind it as far as those of the rest
  pub step_goes_on : 16 ≤ run → prefix_len is_ascii_digit text ≡ count + prefix_len is_ascii_digit (drop count text) →
      prefix_len is_ascii_digit text ≡ count + run + prefix_len is_ascii_digit (drop (count + run) text)
  step_goes_on full so_far =
      let all : run ≡ 16 = omega (arith, step_within) in
      let rest : drop 16 (drop count text) ≡ drop (count + run) text = drop-drop 16 count text ∙ ap (λ (k : ℕ). drop (count + k) text) (sym all) in
      omega (arith, so_far, all, part_full 16 (drop count text) (sym step_found ∙ all), ap (prefix_len is_ascii_digit) rest)
