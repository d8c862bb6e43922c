-- What a head of digits, a tail (the digits behind it that decide whether a number is a multiple of an increment) and zeros weigh.
use Rattle.std.proofs.Common.{◌≡◌, ◌≢◌, ℕ, ◌+◌, ◌*◌, ◌/◌, ◌%◌, ◌^◌, ◌<◌, ◌≤◌, inl, inr, List, [], ◌∷◌}
use Rattle.std.proofs.Common.{◌++◌}
use Rattle.std.proofs.Common.{length, take, get_or, replicate, refl, sym, ◌∙◌, ap, arith, zero-add, add-zero}
use Rattle.std.proofs.lemmas.Bool.{cases_lt}
use Rattle.std.proofs.lemmas.List.{length-replicate, take_more, take_all, get_or_past}
use Rattle.std.proofs.lemmas.List.Elements.{All-get_or, All-cons, All-nil}
use Rattle.fixed_decimal.specs.Unsigned.{AreDigits}
use Rattle.fixed_decimal.specs.Size.{weighed}
use Rattle.fixed_decimal.specs.declared.modes.UnsignedRoundingMode.{UnsignedRoundingMode}
use Rattle.fixed_decimal.specs.declared.increments.RoundingIncrement.{RoundingIncrement}
use Rattle.fixed_decimal.specs.declared.increments.RoundingIncrement.TheVariants.{MultiplesOf1, MultiplesOf2, MultiplesOf5, MultiplesOf25}
use Rattle.fixed_decimal.specs.Increments.{step_of, tail_count, tail_of, tail_digits, IsTailTaken}
use Rattle.fixed_decimal.proofs.Weights.{weighed-append, weighed_times, weighed-replicate_zero}
use Rattle.fixed_decimal.proofs.Weights.{ten_more, ten_mono}
use Rattle.fixed_decimal.proofs.Halves.{last_digit}
use Rattle.fixed_decimal.proofs.Steps.{next_step}

-- two digits more
two_more : (ds : List ℕ) (head : ℕ) → head + 2 ≤ length ds →
    take (head + 2) ds ≡ (take head ds ++ get_or ds head 0 ∷ []) ++ get_or ds (head + 1) 0 ∷ []
two_more ds head h =
    ap (λ k. take k ds) (omega arith) ∙ take_more ds (head + 1) 0 (omega arith)
    ∙ ap (λ xs. xs ++ get_or ds (head + 1) 0 ∷ []) (take_more ds head 0 (omega arith))

-- what the kept digits write is ten to the count of the tail's digits times the head, and the tail
pub kept_weight : (increment : RoundingIncrement) (ds : List ℕ) (head : ℕ) → head + tail_count increment ≤ length ds →
    weighed 0 (take (head + tail_count increment) ds) ≡ weighed 0 (take head ds) * 10 ^ tail_count increment + tail_of increment ds head
kept_weight MultiplesOf1 ds head h = go
  where
    go : weighed 0 (take (head + 0) ds) ≡ weighed 0 (take head ds) * 1 + 0
    go = ap (λ k. weighed 0 (take k ds)) (add-zero head) ∙ omega arith
kept_weight MultiplesOf2 ds head h = go
  where
    go : weighed 0 (take (head + 1) ds) ≡ weighed 0 (take head ds) * 10 + get_or ds head 0
    go = ap (weighed 0) (take_more ds head 0 (omega arith)) ∙ omega (arith, last_digit (take head ds) (get_or ds head 0))
kept_weight MultiplesOf5 ds head h = go
  where
    go : weighed 0 (take (head + 1) ds) ≡ weighed 0 (take head ds) * 10 + get_or ds head 0
    go = ap (weighed 0) (take_more ds head 0 (omega arith)) ∙ omega (arith, last_digit (take head ds) (get_or ds head 0))
kept_weight MultiplesOf25 ds head h = go
  where
    go : weighed 0 (take (head + 2) ds) ≡ weighed 0 (take head ds) * 100 + (get_or ds head 0 * 10 + get_or ds (head + 1) 0)
    go = ap (weighed 0) (two_more ds head h) ∙ omega (
      arith,
      last_digit (take head ds ++ get_or ds head 0 ∷ []) (get_or ds (head + 1) 0),
      last_digit (take head ds) (get_or ds head 0),
    )

-- where the digits end within the tail, they write a tenth of the head and the tail
pub short_weight : (increment : RoundingIncrement) (ds : List ℕ) (head : ℕ) → head < length ds → length ds < head + tail_count increment →
    (length ds + 1 ≡ head + tail_count increment) × (weighed 0 (take head ds) * 10 ^ tail_count increment + tail_of increment ds head ≡ weighed 0 ds * 10)
short_weight MultiplesOf1 ds head inside short = absurd (go short)
  where
    go : length ds < head + 0 → ⊥
    go h = omega arith
short_weight MultiplesOf2 ds head inside short = absurd (go short)
  where
    go : length ds < head + 1 → ⊥
    go h = omega arith
short_weight MultiplesOf5 ds head inside short = absurd (go short)
  where
    go : length ds < head + 1 → ⊥
    go h = omega arith
short_weight MultiplesOf25 ds head inside short = go short
  where
    go : length ds < head + 2 →
        (length ds + 1 ≡ head + 2) × (weighed 0 (take head ds) * 100 + (get_or ds head 0 * 10 + get_or ds (head + 1) 0) ≡ weighed 0 ds * 10)
    go h =
        let none : get_or ds (head + 1) 0 ≡ 0 = get_or_past ds (head + 1) 0 (omega arith) in
        let all : ds ≡ take head ds ++ get_or ds head 0 ∷ [] = sym (take_all (head + 1) ds (omega arith)) ∙ take_more ds head 0 inside in
        let weight : weighed 0 ds ≡ 10 * weighed 0 (take head ds) + get_or ds head 0 = ap (weighed 0) all ∙ last_digit (take head ds) (get_or ds head 0) in
        (omega arith, omega arith)

-- the digits of a tail are as many as decide
pub tail_length : (increment : RoundingIncrement) (t : ℕ) → length (tail_digits increment t) ≡ tail_count increment
tail_length MultiplesOf1 t = refl
tail_length MultiplesOf2 t = refl
tail_length MultiplesOf5 t = refl
tail_length MultiplesOf25 t = refl

-- they write the tail
pub tail_weight : (increment : RoundingIncrement) (t : ℕ) → t < 10 ^ tail_count increment → weighed 0 (tail_digits increment t) ≡ t
tail_weight MultiplesOf1 t h = go h
  where
    go : t < 1 → 0 ≡ t
    go h = omega arith
tail_weight MultiplesOf2 t h = omega arith
tail_weight MultiplesOf5 t h = omega arith
tail_weight MultiplesOf25 t h = omega arith

-- and each is below ten
pub tail_below_ten : (increment : RoundingIncrement) (t : ℕ) → t < 10 ^ tail_count increment → AreDigits (tail_digits increment t)
tail_below_ten MultiplesOf1 t h = All-nil (λ d. d < 10)
tail_below_ten MultiplesOf2 t h = All-cons (λ d. d < 10) t [] h (All-nil (λ d. d < 10))
tail_below_ten MultiplesOf5 t h = All-cons (λ d. d < 10) t [] h (All-nil (λ d. d < 10))
tail_below_ten MultiplesOf25 t h = go h
  where
    go : t < 100 → AreDigits (t / 10 ∷ t % 10 ∷ [])
    go h = All-cons (λ d. d < 10) (t / 10) (t % 10 ∷ []) (omega arith) (All-cons (λ d. d < 10) (t % 10) [] (omega arith) (All-nil (λ d. d < 10)))

-- a head, zeros and a tail write ten to the count of the tail's digits times the head, and the tail
pub joined_weight : (increment : RoundingIncrement) (hs : List ℕ) (k t : ℕ) → t < 10 ^ tail_count increment →
    weighed 0 ((hs ++ replicate k 0) ++ tail_digits increment t) ≡ weighed k hs * 10 ^ tail_count increment + t
joined_weight increment hs k t small =
    let w = tail_count increment in
    let split : weighed 0 ((hs ++ replicate k 0) ++ tail_digits increment t) ≡ weighed (0 + length (tail_digits increment t)) (hs ++ replicate k 0)
    + weighed 0 (tail_digits increment t) = weighed-append 0 (hs ++ replicate k 0) (tail_digits increment t) in
    let parts : weighed w (hs ++ replicate k 0) ≡ weighed (w + length {A = ℕ} (replicate k 0)) hs + weighed w (replicate k 0) =
    weighed-append w hs (replicate k 0) in
    let zeros : w + length {A = ℕ} (replicate k 0) ≡ k + w = omega (arith, length-replicate {A = ℕ} k 0) in
    let front : weighed w (hs ++ replicate k 0) ≡ weighed k hs * 10 ^ w =
    rw (parts, zeros, weighed-replicate_zero w k, weighed_times k w hs) (add-zero _) in
    let same : 0 + length (tail_digits increment t) ≡ w = zero-add _ ∙ tail_length increment t in
    rw (split, same, front, tail_weight increment t small) refl

-- a digit, or nothing past the end, is below ten
digit_small : (ds : List ℕ) (i : ℕ) → AreDigits ds → get_or ds i 0 < 10
digit_small ds i all = elim (cases_lt i (length ds)) [
  | inl inside ↦ All-get_or (λ d. d < 10) ds i 0 inside all
  | inr past ↦ rw (get_or_past ds i 0 past) (omega arith)
]

-- a tail writes less than ten to its count
pub tail_small : (increment : RoundingIncrement) (ds : List ℕ) (head : ℕ) → AreDigits ds → tail_of increment ds head < 10 ^ tail_count increment
tail_small MultiplesOf1 ds head all = go
  where
    go : 0 < 1
    go = omega arith
tail_small MultiplesOf2 ds head all = digit_small ds head all
tail_small MultiplesOf5 ds head all = digit_small ds head all
tail_small MultiplesOf25 ds head all = go (digit_small ds head all) (digit_small ds (head + 1) all)
  where
    go : get_or ds head 0 < 10 → get_or ds (head + 1) 0 < 10 → get_or ds head 0 * 10 + get_or ds (head + 1) 0 < 100
    go a b = omega arith

-- whole steps of a tail are no more than the tail
steps_within : (increment : RoundingIncrement) (tail : ℕ) → tail / step_of increment * step_of increment ≤ tail
steps_within MultiplesOf1 tail = omega arith
steps_within MultiplesOf2 tail = omega arith
steps_within MultiplesOf5 tail = omega arith
steps_within MultiplesOf25 tail = omega arith

-- what becomes of a tail is at most ten to the count of its digits
pub taken_most : (mode : UnsignedRoundingMode) (increment : RoundingIncrement) (head tail base rest t : ℕ) → tail < 10 ^ tail_count increment →
    IsTailTaken mode increment head tail base rest t → t ≤ 10 ^ tail_count increment
taken_most mode increment head tail base rest t small (inl (decided, is)) = rw is (next_step increment tail small)
taken_most mode increment head tail base rest t small (inr (decided, is)) = rw is (omega (arith, steps_within increment tail))

-- a step has as many digits as a tail, but for the step of 1
pub step_fits : (increment : RoundingIncrement) → increment ≢ MultiplesOf1 → step_of increment < 10 ^ tail_count increment
step_fits MultiplesOf1 other = absurd (other refl)
step_fits MultiplesOf2 other = omega arith
step_fits MultiplesOf5 other = omega arith
step_fits MultiplesOf25 other = omega arith

-- a step has no fewer digits than a tail
pub step_large : (increment : RoundingIncrement) → 10 ^ tail_count increment ≤ 10 * step_of increment
step_large MultiplesOf1 = omega arith
step_large MultiplesOf2 = omega arith
step_large MultiplesOf5 = omega arith
step_large MultiplesOf25 = omega arith

-- a tail has one or two digits, but for the step of 1
pub some_digits : (increment : RoundingIncrement) → increment ≢ MultiplesOf1 → (0 < tail_count increment) × (tail_count increment ≤ 2)
some_digits MultiplesOf1 other = absurd (other refl)
some_digits MultiplesOf2 other = (omega arith, omega arith)
some_digits MultiplesOf5 other = (omega arith, omega arith)
some_digits MultiplesOf25 other = (omega arith, omega arith)

-- less than ten to the place in front of the tail is less than half a step
pub less_than_step : (increment : RoundingIncrement) (x l q : ℕ) → x < 10 ^ l → l + 1 ≤ q + tail_count increment → 2 * x < step_of increment * 10 ^ q
less_than_step MultiplesOf1 x l q small h = go h
  where
    go : l + 1 ≤ q + 0 → 2 * x < 1 * 10 ^ q
    go h = omega (arith, ten_more l, ten_mono (l + 1) q (omega arith))
less_than_step MultiplesOf2 x l q small h = omega (arith, ten_mono l q (omega arith))
less_than_step MultiplesOf5 x l q small h = omega (arith, ten_mono l q (omega arith))
less_than_step MultiplesOf25 x l q small h = go h
  where
    go : l + 1 ≤ q + 2 → 2 * x < 25 * 10 ^ q
    go h = omega (arith, ten_more q, ten_mono l (q + 1) (omega arith))

-- ten to the count of the tail's digits is a whole number of steps
pub whole_steps : (increment : RoundingIncrement) (k base : ℕ) →
    k * 10 ^ tail_count increment * base ≡ (k * (10 ^ tail_count increment / step_of increment)) * (step_of increment * base)
whole_steps MultiplesOf1 k base = go
  where
    go : k * 1 * base ≡ (k * 1) * (1 * base)
    go = omega arith
whole_steps MultiplesOf2 k base = go
  where
    go : k * 10 * base ≡ (k * 5) * (2 * base)
    go = omega arith
whole_steps MultiplesOf5 k base = go
  where
    go : k * 10 * base ≡ (k * 2) * (5 * base)
    go = omega arith
whole_steps MultiplesOf25 k base = go
  where
    go : k * 100 * base ≡ (k * 4) * (25 * base)
    go = omega arith
