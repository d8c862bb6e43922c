-- What stands behind the last whole step of an increment, and how it compares with half a step.
use Rattle.std.proofs.Common.{◌≡◌, ◌≢◌, ◌⊎◌, inl, inr, nat_eq, refl, ℕ, suc, ◌+◌, ◌*◌, ◌^◌, ◌<◌, ◌≤◌, ◌/◌}
use Rattle.std.proofs.Common.{◌%◌, List, length, drop, arith}
use Rattle.std.proofs.Common.{ap, ◌∙◌, zero-add, true, false, not, Bool, MatchBool}
use Rattle.std.proofs.Math.Nat.{mul-le-mul_left}
use Rattle.std.proofs.Common.{Ordering, Less, Equal, Greater}
use Rattle.std.specs.Ordering.{MatchOrdering}
use Rattle.std.proofs.lemmas.Bool.Decides.{nat_tests}
use Rattle.std.proofs.lemmas.List.{length-drop}
use Rattle.std.proofs.lemmas.List.Elements.{All-drop}
use Rattle.fixed_decimal.specs.Unsigned.{AreDigits}
use Rattle.fixed_decimal.specs.Size.{weighed}
use Rattle.fixed_decimal.specs.Nearest.{IsMultiple}
use Rattle.fixed_decimal.specs.Modes.{IsTaken}
use Rattle.fixed_decimal.specs.RoundedBy.{RoundsUpBy, RoundsDownBy, IsOdd, IsEven}
use Rattle.fixed_decimal.specs.declared.modes.UnsignedRoundingMode.{UnsignedRoundingMode}
use Rattle.fixed_decimal.specs.declared.increments.RoundingIncrement.{RoundingIncrement}
use Rattle.fixed_decimal.specs.declared.increments.RoundingIncrement.TheVariants.{MultiplesOf1, MultiplesOf2, MultiplesOf5, MultiplesOf25}
use Rattle.fixed_decimal.specs.Increments.{step_of, tail_count, steps_of}
use Rattle.fixed_decimal.proofs.Weights.{weighed_lt}
use Rattle.fixed_decimal.proofs.TakenMultiples.{up_taken, down_taken}

-- more than half a step over
pub step_above : (step over base rest : ℕ) → 0 < base → step < 2 * over → step * base < 2 * (over * base + rest)
step_above step over base rest some h =
    let g : suc step ≤ 2 * over = h in
    omega (arith, mul-le-mul_left base g)

-- just half a step over
pub step_half : (step over base rest : ℕ) → 2 * over ≡ step → rest ≡ 0 → 2 * (over * base + rest) ≡ step * base
step_half step over base rest e none = rw (← e, none) (omega arith)

-- half a step over and something
pub step_half_more : (step over base rest : ℕ) → 2 * over ≡ step → 0 < rest → step * base < 2 * (over * base + rest)
step_half_more step over base rest e some = rw (← e) (omega arith)

-- so little over that any digits behind it are less than half a step
pub step_below : (step over base rest : ℕ) → rest < base → 2 * over + 1 < step → 2 * (over * base + rest) < step * base
step_below step over base rest small h =
    let g : 2 * over + 2 ≤ step = omega arith in
    omega (arith, mul-le-mul_left base g)

-- less than half a unit behind less than half a step
pub step_low : (step over base rest : ℕ) → 2 * over + 1 ≤ step → 2 * rest < base → 2 * (over * base + rest) < step * base
step_low step over base rest h small = omega (arith, mul-le-mul_left base h)

-- without digits behind, the rest is nothing
pub rest_none : (k : ℕ) (ds : List ℕ) → k ≡ length ds → AreDigits ds → 2 * weighed 0 (drop k ds) < 10 ^ length (drop k ds)
rest_none k ds e all =
    let l : length (drop k ds) ≡ 0 = omega (arith, length-drop k ds) in
    let small : weighed 0 (drop k ds) < 10 ^ length (drop k ds) =
    rw (zero-add (length (drop k ds))) at (weighed_lt 0 (drop k ds) (All-drop (λ d. d < 10) k ds all)) in
    let one : 10 ^ length (drop k ds) ≡ 1 = ap (λ n. 10 ^ n) l in
    omega arith

-- of an odd step the digits behind the middle decide
pub middle : (o : Ordering) (step over base rest : ℕ) → 2 * over + 1 ≡ step →
    MatchOrdering o (2 * rest < base) (2 * rest ≡ base) (base < 2 * rest) →
    MatchOrdering o (2 * (over * base + rest) < step * base) (2 * (over * base + rest) ≡ step * base) (step * base < 2 * (over * base + rest))
middle Less step over base rest e h = rw (← e) (omega arith)
middle Equal step over base rest e h = rw (← e) (omega arith)
middle Greater step over base rest e h = rw (← e) (omega arith)

-- digits weigh less than the next power
pub rest_lt : (k : ℕ) (ds : List ℕ) → AreDigits ds → weighed 0 (drop k ds) < 10 ^ length (drop k ds)
rest_lt k ds all = rw (zero-add (length (drop k ds))) at (weighed_lt 0 (drop k ds) (All-drop (λ d. d < 10) k ds all))

-- a head, a tail and what stands behind them, as steps and a rest
pub steps_split : (increment : RoundingIncrement) (head tail base rest : ℕ) →
    (head * 10 ^ tail_count increment + tail) * base + rest
    ≡ (head * (10 ^ tail_count increment / step_of increment) + tail / step_of increment) * (step_of increment * base)
    + ((tail % step_of increment) * base + rest)
steps_split MultiplesOf1 head tail base rest = go
  where
    go : (head * 1 + tail) * base + rest ≡ (head * 1 + tail / 1) * (1 * base) + ((tail % 1) * base + rest)
    go = let s : head * 1 + tail ≡ (head * 1 + tail / 1) * 1 + tail % 1 = omega arith in rw s (omega arith)
steps_split MultiplesOf2 head tail base rest = go
  where
    go : (head * 10 + tail) * base + rest ≡ (head * 5 + tail / 2) * (2 * base) + ((tail % 2) * base + rest)
    go = let s : head * 10 + tail ≡ (head * 5 + tail / 2) * 2 + tail % 2 = omega arith in rw s (omega arith)
steps_split MultiplesOf5 head tail base rest = go
  where
    go : (head * 10 + tail) * base + rest ≡ (head * 2 + tail / 5) * (5 * base) + ((tail % 5) * base + rest)
    go = let s : head * 10 + tail ≡ (head * 2 + tail / 5) * 5 + tail % 5 = omega arith in rw s (omega arith)
steps_split MultiplesOf25 head tail base rest = go
  where
    go : (head * 100 + tail) * base + rest ≡ (head * 4 + tail / 25) * (25 * base) + ((tail % 25) * base + rest)
    go = let s : head * 100 + tail ≡ (head * 4 + tail / 25) * 25 + tail % 25 = omega arith in rw s (omega arith)

-- with some step over, the rest is something
pub step_some : (over base rest : ℕ) → 0 < base → 0 < over → 0 < over * base + rest
step_some over base rest some h =
    let g : 1 ≤ over = h in
    omega (arith, mul-le-mul_left base g)

-- with nothing over, the digits behind decide whether the rest is something
pub step_none : (b : Bool) (over base rest : ℕ) → over ≤ 0 → MatchBool (not b) (0 < rest) (rest ≡ 0) →
    MatchBool (not b) (0 < over * base + rest) (over * base + rest ≡ 0)
step_none true over base rest none h =
    let e : over ≡ 0 = omega arith in
    rw (e, h) (omega arith)
step_none false over base rest none h = omega arith

-- steps of a head and a tail are the head and the tail's steps
pub steps_times : (increment : RoundingIncrement) (head tail base : ℕ) (k : ℕ) →
    (head * (10 ^ tail_count increment / step_of increment) + k) * (step_of increment * base) ≡
    (head * 10 ^ tail_count increment + k * step_of increment) * base
steps_times MultiplesOf1 head tail base k = go
  where
    go : (head * 1 + k) * (1 * base) ≡ (head * 1 + k * 1) * base
    go = omega arith
steps_times MultiplesOf2 head tail base k = go
  where
    go : (head * 5 + k) * (2 * base) ≡ (head * 10 + k * 2) * base
    go = omega arith
steps_times MultiplesOf5 head tail base k = go
  where
    go : (head * 2 + k) * (5 * base) ≡ (head * 10 + k * 5) * base
    go = omega arith
steps_times MultiplesOf25 head tail base k = go
  where
    go : (head * 4 + k) * (25 * base) ≡ (head * 100 + k * 25) * base
    go = omega arith

-- what is over is less than a step
pub over_small : (increment : RoundingIncrement) (tail : ℕ) → tail % step_of increment < step_of increment
over_small MultiplesOf1 tail = omega arith
over_small MultiplesOf2 tail = omega arith
over_small MultiplesOf5 tail = omega arith
over_small MultiplesOf25 tail = omega arith

-- one step more is at most the next power of ten
pub next_step : (increment : RoundingIncrement) (tail : ℕ) → tail < 10 ^ tail_count increment →
    (tail / step_of increment + 1) * step_of increment ≤ 10 ^ tail_count increment
next_step MultiplesOf1 tail h = go h
  where
    go : tail < 1 → (tail / 1 + 1) * 1 ≤ 1
    go h = omega arith
next_step MultiplesOf2 tail h = go h
  where
    go : tail < 10 → (tail / 2 + 1) * 2 ≤ 10
    go h = omega arith
next_step MultiplesOf5 tail h = go h
  where
    go : tail < 10 → (tail / 5 + 1) * 5 ≤ 10
    go h = omega arith
next_step MultiplesOf25 tail h = go h
  where
    go : tail < 100 → (tail / 25 + 1) * 25 ≤ 100
    go h = omega arith

module _ (increment : RoundingIncrement) (mode : UnsignedRoundingMode) (head tail base rest : ℕ) (small : rest < base) where
  below_unit : (tail % step_of increment) * base + rest < step_of increment * base
  below_unit =
      let g : suc (tail % step_of increment) ≤ step_of increment = over_small increment tail in
      omega (arith, mul-le-mul_left base g)

  -- without what is over, the digits are what a mode takes that rounds down
  pub steps_down : RoundsDownBy mode (step_of increment * base) (steps_of increment head (tail / step_of increment))
      ((tail % step_of increment) * base + rest) →
      IsTaken (IsMultiple (step_of increment * base)) mode (step_of increment * base) ((head * 10 ^ tail_count increment + tail) * base + rest)
      ((head * 10 ^ tail_count increment + tail / step_of increment * step_of increment) * base)
  steps_down h = rw (steps_split increment head tail base rest, ← steps_times increment head tail base (tail / step_of increment))
      (down_taken mode (step_of increment * base) (steps_of increment head (tail / step_of increment)) ((tail % step_of increment) * base + rest) below_unit h)

  -- with one step more they are what a mode takes that rounds up
  pub steps_up : RoundsUpBy mode (step_of increment * base) (steps_of increment head (tail / step_of increment)) ((tail % step_of increment) * base + rest) →
      IsTaken (IsMultiple (step_of increment * base)) mode (step_of increment * base) ((head * 10 ^ tail_count increment + tail) * base + rest)
      ((head * 10 ^ tail_count increment + (tail / step_of increment + 1) * step_of increment) * base)
  steps_up h =
      let more : (steps_of increment head (tail / step_of increment) + 1) * (step_of increment * base)
      ≡ (head * 10 ^ tail_count increment + (tail / step_of increment + 1) * step_of increment) * base =
      ap (λ n. n * (step_of increment * base)) (omega arith) ∙ steps_times increment head tail base (tail / step_of increment + 1) in
      rw (steps_split increment head tail base rest, ← more)
      (up_taken mode (step_of increment * base) (steps_of increment head (tail / step_of increment)) ((tail % step_of increment) * base + rest) below_unit h)

-- of ones and twos the parity of a number of steps is that of the head and the tail's steps together
pub parity_with_head : (increment : RoundingIncrement) (head steps : ℕ) → ((increment ≡ MultiplesOf1) ⊎ (increment ≡ MultiplesOf2)) →
    steps_of increment head steps % 2 ≡ (steps + head) % 2
parity_with_head increment head steps h = elim h [ inl e ↦ rw e one | inr e ↦ rw e two ]
  where
    one : (head * 1 + steps) % 2 ≡ (steps + head) % 2
    one = omega arith

    two : (head * 5 + steps) % 2 ≡ (steps + head) % 2
    two = omega arith

-- of fives and twenty-fives it is that of the tail's steps alone
pub parity_alone : (increment : RoundingIncrement) (head steps : ℕ) → ((increment ≡ MultiplesOf5) ⊎ (increment ≡ MultiplesOf25)) →
    steps_of increment head steps % 2 ≡ steps % 2
parity_alone increment head steps h = elim h [ inl e ↦ rw e five | inr e ↦ rw e more ]
  where
    five : (head * 2 + steps) % 2 ≡ steps % 2
    five = omega arith

    more : (head * 4 + steps) % 2 ≡ steps % 2
    more = omega arith

-- a number with the parity of the steps is odd or even as they are
pub steps_decide : (count steps : ℕ) → count % 2 ≡ steps % 2 → MatchBool (nat_eq (steps % 2) 1) (IsOdd count) (IsEven count)
steps_decide count steps same = go (nat_eq (steps % 2) 1) refl
  where
    go : (b : Bool) → nat_eq (steps % 2) 1 ≡ b → MatchBool b (IsOdd count) (IsEven count)
    go true e = let one : steps % 2 ≡ 1 = grind (arith, nat_tests) in (count / 2 + 1, omega arith)
    go false e = let none : steps % 2 ≢ 1 = grind (arith, nat_tests) in (count / 2, omega arith)

-- beside an even head the parity is that of the steps
pub even_head : (count steps head : ℕ) → count % 2 ≡ (steps + head) % 2 → IsEven head → MatchBool (nat_eq (steps % 2) 1) (IsOdd count) (IsEven count)
even_head count steps head same (j, e) = steps_decide count steps (omega arith)

-- and the other way round beside an odd one
pub odd_head : (count steps head : ℕ) → count % 2 ≡ (steps + head) % 2 → IsOdd head → MatchBool (nat_eq (steps % 2) 0) (IsOdd count) (IsEven count)
odd_head count steps head same (j, e) = go (nat_eq (steps % 2) 0) refl (omega arith)
  where
    go : (b : Bool) → nat_eq (steps % 2) 0 ≡ b → count % 2 ≡ (steps + 1) % 2 → MatchBool b (IsOdd count) (IsEven count)
    go true e other = let none : steps % 2 ≡ 0 = grind (arith, nat_tests) in (count / 2 + 1, omega arith)
    go false e other = let some : steps % 2 ≢ 0 = grind (arith, nat_tests) in (count / 2, omega arith)
