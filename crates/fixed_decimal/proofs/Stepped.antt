-- Each way that rounding by an increment goes gives a rounded decimal.
-- A number is a head, a tail (the digits that decide whether it is a multiple, as many as `tail_count`), and a rest below the
-- power (`tail_split`). What a mode makes of the tail is taken of the number (`stepped`). Digits that write this head or the next
-- one, then those of a tail, then zeros are the result (`steps_same`, `steps_longer`), so where the head stays and where it is
-- raised (`steps_kept`, `steps_raised`). Two ways stand beside: a number without digits behind the head (`steps_exact`), and one
-- that is less than half a unit (`steps_nothing`, `steps_little`).
use Rattle.std.proofs.Common.{◌≡◌, ◌≢◌, ℕ, suc, ◌+◌, ◌-◌, ◌*◌, ◌/◌, ◌%◌, ◌^◌, ◌<◌, ◌≤◌, inl, inr, List, []}
use Rattle.std.proofs.Common.{◌++◌}
use Rattle.std.proofs.Common.{length, take, drop, replicate, length-append, refl, sym, ◌∙◌, ap, arith, zero-add, add-zero, ℤ, pos, negsuc}
use Rattle.std.proofs.Common.{◌-ℤ◌, ◌≤ℤ◌}
use Rattle.std.specs.Int.{int_max}
use Rattle.std.proofs.Math.Nat.{mul-le-mul_left}
use Rattle.std.proofs.lemmas.Nat.{pow-add}
use Rattle.std.proofs.lemmas.Bool.{cases_lt}
use Rattle.std.proofs.lemmas.Int.{ints, clamps}
use Rattle.std.proofs.lemmas.List.{length-take-le, length-replicate, length-drop, drop_all}
use Rattle.std.proofs.lemmas.List.Elements.{All-take, All-append, All-replicate, All-nil}
use Rattle.fixed_decimal.specs.Unsigned.{IsUnsigned, AreDigits}
use Rattle.fixed_decimal.specs.Size.{weighed, finest, place, ten_to}
use Rattle.fixed_decimal.specs.declared.modes.UnsignedRoundingMode.{UnsignedRoundingMode}
use Rattle.fixed_decimal.specs.declared.increments.RoundingIncrement.{RoundingIncrement}
use Rattle.fixed_decimal.specs.declared.increments.RoundingIncrement.TheVariants.{MultiplesOf1}
use Rattle.fixed_decimal.specs.Nearest.{IsMultiple}
use Rattle.fixed_decimal.specs.Rounding.{scale_at, zeros_at}
use Rattle.fixed_decimal.specs.Modes.{IsTaken}
use Rattle.fixed_decimal.specs.RoundedBy.{IsRoundedSize, SizeRoundsPastLimits, RoundsUpBy, RoundsDownBy}
use Rattle.fixed_decimal.specs.Increments.{step_of, tail_count, unit_of, tail_of, tail_digits, steps_of, IsTailTaken}
use Rattle.fixed_decimal.proofs.Weights.{weighed_units, weighed-replicate_zero, weighed_lt, ten_pos}
use Rattle.fixed_decimal.proofs.Weights.{ten_more, ten_mono, same_power}
use Rattle.fixed_decimal.proofs.Taken.{allowed_taken, taken-unique}
use Rattle.fixed_decimal.proofs.TakenMultiples.{up_taken, down_taken, up_times, down_times}
use Rattle.fixed_decimal.proofs.StepWeights.{taken_most, tail_small, kept_weight, short_weight, tail_length, tail_weight, tail_below_ten}
use Rattle.fixed_decimal.proofs.StepWeights.{joined_weight, step_fits, step_large, some_digits, less_than_step, whole_steps}
use Rattle.fixed_decimal.proofs.Steps.{steps_up, steps_down, rest_lt}
use Rattle.fixed_decimal.proofs.Rounds.{carried, size_split, unit_split, result_size}
use Rattle.fixed_decimal.proofs.Rounded.{power_is, one_is_none, rounded_within, rounded_carry, rounded_exact, all_nines, at_place, len}
use Rattle.fixed_decimal.proofs.Rounded.{fine, fine', keep_is, valid_of}

-- The digits ds, of which s stand below power 0 and c do not, are rounded by an increment at the place e; s' and n determine the
-- power, whose sign decides which of them is 0.
module _ (increment : RoundingIncrement) (ds : List ℕ) (s c n s' e : ℕ) (len : s + c ≡ length ds) (fine : s ≤ finest) (fine' : s' ≤ finest)
    (at_place : e + s' ≡ finest + n) where
  module _ (head : ℕ) (keep : head + tail_count increment + n ≡ c + s') (inside : head < length ds) where
    abbrev behind : List ℕ
    behind = drop (head + tail_count increment) ds

    -- a size is a head, a tail and what the digits behind write
    tail_split : (weighed (finest - s) ds ≡ (weighed 0 (take head ds) * 10 ^ tail_count increment + tail_of increment ds head) * 10 ^ e
        + weighed 0 behind * 10 ^ (e - length behind)) × (10 ^ e ≡ 10 ^ length behind * 10 ^ (e - length behind))
    tail_split = elim (cases_lt (length ds) (head + tail_count increment)) [
      | inl short ↦
          let (more, weight) = short_weight increment ds head inside short in
          let none : behind ≡ [] = drop_all (head + tail_count increment) ds (omega arith) in
          let power : 10 ^ (finest - s) ≡ 10 * 10 ^ e = same_power (finest - s) (e + 1) (omega arith) ∙ ten_more e in
          let whole : 10 ^ (e - 0) ≡ 10 ^ e = same_power (e - 0) e (omega arith) in
          rw (none, whole) (weighed_units (finest - s) ds ∙ rw (power, weight) (omega arith), omega arith)
      | inr within ↦
          let kept = head + tail_count increment in
          let l : e - length behind ≡ finest - s = omega (arith, length-drop kept ds) in
          rw (l, ← kept_weight increment ds head within) (
            size_split ds s c kept n s' e len fine fine' at_place keep within,
            unit_split ds s c kept n s' e len fine fine' at_place keep within,
          )
    ]

    module _ (mode : UnsignedRoundingMode) (digits : AreDigits ds) where
      rest_below : weighed 0 behind * 10 ^ (e - length behind) < 10 ^ e
      rest_below =
          let small : suc (weighed 0 behind) ≤ 10 ^ length behind = rest_lt (head + tail_count increment) ds digits in
          omega (arith, tail_split.1, mul-le-mul_left (10 ^ (e - length behind)) small, ten_pos (e - length behind))

      step_same : step_of increment * 10 ^ length behind * 10 ^ (e - length behind) ≡ step_of increment * 10 ^ e
      step_same =
          let same : step_of increment * 10 ^ length behind * 10 ^ (e - length behind) ≡ step_of increment * (10 ^ length behind * 10 ^ (e - length behind)) =
          omega arith in
          same ∙ ap (λ x. step_of increment * x) (sym tail_split.1)

      over_same : (o : ℕ) →
          (o * 10 ^ length behind + weighed 0 behind) * 10 ^ (e - length behind) ≡ o * 10 ^ e + weighed 0 behind * 10 ^ (e - length behind)
      over_same o =
          let f = 10 ^ (e - length behind) in
          let same : (o * 10 ^ length behind + weighed 0 behind) * f ≡ o * (10 ^ length behind * f) + weighed 0 behind * f = omega arith in
          same ∙ ap (λ x. o * x + weighed 0 behind * f) (sym tail_split.1)

      -- the head with what becomes of the tail is taken of the number
      pub stepped : (t : ℕ) →
          IsTailTaken mode increment (weighed 0 (take head ds)) (tail_of increment ds head) (10 ^ length behind) (weighed 0 behind) t →
          IsTaken (IsMultiple (step_of increment * 10 ^ e)) mode (step_of increment * 10 ^ e) (weighed (finest - s) ds)
          ((weighed 0 (take head ds) * 10 ^ tail_count increment + t) * 10 ^ e)
      stepped t (inl (decided, is)) =
          let h = weighed 0 (take head ds) in
          let tail = tail_of increment ds head in
          let f = 10 ^ (e - length behind) in
          let times = up_times mode (step_of increment * 10 ^ length behind) (steps_of increment h (tail / step_of increment))
          ((tail % step_of increment) * 10 ^ length behind + weighed 0 behind) f (ten_pos (e - length behind)) decided in
          rw (is, tail_split.0) (steps_up increment mode h tail (10 ^ e) (weighed 0 behind * f) rest_below
          (rw (step_same, over_same (tail % step_of increment)) at times))
      stepped t (inr (decided, is)) =
          let h = weighed 0 (take head ds) in
          let tail = tail_of increment ds head in
          let f = 10 ^ (e - length behind) in
          let times = down_times mode (step_of increment * 10 ^ length behind) (steps_of increment h (tail / step_of increment))
          ((tail % step_of increment) * 10 ^ length behind + weighed 0 behind) f (ten_pos (e - length behind)) decided in
          rw (is, tail_split.0) (steps_down increment mode h tail (10 ^ e) (weighed 0 behind * f) rest_below
          (rw (step_same, over_same (tail % step_of increment)) at times))

module _ (mode : UnsignedRoundingMode) (increment : RoundingIncrement) (ds : List ℕ) (s : ℕ) (p : ℤ) (is : IsUnsigned (record { digits = ds; scale = s }))
    (in_range : negsuc 32767 ≤ℤ p) (below : p ≤ℤ pos 32767) where
  -- these digits, with the scale that the power gives, are a decimal, and the one that is rounded
  abbrev pub GivesBy : List ℕ → Type 0
  GivesBy ys = IsUnsigned (record { digits = ys; scale = scale_at p })
      × IsRoundedSize mode (unit_of increment p) (record { digits = ds; scale = s }) p (record { digits = ys; scale = scale_at p })

  weight_is : (front : List ℕ) → weighed (finest - scale_at p) (front ++ replicate (zeros_at p) 0) ≡ weighed 0 front * 10 ^ place p
  weight_is front = rw (zero-add (zeros_at p)) at (result_size ds s (length ds - s) 0 (zeros_at p) (scale_at p) (place p)
      (len mode ds s p is in_range below) (fine mode ds s p is in_range below) (fine' mode ds s p is in_range below)
      (at_place mode ds s p is in_range below) 0 front)

  module _ (head : ℕ) (counted : pos (head + tail_count increment) ≡ pos (length ds - s) -ℤ p) (inside : head < length ds) (t : ℕ)
      (tail : IsTailTaken mode increment (weighed 0 (take head ds)) (tail_of increment ds head) (10 ^ length (drop (head + tail_count increment) ds))
      (weighed 0 (drop (head + tail_count increment) ds)) t) where
    keep : head + tail_count increment + zeros_at p ≡ (length ds - s) + scale_at p
    keep = keep_is mode ds s p is in_range below (head + tail_count increment) counted

    taken_tail : IsTaken (IsMultiple (unit_of increment p)) mode (unit_of increment p) (weighed (finest - s) ds)
        ((weighed 0 (take head ds) * 10 ^ tail_count increment + t) * 10 ^ place p)
    taken_tail = stepped increment ds s (length ds - s) (zeros_at p) (scale_at p) (place p) (len mode ds s p is in_range below)
        (fine mode ds s p is in_range below)
        (fine' mode ds s p is in_range below) (at_place mode ds s p is in_range below) head keep inside mode is.below_ten t tail

    -- a tail that isn't less is ten to the count of its digits
    carry_is : 10 ^ tail_count increment ≤ t → t ≡ 10 ^ tail_count increment
    carry_is more =
        let most : t ≤ 10 ^ tail_count increment = taken_most mode increment _ _ _ _ t (tail_small increment ds head is.below_ten) tail in
        omega arith

    -- ten to the place above the first digit, as a head and a tail
    top : 10 ^ (finest + (length ds - s)) ≡ 10 ^ head * (10 ^ tail_count increment * 10 ^ place p)
    top = same_power (finest + (length ds - s)) (head + (tail_count increment + place p)) (omega (arith, keep, at_place mode ds s p is in_range below))
        ∙ (pow-add 10 head (tail_count increment + place p) ∙ ap (λ x. 10 ^ head * x) (pow-add 10 (tail_count increment) (place p)))

    -- after nothing but nines the next head reaches the next power
    nines_reach : take head ds ≡ replicate head 9 → 10 ^ head ≤ weighed 0 (take head ds) + 1
    nines_reach nines = omega (arith, carried ds head nines, ap (λ n. 10 ^ n) (add-zero head))

    -- where the head turns into the next one and has no room, the number is past the limits
    pub steps_past : 10 ^ tail_count increment ≤ t → take head ds ≡ replicate head 9 → length ds - s ≡ 32768 →
        SizeRoundsPastLimits mode (unit_of increment p) (record { digits = ds; scale = s })
    steps_past more nines full =
        let carry = carry_is more in
        let reached : 10 ^ head ≤ weighed 0 (take head ds) + 1 = nines_reach nines in
        let u = 10 ^ tail_count increment * 10 ^ place p in
        let y : (weighed 0 (take head ds) * 10 ^ tail_count increment + t) * 10 ^ place p ≡ (weighed 0 (take head ds) + 1) * u = rw carry (omega arith) in (
          (weighed 0 (take head ds) * 10 ^ tail_count increment + t) * 10 ^ place p,
          taken_tail,
          rw (y, ← full) (rw top (omega (arith, mul-le-mul_left u reached))),
        )

    module _ (hs : List ℕ) (k r : ℕ) (digits : AreDigits hs) (small : r < 10 ^ tail_count increment)
        (same : weighed k hs * 10 ^ tail_count increment + r ≡ weighed 0 (take head ds) * 10 ^ tail_count increment + t) where
      abbrev front : List ℕ
      front = (hs ++ replicate k 0) ++ tail_digits increment r

      front_length : length front ≡ length hs + k + tail_count increment
      front_length = omega (
        arith,
        length-append (hs ++ replicate k 0) (tail_digits increment r),
        length-append hs (replicate k 0),
        length-replicate {A = ℕ} k 0,
        tail_length increment r,
      )

      total : length (front ++ replicate (zeros_at p) 0) ≡ length hs + k + tail_count increment + zeros_at p
      total = omega (arith, front_length, length-append front (replicate (zeros_at p) 0), length-replicate {A = ℕ} (zeros_at p) 0)

      front_digits : AreDigits front
      front_digits = All-append (λ d. d < 10) (hs ++ replicate k 0) (tail_digits increment r)
          (All-append (λ d. d < 10) hs (replicate k 0) digits (All-replicate (λ d. d < 10) k 0 (omega arith))) (tail_below_ten increment r small)

      weight : weighed (finest - scale_at p) (front ++ replicate (zeros_at p) 0)
          ≡ (weighed 0 (take head ds) * 10 ^ tail_count increment + t) * 10 ^ place p
      weight = weight_is front ∙ ap (λ x. x * 10 ^ place p) (joined_weight increment hs k r small ∙ same)

      taken_front : IsTaken (IsMultiple (unit_of increment p)) mode (unit_of increment p) (weighed (finest - s) ds)
          (weighed (finest - scale_at p) (front ++ replicate (zeros_at p) 0))
      taken_front = rw weight taken_tail

      -- a head of as many digits
      pub steps_same : length hs + k ≡ head → GivesBy (((hs ++ replicate k 0) ++ tail_digits increment r) ++ replicate (zeros_at p) 0)
      steps_same l =
          let keep = keep in
          let total = total in
          let front_length = front_length in
          let valid = valid_of mode ds s p is in_range below front (zeros_at p) front_digits (omega (arith, is.integer_some)) (omega
          (arith, is.high_limit)) in (
            valid,
            rounded_within mode (unit_of increment p) (record { digits = ds; scale = s }) (record {
              digits = front ++ replicate (zeros_at p) 0;
              scale =
                  scale_at p;
            })
                p is valid refl (omega (arith, ints, clamps, power_is p, is.integer_some)) taken_front,
          )

      -- a head of one digit more
      pub steps_longer : length hs + k ≡ head + 1 → 10 ^ head ≤ weighed k hs → length ds - s < 32768 →
          GivesBy (((hs ++ replicate k 0) ++ tail_digits increment r) ++ replicate (zeros_at p) 0)
      steps_longer l reached room =
          let keep = keep in
          let total = total in
          let front_length = front_length in
          let u = 10 ^ tail_count increment * 10 ^ place p in
          let size_is : weighed (finest - scale_at p) (front ++ replicate (zeros_at p) 0) ≡ weighed k hs * u + r * 10 ^ place p =
          weight ∙ (ap (λ x. x * 10 ^ place p) (sym same) ∙ omega arith) in
          let high : 10 ^ (finest + (length ds - s)) ≤ weighed (finest - scale_at p) (front ++ replicate (zeros_at p) 0) =
          rw (size_is, top) (omega (arith, mul-le-mul_left u reached)) in
          let valid = valid_of mode ds s p is in_range below front (zeros_at p) front_digits (omega (arith, is.integer_some)) (omega arith) in (
            valid,
            rounded_carry mode (unit_of increment p) (record { digits = ds; scale = s }) (record {
              digits = front ++ replicate (zeros_at p) 0;
              scale =
                  scale_at p;
            })
                p (length ds - s) is valid refl (omega (arith, is.integer_some)) (omega (arith, ints)) (omega (arith, ints, power_is p)) high taken_front,
          )

    -- where the tail stays below ten to the count of its digits, the head stays
    pub steps_kept : t < 10 ^ tail_count increment → GivesBy (((take head ds ++ []) ++ tail_digits increment t) ++ replicate (zeros_at p) 0)
    steps_kept small = steps_same (take head ds) 0 t (All-take (λ d. d < 10) head ds is.below_ten) small refl
        (omega (arith, length-take-le head ds (omega arith)))

    -- else the next head is written, which has one digit more after nothing but nines
    pub steps_raised : 10 ^ tail_count increment ≤ t → (left : ℕ) → take head ds ≡ take left ds ++ replicate (head - left) 9 →
        (hs : List ℕ) (k : ℕ) → AreDigits hs → weighed k hs ≡ weighed 0 (take head ds) + 1 →
        (0 < left → length hs + k ≡ head) → (left ≡ 0 → length hs + k ≡ head + 1) →
        (left ≡ 0 → length ds - s < 32768) → GivesBy (((hs ++ replicate k 0) ++ tail_digits increment 0) ++ replicate (zeros_at p) 0)
    steps_raised more left nines hs k digits one_more as_long longer room =
        let carry = carry_is more in
        let same : weighed k hs * 10 ^ tail_count increment + 0 ≡ weighed 0 (take head ds) * 10 ^ tail_count increment + t =
        rw (one_more, carry) (omega arith) in
        elim (cases_lt 0 left) [
          | inl some ↦ steps_same hs k 0 digits (ten_pos (tail_count increment)) same (as_long some)
          | inr none ↦
              let e : left ≡ 0 = omega arith in
              let reached : 10 ^ head ≤ weighed k hs = rw one_more (nines_reach (all_nines ds head left none nines)) in
              steps_longer hs k 0 digits (ten_pos (tail_count increment)) same (longer e) reached (room e)
        ]

  -- a number without digits behind the head
  pub steps_exact : (kept : ℕ) → pos kept ≡ pos (length ds - s) -ℤ p → length ds + tail_count increment ≤ kept →
      GivesBy (ds ++ replicate (kept - length ds) 0)
  steps_exact kept counted all =
      let (valid, r) = rounded_exact mode ds s p is in_range below kept counted (omega arith) in
      let keep = keep_is mode ds s p is in_range below kept counted in
      let none : zeros_at p ≡ 0 = omega (arith, one_is_none p, is.integer_some) in
      let w = tail_count increment in
      let finer = finest - s - place p - w in
      let k = weighed 0 ds * 10 ^ finer in
      let power : 10 ^ (finest - s) ≡ 10 ^ finer * (10 ^ w * 10 ^ place p) =
      same_power (finest - s) (finer + (w + place p)) (omega (arith, at_place mode ds s p is in_range below, is.integer_some))
      ∙ (pow-add 10 finer (w + place p) ∙ ap (λ x. 10 ^ finer * x) (pow-add 10 w (place p))) in
      let x : weighed (finest - s) ds ≡ k * 10 ^ w * 10 ^ place p = weighed_units (finest - s) ds ∙ rw power (omega arith) in
      let same : weighed (finest - scale_at p) (ds ++ replicate (kept - length ds) 0) ≡ weighed (finest - s) ds =
      taken-unique (IsMultiple (ten_to p)) mode (ten_to p) (weighed (finest - s) ds) _ (weighed (finest - s) ds) r.taken
      (allowed_taken (IsMultiple (ten_to p)) mode (ten_to p) (weighed (finest - s) ds) (k * 10 ^ w, x)) in (
        valid,
        record {
          taken = rw same (allowed_taken (IsMultiple (unit_of increment p)) mode (unit_of increment p) (weighed (finest - s) ds)
              (k * (10 ^ w / step_of increment), x ∙ whole_steps increment k (10 ^ place p)));
          low_is = r.low_is;
          high_is = r.high_is;
        },
      )

  -- the head would end in front of the first digit
  module _ (little : ((pos (length ds - s) -ℤ p) -ℤ pos (tail_count increment)) ≤ℤ negsuc 0) (other : increment ≢ MultiplesOf1) where
    no_scale : scale_at p ≡ 0
    no_scale = omega (arith, ints, power_is p, one_is_none p, is.integer_some, some_digits increment other)

    above : (length ds - s) < zeros_at p + tail_count increment
    above = omega (arith, ints, power_is p, no_scale)

    zeros_few : zeros_at p ≤ 32767
    zeros_few = omega (arith, ints, power_is p, no_scale)

    unit_is : unit_of increment p ≡ step_of increment * 10 ^ (zeros_at p + s) * 10 ^ (finest - s)
    unit_is =
        let power : 10 ^ place p ≡ 10 ^ (zeros_at p + s) * 10 ^ (finest - s) =
        same_power (place p) (zeros_at p + s + (finest - s)) (omega
        (arith, at_place mode ds s p is in_range below, no_scale, fine mode ds s p is in_range below))
        ∙ pow-add 10 (zeros_at p + s) (finest - s) in
        ap (λ x. step_of increment * x) power ∙ omega arith

    half : 2 * weighed 0 ds < step_of increment * 10 ^ (zeros_at p + s)
    half = less_than_step increment (weighed 0 ds) (length ds) (zeros_at p + s) (rw (zero-add (length ds)) at (weighed_lt 0 ds is.below_ten))
        (omega (arith, above, is.integer_some))

    rest_small : weighed 0 ds * 10 ^ (finest - s) < step_of increment * 10 ^ (zeros_at p + s) * 10 ^ (finest - s)
    rest_small =
        let small : suc (weighed 0 ds) ≤ step_of increment * 10 ^ (zeros_at p + s) = omega (arith, half) in
        omega (arith, mul-le-mul_left (10 ^ (finest - s)) small, ten_pos (finest - s))

    -- the result is zero
    pub steps_nothing : (m : ℕ) → pos m ≡ int_max (pos (length ds - s)) p →
        ((unit : ℕ) → 2 * weighed 0 ds < unit → RoundsDownBy mode unit 0 (weighed 0 ds)) →
        GivesBy (replicate m 0)
    steps_nothing m most decided =
        let u = step_of increment * 10 ^ (zeros_at p + s) in
        let f = 10 ^ (finest - s) in
        let l : length {A = ℕ} (replicate m 0) ≡ m = length-replicate {A = ℕ} m 0 in
        let none = no_scale in
        let valid = valid_of mode ds s p is in_range below [] m (All-nil (λ d. d < 10)) (omega (arith, ints, clamps, is.integer_some))
        (omega (arith, ints, clamps, is.high_limit)) in
        let e1 : 0 * (u * f) + weighed 0 ds * f ≡ weighed 0 ds * f = omega arith in
        let e2 : 0 * (u * f) ≡ 0 = omega arith in
        let t = down_taken mode (u * f) 0 (weighed 0 ds * f) rest_small (down_times mode u 0 (weighed 0 ds) f (ten_pos (finest - s)) (decided u half)) in (
          valid,
          rounded_within mode (unit_of increment p) (record { digits = ds; scale = s }) (record { digits = replicate m 0; scale = scale_at p }) p is valid refl
              (omega (arith, ints, clamps))
              (rw (weighed-replicate_zero (finest - scale_at p) m, weighed_units (finest - s) ds, unit_is) (rw (e1, e2) at t)),
        )

    module _ (decided : (unit : ℕ) → 2 * weighed 0 ds < unit → RoundsUpBy mode unit 0 (weighed 0 ds)) where
      taken_unit : IsTaken (IsMultiple (unit_of increment p)) mode (unit_of increment p) (weighed (finest - s) ds) (unit_of increment p)
      taken_unit =
          let u = step_of increment * 10 ^ (zeros_at p + s) in
          let f = 10 ^ (finest - s) in
          let e1 : 0 * (u * f) + weighed 0 ds * f ≡ weighed 0 ds * f = omega arith in
          let e2 : (0 + 1) * (u * f) ≡ u * f = omega arith in
          let t = up_taken mode (u * f) 0 (weighed 0 ds * f) rest_small (up_times mode u 0 (weighed 0 ds) f (ten_pos (finest - s)) (decided u half)) in
          rw (weighed_units (finest - s) ds, unit_is) (rw (e1, e2) at t)

      top_of_unit : 10 ^ (finest + (zeros_at p + tail_count increment - 1)) ≤ unit_of increment p
      top_of_unit =
          let w = tail_count increment in
          let below_top = finest + (zeros_at p + w - 1) in
          let some = some_digits increment other in
          let split : 10 ^ (below_top + 1) ≡ 10 ^ w * 10 ^ place p =
          same_power (below_top + 1) (w + place p) (omega (arith, some, at_place mode ds s p is in_range below, no_scale)) ∙ pow-add 10 w (place p) in
          omega (arith, split, ten_more below_top, mul-le-mul_left (10 ^ place p) (step_large increment))

      -- the result is one unit
      pub steps_little : zeros_at p + tail_count increment ≤ 32768 → GivesBy (tail_digits increment (step_of increment) ++ replicate (zeros_at p) 0)
      steps_little room =
          let t = tail_digits increment (step_of increment) in
          let n = zeros_at p in
          let small = step_fits increment other in
          let some = some_digits increment other in
          let none = no_scale in
          let above = above in
          let l : length (t ++ replicate n 0) ≡ tail_count increment + n =
          omega (arith, length-append t (replicate n 0), length-replicate {A = ℕ} n 0, tail_length increment (step_of increment)) in
          let l' : length t ≡ tail_count increment = tail_length increment (step_of increment) in
          let y : weighed (finest - scale_at p) (t ++ replicate n 0) ≡ unit_of increment p =
          weight_is t ∙ ap (λ x. x * 10 ^ place p) (tail_weight increment (step_of increment) small) in
          let valid = valid_of mode ds s p is in_range below t n (tail_below_ten increment (step_of increment) small) (omega arith) (omega arith) in (
            valid,
            rounded_carry mode (unit_of increment p) (record { digits = ds; scale = s }) (record { digits = t ++ replicate n 0; scale = scale_at p }) p
                (n + tail_count increment - 1) is valid refl (omega arith) (omega (arith, ints)) (omega (arith, ints, power_is p)) (rw y top_of_unit)
                (rw y taken_unit),
          )

      -- or past the limits
      pub little_past : 32768 < zeros_at p + tail_count increment → SizeRoundsPastLimits mode (unit_of increment p) (record { digits = ds; scale = s })
      little_past over = (
        unit_of increment p,
        taken_unit,
        omega (arith, top_of_unit, ten_mono (finest + 32768) (finest + (zeros_at p + tail_count increment - 1)) (omega arith)),
      )
