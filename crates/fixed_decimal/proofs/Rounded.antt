-- Each way that rounding goes gives a rounded decimal.
-- The ways are those of `round_digits`: no digit is kept, every digit is kept, the rest is cut off, a digit is raised, or a
-- carry through nothing but nines makes one digit more. That the result is taken is cited from proofs/Rounds (`nothing`,
-- `one_unit`, `exact`, `down`, `up`); here it is shown to be a decimal (`valid_of`) with the range that `IsRounded` asks for. Its highest
-- power depends on the magnitude of the result: the digits before the point bound it (`rounded_within`), and after a carry
-- it reaches the first of them (`rounded_carry`). A power is taken as zeros_at less scale_at, of which one is 0 (`power_is`,
-- `one_is_none`), so that `omega` needs no case for its sign; `finest` stays folded, with `finest_large` for its bound.
use Rattle.std.proofs.Common.{◌≡◌, ◌≢◌, ℕ, suc, zero, ◌+◌, ◌-◌, ◌*◌, ◌^◌, ◌<◌, ◌≤◌, ◌⊎◌, inl, inr, List, []}
use Rattle.std.proofs.Common.{◌∷◌}
use Rattle.std.proofs.Common.{◌++◌, length, take, drop, get_or, replicate, length-append, refl, ◌∙◌, ap, arith, ℤ, pos, negsuc, ◌-ℤ◌}
use Rattle.std.proofs.Common.{◌≤ℤ◌}
use Rattle.std.specs.Int.{int_min, int_max}
use Rattle.std.proofs.lemmas.Int.{ints, clamps}
use Rattle.std.proofs.lemmas.List.{length-replicate, length-take-le}
use Rattle.std.proofs.lemmas.List.Elements.{All-append, All-take, All-push, All-get_or, All-drop, All-replicate, All-cons, All-nil}
use Rattle.fixed_decimal.specs.Unsigned.{Unsigned, IsUnsigned, AreDigits, integer_count}
use Rattle.fixed_decimal.specs.Size.{weighed, finest, place, ten_to, magnitude, size}
use Rattle.fixed_decimal.specs.declared.modes.UnsignedRoundingMode.{UnsignedRoundingMode}
use Rattle.fixed_decimal.specs.declared.modes.UnsignedRoundingMode.TheVariants.{HalfEven}
use Rattle.fixed_decimal.specs.Nearest.{IsMultiple}
use Rattle.fixed_decimal.specs.Rounding.{IsRounded, RoundsPastLimits, scale_at, zeros_at}
use Rattle.fixed_decimal.specs.Modes.{IsTaken}
use Rattle.fixed_decimal.specs.RoundedBy.{IsRoundedSize, SizeRoundsPastLimits, RoundsUpBy, RoundsDownBy}
use Rattle.fixed_decimal.proofs.Weights.{same_power, ten_pos, ten_mono}
use Rattle.fixed_decimal.proofs.Taken.{taken-unique}
use Rattle.fixed_decimal.proofs.TakenMultiples.{half_even-nearest, nearest-half_even}
use Rattle.fixed_decimal.proofs.Rounds.{finest_large, down, up, exact, nothing, one_unit, raised, carried}
use Rattle.fixed_decimal.proofs.Magnitudes.{place_is, magnitude_has, magnitude_ge, magnitude_le-high, size_lt}

-- a power is its zeros less its scale
pub power_is : (p : ℤ) → pos (zeros_at p) -ℤ pos (scale_at p) ≡ p
power_is (pos n) = omega (arith, ints)
power_is (negsuc n) = omega (arith, ints)

-- a power has no zeros or no scale
pub one_is_none : (p : ℤ) → (zeros_at p ≡ 0) ⊎ (scale_at p ≡ 0)
one_is_none (pos n) = inr refl
one_is_none (negsuc n) = inl refl

-- the lowest power of a decimal rounded at p is the lower of p and 0
low_scale : (p : ℤ) → pos 0 -ℤ pos (scale_at p) ≡ int_min p (pos 0)
low_scale (pos n) = omega (arith, ints, clamps)
low_scale (negsuc n) = omega (arith, ints, clamps)

module _ (mode : UnsignedRoundingMode) (unit : ℕ) where
  -- y is taken of d, as a multiple of the unit
  abbrev pub IsTakenOf : Unsigned → Unsigned → Type 0
  IsTakenOf d y = IsTaken (IsMultiple unit) mode unit (size d) (size y)

  -- the result is rounded where it has as many digits before the point as d, or as many as the power where that is more
  pub rounded_within : (d y : Unsigned) (p : ℤ) → IsUnsigned d → IsUnsigned y → y.scale ≡ scale_at p →
      pos (integer_count y) ≡ int_max (pos (integer_count d)) p → IsTakenOf d y → IsRoundedSize mode unit d p y
  rounded_within d y p isd isy s c t = record {
    taken = t;
    low_is = rw s (low_scale p);
    high_is = omega (arith, ints, clamps, magnitude_le-high y (magnitude (size y)) isy (magnitude_has (size y)));
  }

  -- the result is rounded where no fewer of its digits stand before the point than of d and of the power, and it reaches the first of them
  pub rounded_carry : (d y : Unsigned) (p : ℤ) (n : ℕ) → IsUnsigned d → IsUnsigned y → y.scale ≡ scale_at p → integer_count y ≡ n + 1 →
      pos (integer_count d) ≤ℤ pos (n + 1) → p ≤ℤ pos (n + 1) → 10 ^ (finest + n) ≤ size y → IsTakenOf d y → IsRoundedSize mode unit d p y
  rounded_carry d y p n isd isy s c many top reached t = record {
    taken = t;
    low_is = rw s (low_scale p);
    high_is = omega (
      arith,
      ints,
      clamps,
      magnitude_le-high y (magnitude (size y)) isy (magnitude_has (size y)),
      magnitude_ge (size y) (magnitude (size y)) n reached (magnitude_has (size y)),
    );
  }

  -- a decimal that is rounded is within the limits
  pub not_past_by : (d y : Unsigned) (p : ℤ) → IsUnsigned y → IsRoundedSize mode unit d p y → ¬ (SizeRoundsPastLimits mode unit d)
  not_past_by d y p is r (z, t, past) =
      let same : size y ≡ z = taken-unique (IsMultiple unit) mode unit (size d) (size y) z r.taken t in
      let few : integer_count y ≤ 32768 = omega (arith, is.high_limit) in
      omega (arith, size_lt y is, ten_mono (finest + integer_count y) (finest + 32768) (omega arith))

-- what is rounded by the mode half to even is rounded half to even
pub half_even_rounded : (d y : Unsigned) (p : ℤ) → IsRoundedSize HalfEven (ten_to p) d p y → IsRounded d p y
half_even_rounded d y p r = record {
  nearest = half_even-nearest (ten_to p) (size d) (size y) (ten_pos (place p)) r.taken;
  low_is = r.low_is;
  high_is = r.high_is;
}

-- and what is past the limits by one is by the other
pub half_even_past : (d : Unsigned) (p : ℤ) → SizeRoundsPastLimits HalfEven (ten_to p) d → RoundsPastLimits d p
half_even_past d p (z, t, past) = (z, half_even-nearest (ten_to p) (size d) z (ten_pos (place p)) t, past)

pub past_half_even : (d : Unsigned) (p : ℤ) → RoundsPastLimits d p → SizeRoundsPastLimits HalfEven (ten_to p) d
past_half_even d p (z, t, past) = (z, nearest-half_even (ten_to p) (size d) z (ten_pos (place p)) t, past)

-- a decimal that is rounded half to even is within the limits
pub not_past : (d y : Unsigned) (p : ℤ) → IsUnsigned y → IsRoundedSize HalfEven (ten_to p) d p y → ¬ (RoundsPastLimits d p)
not_past d y p is r past = not_past_by HalfEven (ten_to p) d y p is r (past_half_even d p past)

module _ (mode : UnsignedRoundingMode) (ds : List ℕ) (s : ℕ) (p : ℤ) (is : IsUnsigned (record { digits = ds; scale = s }))
    (in_range : negsuc 32767 ≤ℤ p) (below : p ≤ℤ pos 32767) where
  -- a decimal that is rounded has no more digits below power 0 than a decimal may
  pub scale_small : scale_at p ≤ 32768
  scale_small = omega (arith, ints, power_is p, one_is_none p)

  -- the place of a power by its zeros and its scale
  pub at_place : place p + scale_at p ≡ finest + zeros_at p
  at_place = place_is p (zeros_at p) (scale_at p) (omega (arith, finest_large, scale_small)) (power_is p)

  -- the digits are those below power 0 and those above
  pub len : s + (length ds - s) ≡ length ds
  len = omega (arith, is.integer_some)

  -- no digit stands below the unit of sizes, neither before nor after
  pub fine : s ≤ finest
  fine = omega (arith, finest_large, is.low_limit)

  pub fine' : scale_at p ≤ finest
  fine' = omega (arith, finest_large, scale_small)

  -- these digits, with the scale that the power gives, are a decimal, and the one that is rounded
  abbrev pub Gives : List ℕ → Type 0
  Gives ys = IsUnsigned (record { digits = ys; scale = scale_at p })
      × IsRoundedSize mode (ten_to p) (record { digits = ds; scale = s }) p (record { digits = ys; scale = scale_at p })

  -- how many digits are kept, and the zeros behind them
  pub keep_is : (kept : ℕ) → pos kept ≡ pos (length ds - s) -ℤ p → kept + zeros_at p ≡ (length ds - s) + scale_at p
  keep_is kept e = omega (arith, ints, power_is p)

  -- digits and zeros that give a decimal
  pub valid_of : (hs : List ℕ) (k : ℕ) → AreDigits hs → scale_at p < length hs + k → length hs + k ≤ scale_at p + 32768 →
      IsUnsigned (record { digits = hs ++ replicate k 0; scale = scale_at p })
  valid_of hs k digits some few =
      let l : length (hs ++ replicate k 0) ≡ length hs + k = omega (arith, length-append hs (replicate k 0), length-replicate {A = ℕ} k 0) in
      record {
        below_ten = All-append (λ d. d < 10) hs (replicate k 0) digits (All-replicate (λ d. d < 10) k 0 (omega arith));
        integer_some = omega arith;
        high_limit = omega arith;
        low_limit = scale_small;
      }

  -- a power that is more than one above that of the first digit
  module _ (above : (pos (length ds - s) -ℤ p) ≤ℤ negsuc 0) where
    more : (length ds - s) + scale_at p < zeros_at p
    more = omega (arith, ints, power_is p, one_is_none p)

    few : zeros_at p ≤ 32767
    few = omega (arith, ints, power_is p, one_is_none p)

    pub rounded_nothing : ((unit : ℕ) → 2 * weighed 0 ds < unit → RoundsDownBy mode unit 0 (weighed 0 ds)) → Gives (replicate (zeros_at p) 0)
    rounded_nothing decided =
        let n = zeros_at p in
        let l : length {A = ℕ} (replicate n 0) ≡ n = length-replicate {A = ℕ} n 0 in
        let more = more in
        let few = few in
        let valid = valid_of [] n (All-nil (λ d. d < 10)) (omega arith) (omega arith) in (
          valid,
          rounded_within mode (ten_to p) (record { digits = ds; scale = s }) (record { digits = replicate n 0; scale = scale_at p }) p is valid refl
              (omega (arith, ints, clamps, power_is p, one_is_none p))
              (nothing ds s (length ds - s) 0 n (scale_at p) (place p) len fine fine' at_place mode is.below_ten more decided),
        )

    pub rounded_one_unit : ((unit : ℕ) → 2 * weighed 0 ds < unit → RoundsUpBy mode unit 0 (weighed 0 ds)) → Gives (1 ∷ replicate (zeros_at p) 0)
    rounded_one_unit decided =
        let n = zeros_at p in
        let l : length {A = ℕ} (replicate n 0) ≡ n = length-replicate {A = ℕ} n 0 in
        let l' : length {A = ℕ} (1 ∷ replicate n 0) ≡ n + 1 = omega arith in
        let more = more in
        let few = few in
        let none : scale_at p ≡ 0 = omega (arith, one_is_none p) in
        let valid = valid_of (1 ∷ []) n (All-cons (λ d. d < 10) 1 [] (omega arith) (All-nil (λ d. d < 10))) (omega arith) (omega arith) in
        let power : finest - scale_at p + length {A = ℕ} (replicate n 0) ≡ finest + n = omega arith in
        let reached : 10 ^ (finest + n) ≤ weighed (finest - scale_at p) (1 ∷ replicate n 0) =
        omega (arith, same_power (finest - scale_at p + length {A = ℕ} (replicate n 0)) (finest + n) power) in (
          valid,
          rounded_carry mode (ten_to p) (record { digits = ds; scale = s }) (record { digits = 1 ∷ replicate n 0; scale = scale_at p }) p n is valid refl
              (omega arith) (omega (arith, ints, power_is p)) (omega (arith, ints, power_is p)) reached
              (one_unit ds s (length ds - s) 0 n (scale_at p) (place p) len fine fine' at_place mode is.below_ten more decided),
        )

  pub rounded_exact : (kept : ℕ) → pos kept ≡ pos (length ds - s) -ℤ p → length ds ≤ kept → Gives (ds ++ replicate (kept - length ds) 0)
  rounded_exact kept e all =
      let keep = keep_is kept e in
      let l : length (ds ++ replicate (kept - length ds) 0) ≡ kept =
      omega (arith, length-append ds (replicate (kept - length ds) 0), length-replicate {A = ℕ} (kept - length ds) 0) in
      let none : zeros_at p ≡ 0 = omega (arith, one_is_none p, is.integer_some) in
      let same : scale_at p - s ≡ kept - length ds = omega (arith, is.integer_some) in
      let valid = valid_of ds (kept - length ds) is.below_ten (omega (arith, is.integer_some)) (omega (arith, is.high_limit)) in (
        valid,
        rounded_within mode (ten_to p) (record { digits = ds; scale = s }) (record {
          digits = ds ++ replicate (kept - length ds) 0;
          scale =
              scale_at p;
        }) p is valid refl
            (omega (arith, ints, clamps, power_is p, is.integer_some))
            (rw same at (exact ds s (length ds - s) kept (zeros_at p) (scale_at p) (place p) len fine fine' at_place mode (omega (arith, is.integer_some)))),
      )

  module _ (kept : ℕ) (e : pos kept ≡ pos (length ds - s) -ℤ p) (within : kept ≤ length ds) where
    pub rounded_down : RoundsDownBy mode (10 ^ length (drop kept ds)) (weighed 0 (take kept ds)) (weighed 0 (drop kept ds)) →
        Gives (take kept ds ++ replicate (zeros_at p) 0)
    rounded_down half =
        let keep = keep_is kept e in
        let n = zeros_at p in
        let l : length (take kept ds) ≡ kept = length-take-le kept ds within in
        let l' : length (take kept ds ++ replicate n 0) ≡ kept + n =
        omega (arith, length-append (take kept ds) (replicate n 0), length-replicate {A = ℕ} n 0) in
        let valid = valid_of (take kept ds) n
        (All-take (λ d. d < 10) kept ds is.below_ten) (omega (arith, is.integer_some)) (omega (arith, is.high_limit)) in (
          valid,
          rounded_within mode (ten_to p) (record { digits = ds; scale = s }) (record { digits = take kept ds ++ replicate n 0; scale = scale_at p })
              p is valid refl
              (omega (arith, ints, clamps, power_is p, is.integer_some))
              (down ds s (length ds - s) kept n (scale_at p) (place p) len fine fine' at_place mode
              (All-drop (λ d. d < 10) kept ds is.below_ten) keep within half),
        )

    module _ (half : RoundsUpBy mode (10 ^ length (drop kept ds)) (weighed 0 (take kept ds)) (weighed 0 (drop kept ds))) where
      taken_up : (k : ℕ) (hs : List ℕ) → weighed k hs ≡ weighed 0 (take kept ds) + 1 →
          IsTaken (IsMultiple (ten_to p)) mode (ten_to p) (weighed (finest - s) ds) (weighed (finest - scale_at p) (hs ++ replicate (k + zeros_at p) 0))
      taken_up k hs one_more = up ds s (length ds - s) kept (zeros_at p) (scale_at p) (place p) len fine fine' at_place mode
          (All-drop (λ d. d < 10) kept ds is.below_ten) (keep_is kept e) within half k hs one_more

      pub rounded_raised : (left : ℕ) → 0 < left → left ≤ kept → take kept ds ≡ take left ds ++ replicate (kept - left) 9 →
          get_or ds (left - 1) 0 ≢ 9 → Gives ((take (left - 1) ds ++ (get_or ds (left - 1) 0 + 1) ∷ []) ++ replicate (kept - left + zeros_at p) 0)
      rounded_raised left some le nines not_nine =
          let keep = keep_is kept e in
          let n = zeros_at p in
          let x = get_or ds (left - 1) 0 in
          let hs = take (left - 1) ds ++ (x + 1) ∷ [] in
          let small : x < 10 = All-get_or (λ d. d < 10) ds (left - 1) 0 (omega arith) is.below_ten in
          let digits : AreDigits hs = All-push (λ d. d < 10) (take (left - 1) ds) (x + 1) (All-take (λ d. d < 10) (left - 1) ds is.below_ten) (omega arith) in
          let l : length hs ≡ left = omega (arith, length-append (take (left - 1) ds) ((x + 1) ∷ []), length-take-le (left - 1) ds (omega arith)) in
          let l' : length (hs ++ replicate (kept - left + n) 0) ≡ kept + n =
          omega (arith, length-append hs (replicate (kept - left + n) 0), length-replicate {A = ℕ} (kept - left + n) 0) in
          let valid = valid_of hs (kept - left + n) digits (omega (arith, is.integer_some)) (omega (arith, is.high_limit)) in (
            valid,
            rounded_within mode (ten_to p) (record { digits = ds; scale = s }) (record {
              digits = hs ++ replicate (kept - left + n) 0;
              scale =
                  scale_at p;
            }) p is valid refl
                (omega (arith, ints, clamps, power_is p, is.integer_some))
                (taken_up (kept - left) hs (raised ds kept left some le within nines)),
          )

      module _ (nines : take kept ds ≡ replicate kept 9) where
        taken_carry : IsTaken (IsMultiple (ten_to p)) mode (ten_to p) (weighed (finest - s) ds) (weighed (finest - scale_at p) (1 ∷ replicate
            (kept + zeros_at p) 0))
        taken_carry = taken_up kept (1 ∷ []) (carried ds kept nines)

        reaches : 10 ^ (finest + (length ds - s)) ≤ weighed (finest - scale_at p) (1 ∷ replicate (kept + zeros_at p) 0)
        reaches =
            let keep = keep_is kept e in
            let l : length {A = ℕ} (replicate (kept + zeros_at p) 0) ≡ kept + zeros_at p = length-replicate {A = ℕ} (kept + zeros_at p) 0 in
            let power : finest - scale_at p + length {A = ℕ} (replicate (kept + zeros_at p) 0) ≡ finest + (length ds - s) = omega (arith, fine') in
            omega (arith, same_power (finest - scale_at p + length {A = ℕ} (replicate (kept + zeros_at p) 0)) (finest + (length ds - s)) power)

        pub rounded_carried : length ds - s < 32768 → Gives (1 ∷ replicate (kept + zeros_at p) 0)
        rounded_carried room =
            let keep = keep_is kept e in
            let n = zeros_at p in
            let l : length {A = ℕ} (1 ∷ replicate (kept + n) 0) ≡ kept + n + 1 = omega (arith, length-replicate {A = ℕ} (kept + n) 0) in
            let valid = valid_of (1 ∷ []) (kept + n) (All-cons (λ d. d < 10) 1 [] (omega arith) (All-nil (λ d. d < 10))) (omega (arith, is.integer_some))
            (omega arith) in (
              valid,
              rounded_carry mode (ten_to p) (record { digits = ds; scale = s }) (record {
                digits = 1 ∷ replicate (kept + n) 0;
                scale =
                    scale_at p;
              }) p (length ds - s) is
                  valid refl (omega (arith, is.integer_some)) (omega (arith, ints)) (omega (arith, ints, power_is p)) reaches taken_carry,
            )

        pub past_limits : length ds - s ≡ 32768 → SizeRoundsPastLimits mode (ten_to p) (record { digits = ds; scale = s })
        past_limits full = (weighed (finest - scale_at p) (1 ∷ replicate (kept + zeros_at p) 0), taken_carry, rw full at reaches)

-- where no digit is left in front of the nines, all kept digits are nines
pub all_nines : (ds : List ℕ) (kept left : ℕ) → left ≤ 0 → take kept ds ≡ take left ds ++ replicate (kept - left) 9 →
    take kept ds ≡ replicate kept 9
all_nines ds kept zero h e =
    let same : kept - 0 ≡ kept = omega arith in
    e ∙ ap (λ n. replicate n 9) same
all_nines ds kept (suc left) h e = absurd (omega arith)
