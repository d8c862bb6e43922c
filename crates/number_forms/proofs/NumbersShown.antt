-- What number_rounding shows of a number is what `shown_number` computes, and so is a number that is rounded to just so many fraction digits.
-- A number is determined by its size and its counts of digits (`number-told`).
use Rattle.std.proofs.Common.{◌≡◌, ℕ, ◌+◌, ◌-◌, ◌*◌, ◌/◌, ◌%◌, ◌^◌, ◌<◌, ◌≤◌, ◌⊎◌, max, Bool, true, false}
use Rattle.std.proofs.Common.{List, [], Option, inl, inr, refl, sym, ap, ◌∙◌, subst, arith, mul_assoc, ℤ, pos, negsuc, ◌-ℤ◌, rules}
use Rattle.std.specs.Prelude.{Ok, Err, nat_le, nat_lt, not, ◌==◌, ◌||◌, if◌then◌else◌}
use Rattle.std.specs.Int.{int_max, int_min}
use Rattle.std.proofs.lemmas.Bool.Decides.{nat_tests}
use Rattle.std.proofs.lemmas.Int.{ints, clamps}
use Rattle.std.proofs.Math.Nat.{mul-mod_left}
use Rattle.fixed_decimal.specs.Modes.{IsLeastFrom, size_mode, taken_at}
use Rattle.fixed_decimal.specs.Padding.{IsExactWith}
use Rattle.fixed_decimal.specs.Nearest.{IsMultiple, IsNearest}
use Rattle.fixed_decimal.specs.Rounding.{IsRounded, RoundsPastLimits}
use Rattle.fixed_decimal.specs.Size.{finest, magnitude, magnitude_place, size, ten_to, weighed}
use Rattle.fixed_decimal.specs.Unsigned.{Unsigned, IsUnsigned, integer_count}
use Rattle.fixed_decimal.specs.declared.modes.UnsignedRoundingMode.TheVariants.{HalfEven}
use Rattle.fixed_decimal.proofs.MagnitudePlaces.{ten_multiple}
use Rattle.fixed_decimal.proofs.Magnitudes.{place_is, size_lt}
use Rattle.fixed_decimal.proofs.Rounds.{finest_large}
use Rattle.fixed_decimal.proofs.Taken.{allowed_taken}
use Rattle.fixed_decimal.proofs.TakenMultiples.{nearest-half_even, taken-at}
use Rattle.fixed_decimal.proofs.Weights.{ten_mono, ten_pos, weighed_units}
use Rattle.icu_decimal_data.specs.CompactTable.{IsCompactTable, TableEntry, entry_for, exponent_of}
use Rattle.icu_decimal.proofs.DecomposedOnce.{digits_by_weight}
use Rattle.decimal_lines.specs.Computed.{count_up_to, digits_from, scale_of}
use Rattle.decimal_lines.specs.SingleText.{IsRefusal}
use Rattle.decimal_lines.specs.declared.single_text.TextError.{TextError}
use Rattle.decimal_lines.specs.declared.single_text.TextError.TheVariants.{Overflow}
use Rattle.decimal_lines.proofs.Computing.{digits_from-digits, length-digits_from, scale_of-at_most, scale_of-enough, weighed-digits_from}
use Rattle.skeleton_settings.specs.declared.settings.Precision.{Precision}
use Rattle.number_rounding.specs.declared.rounding.Rounding.{Rounding}
use Rattle.number_rounding.specs.Showable.{FitsTable, unit_at}
use Rattle.number_rounding.specs.Shown.{IsShown, ShowsPastLimits, least_fraction_digits}
use Rattle.number_rounding.specs.Steps.{step}
use Rattle.number_rounding.proofs.ShownSizes.{shown_is_divided}
use Rattle.number_rounding.proofs.Unrounded.{exact_multiple}
use Rattle.number_forms.specs.Cut.{IsCut, IsCutRefusal, nearest_size}
use Rattle.number_forms.specs.Rounded.{digits_before, digits_below, half_even_to, number_of, number_shown, shown_number, shown_size}

-- a number is determined by its size and its counts of digits
number-told : (u : Unsigned) → IsUnsigned u → number_of (integer_count u) u.scale (size u) ≡ u
number-told u is =
    let e : ℕ = finest - u.scale in
    let n : ℕ = integer_count u + u.scale in
    let whole : size u % 10 ^ (finest - u.scale) ≡ 0 =
    ap (λ k. k % 10 ^ (finest - u.scale)) (weighed_units (finest - u.scale) u.digits) ∙ mul-mod_left (weighed 0 u.digits) (10 ^ (finest - u.scale)) in
    let top : finest + integer_count u ≡ finest - u.scale + (integer_count u + u.scale) = omega (arith, finest_large, is.low_limit) in
    let below : size u < 10 ^ (finest - u.scale + (integer_count u + u.scale)) = subst (λ (k : ℕ). size u < 10 ^ k) top (size_lt u is) in
    let make : List ℕ → Unsigned = λ ds. record { digits = ds; scale = u.scale } in
    ap make (digits_by_weight e (digits_from (size u) e n) u.digits (omega (arith, length-digits_from (size u) e n, is.integer_some))
    (digits_from-digits (size u) e n) is.below_ten (weighed-digits_from (size u) e n whole below))

-- the number of a size by its counts
pub told-by : (before below : ℕ) (u : Unsigned) (y : ℕ) → IsUnsigned u → size u ≡ y → integer_count u ≡ before → u.scale ≡ below
    → number_of before below y ≡ u
told-by before below u y is sizes count scale = ap (λ n. number_of n below y) (sym count)
    ∙ ap (λ n. number_of (integer_count u) n y) (sym scale)
    ∙ ap (λ x. number_of (integer_count u) u.scale x) (sym sizes)
    ∙ number-told u is

-- what that many digits below power 0 write, more write too
exact-more : (x n k : ℕ) → n ≤ k → IsExactWith x n → IsExactWith x k
exact-more x n k more (q, whole) = go (ten_multiple (finest - k) (finest - n) (omega arith))
  where
    go : IsMultiple (10 ^ (finest - k)) (10 ^ (finest - n)) → IsExactWith x k
    go (r, e) = (q * r, whole ∙ ap (λ y. q * y) e ∙ sym (mul_assoc q r (10 ^ (finest - k))))

-- a multiple leaves no rest
no-rest : (u x : ℕ) → IsMultiple u x → x % u ≡ 0
no-rest u x (q, whole) = ap (λ y. y % u) whole ∙ mul-mod_left q u

-- the least count of digits below power 0 is the greater of that which is wanted and that which is needed
needed-told : (least y n : ℕ) → IsExactWith y 32768 → IsLeastFrom (IsExactWith y) least n → n ≡ max least (scale_of y)
needed-told least y n fits is =
    let low : scale_of y ≤ n = scale_of-at_most y n is.allowed in
    let rest : y % 10 ^ (finest - scale_of y) ≡ 0 = scale_of-enough y (no-rest (10 ^ (finest - 32768)) y fits) in
    let enough : IsExactWith y (scale_of y) = as_multiple (10 ^ (finest - scale_of y)) (ten_pos (finest - scale_of y)) rest in
    let small : n ≤ max least (scale_of y) =
    is.least (max least (scale_of y)) (exact-more y (scale_of y) (max least (scale_of y)) (omega arith) enough) (omega arith) in
    omega (arith, low, small, is.from)
  where
    as_multiple : (u : ℕ) → 0 < u → y % u ≡ 0 → IsMultiple u y
    as_multiple u some rest = (y / u, omega (arith, some, rest))

-- how many digits stand at power 0 and above, by the greatest written power
pub counted : (k n : ℕ) (m : ℤ) → pos k -ℤ pos 1 ≡ int_max (int_max (pos 0) (pos n -ℤ pos 1)) m → k ≡ max (max 1 n) (count_up_to m)
counted k n (pos j) e = omega (arith, ints, clamps)
counted k n (negsuc j) e = omega (arith, ints, clamps)

module _ (rounding : Rounding) (y : ℕ) where
  abbrev unit : ℕ
  unit = 10 ^ (finest - 32768)

  -- within the limits
  pub shown-told : (u : Unsigned) → IsUnsigned u → size u ≡ y → integer_count u ≡ digits_before rounding y
      → IsLeastFrom (IsExactWith y) (least_fraction_digits rounding y) u.scale → number_shown rounding y ≡ Ok u
  shown-told u is sizes count least =
      let fits : IsExactWith y 32768 = exact-more y u.scale 32768 is.low_limit least.allowed in
      let scale : u.scale ≡ digits_below rounding y = needed-told (least_fraction_digits rounding y) y u.scale fits least in
      let small : size u < 10 ^ (finest + integer_count u) = size_lt u is in
      let room : 10 ^ (finest + integer_count u) ≤ 10 ^ (finest + 32768) =
      ten_mono (finest + integer_count u) (finest + 32768) (omega (arith, is.high_limit)) in
      go (nat_le (ten_to (pos 32768)) y) (nat_lt 32768 rounding.integer_digits) (nat_lt 32768 (digits_below rounding y)) ((y % unit) == 0) refl refl refl
      refl (omega (arith, sizes, small, room)) (omega (arith, count, is.high_limit)) (omega (arith, scale, is.low_limit))
      (no-rest unit y fits) (told-by (digits_before rounding y) (digits_below rounding y) u y is sizes count scale)
    where
      go : (a b c e : Bool) → nat_le (ten_to (pos 32768)) y ≡ a → nat_lt 32768 rounding.integer_digits ≡ b
          → nat_lt 32768 (digits_below rounding y) ≡ c → ((y % unit) == 0) ≡ e → ¬ (ten_to (pos 32768) ≤ y)
          → ¬ (32768 < rounding.integer_digits)
          → ¬ (32768 < digits_below rounding y) → y % unit ≡ 0 → number_of (digits_before rounding y) (digits_below rounding y) y ≡ u
          → (if a || b || c || not e then Err Overflow else Ok (number_of (digits_before rounding y) (digits_below rounding y) y)) ≡ Ok u
      go true b c e is-a is-b is-c is-e na nb nc whole told = absurd (na (grind (arith, nat_tests)))
      go false true c e is-a is-b is-c is-e na nb nc whole told = absurd (nb (grind (arith, nat_tests)))
      go false false true e is-a is-b is-c is-e na nb nc whole told = absurd (nc (grind (arith, nat_tests)))
      go false false false false is-a is-b is-c is-e na nb nc whole told = absurd (grind (arith, nat_tests))
      go false false false true is-a is-b is-c is-e na nb nc whole told = ap Ok told

  -- past them
  pub shown-past : (ten_to (pos 32768) ≤ y) ⊎ ((32768 < rounding.integer_digits)
      ⊎ ((n : ℕ) × IsLeastFrom (IsExactWith y) (least_fraction_digits rounding y) n × (32768 < n))) → number_shown rounding y ≡ Err Overflow
  shown-past past = go (nat_le (ten_to (pos 32768)) y) (nat_lt 32768 rounding.integer_digits) (nat_lt 32768 (digits_below rounding y)) ((y % unit) == 0)
      refl refl refl refl past
    where
      written : ((y % unit) == 0) ≡ true → IsExactWith y 32768
      written e = let none : y % unit ≡ 0 = grind (arith, nat_tests) in (y / unit, omega (arith, ten_pos (finest - 32768), none))

      go : (a b c e : Bool) → nat_le (ten_to (pos 32768)) y ≡ a → nat_lt 32768 rounding.integer_digits ≡ b
          → nat_lt 32768 (digits_below rounding y) ≡ c → ((y % unit) == 0) ≡ e
          → (ten_to (pos 32768) ≤ y) ⊎ ((32768 < rounding.integer_digits)
          ⊎ ((n : ℕ) × IsLeastFrom (IsExactWith y) (least_fraction_digits rounding y) n × (32768 < n)))
          → (if a || b || c || not e then Err Overflow else Ok (number_of (digits_before rounding y) (digits_below rounding y) y)) ≡ Err Overflow
      go true b c e is-a is-b is-c is-e past = refl
      go false true c e is-a is-b is-c is-e past = refl
      go false false true e is-a is-b is-c is-e past = refl
      go false false false false is-a is-b is-c is-e past = refl
      go false false false true is-a is-b is-c is-e (inl large) = absurd (grind (arith, nat_tests))
      go false false false true is-a is-b is-c is-e (inr (inl many)) = absurd (grind (arith, nat_tests))
      go false false false true is-a is-b is-c is-e (inr (inr (n, least, many))) =
          let told : n ≡ digits_below rounding y = needed-told (least_fraction_digits rounding y) y n (written is-e) least in
          let over : 32768 < digits_below rounding y = omega (arith, told, many) in
          absurd (grind (arith, nat_tests))

-- once a number is the number
once : (a k b : ℕ) → k ≡ 1 → a * k ≡ b → a ≡ b
once a k b one e = let bare : a * 1 ≡ b = subst (λ (n : ℕ). a * n ≡ b) one e in omega (arith, bare)

-- without a table there is no exponent, and the unit is the step
no_exponent : (m : ℕ) → exponent_of (entry_for [] m) ≡ 0
unfolding entry_for
no_exponent m = refl

plain_unit : (precision : Precision) (m : ℕ) → unit_at precision [] m ≡ step precision m
plain_unit precision m = subst (λ (e : ℕ). step precision (m - e) * 10 ^ e ≡ step precision m) (sym (no_exponent m)) bare
  where
    bare : step precision (m - 0) * 10 ^ 0 ≡ step precision m
    bare =
        let same : step precision (m - 0) ≡ step precision m = ap (step precision) (omega arith) in
        omega (arith, same)

no_table : IsCompactTable []
no_table = search rules

module _ (rounding : Rounding) (minus : Bool) (d : Unsigned) where
  fits : FitsTable rounding.precision []
  fits = record { is_table = no_table; divides = inl refl }

  -- what is shown
  pub shown-is : (y : ℕ) (entry : Option TableEntry) (u : Unsigned) → IsShown rounding [] minus (size d) y entry u
      → shown_number rounding minus d ≡ Ok u
  unfolding shown_number
  shown-is y entry u is =
      let divided : y ≡ shown_size rounding minus (size d) =
      (shown_is_divided rounding.precision [] rounding.mode minus (size d) y fits).0 is.taken
      ∙ ap (λ n. taken_at (size_mode rounding.mode minus) n (size d)) (plain_unit rounding.precision (magnitude_place (size d))) in
      let none : exponent_of entry ≡ 0 = ap exponent_of is.entry_is ∙ no_exponent (magnitude_place y) in
      let one : 10 ^ exponent_of entry ≡ 1 = ap (λ n. 10 ^ n) none in
      let sizes : size u ≡ y = once (size u) (10 ^ exponent_of entry) y one is.scaled in
      let count : integer_count u ≡ digits_before rounding y =
      counted (integer_count u) rounding.integer_digits (magnitude (size u)) is.high_is
      ∙ ap (λ n. max (max 1 rounding.integer_digits) (count_up_to (magnitude n))) sizes in
      let least : IsLeastFrom (IsExactWith y) (least_fraction_digits rounding y) u.scale =
      subst (λ (n : ℕ). IsLeastFrom (IsExactWith n) (least_fraction_digits rounding n) u.scale) sizes is.scale_is in
      ap (number_shown rounding) (sym divided) ∙ shown-told rounding y u is.is_decimal sizes count least

  -- what isn't
  pub shown-refused : ShowsPastLimits rounding [] minus (size d) → shown_number rounding minus d ≡ Err Overflow
  unfolding shown_number
  shown-refused (inl (y, taken, large)) =
      let divided : y ≡ shown_size rounding minus (size d) =
      (shown_is_divided rounding.precision [] rounding.mode minus (size d) y fits).0 taken
      ∙ ap (λ n. taken_at (size_mode rounding.mode minus) n (size d)) (plain_unit rounding.precision (magnitude_place (size d))) in
      ap (number_shown rounding) (sym divided) ∙ shown-past rounding y (inl large)
  shown-refused (inr (inl many)) = shown-past rounding (shown_size rounding minus (size d)) (inr (inl many))
  shown-refused (inr (inr below)) =
      let y = below.y in
      let divided : y ≡ shown_size rounding minus (size d) =
      (shown_is_divided rounding.precision [] rounding.mode minus (size d) y fits).0 below.taken
      ∙ ap (λ n. taken_at (size_mode rounding.mode minus) n (size d)) (plain_unit rounding.precision (magnitude_place (size d))) in
      let one : 10 ^ exponent_of (entry_for [] (magnitude_place y)) ≡ 1 = ap (λ n. 10 ^ n) (no_exponent (magnitude_place y)) in
      let same : below.s ≡ y = once below.s (10 ^ exponent_of (entry_for [] (magnitude_place y))) y one below.scaled in
      let least : IsLeastFrom (IsExactWith y) (least_fraction_digits rounding y) below.count =
      subst (λ (n : ℕ). IsLeastFrom (IsExactWith n) (least_fraction_digits rounding n) below.count) same below.count_is in
      ap (number_shown rounding) (sym divided) ∙ shown-past rounding y (inr (inr (below.count, least, below.too_many)))

-- ten to the power -n, in units
ten_below : (p : ℤ) (n : ℕ) → p ≡ pos 0 -ℤ pos n → n ≤ 32768 → ten_to p ≡ 10 ^ (finest - n)
ten_below p n is small = ap (λ k. 10 ^ k) (omega (arith, place_is p 0 n (omega (arith, finest_large)) (sym is), finest_large))

module _ (d : Unsigned) (p : ℤ) (n : ℕ) (is : p ≡ pos 0 -ℤ pos n) (small : n ≤ 32768) where
  -- the size of a rounded number is the computed one
  size-told : (y : ℕ) → IsNearest (IsMultiple (ten_to p)) (ten_to p) (size d) y → y ≡ nearest_size n (size d)
  size-told y near =
      let u : ℕ = 10 ^ (finest - n) in
      taken-at HalfEven u (size d) y (ten_pos (finest - n))
      (nearest-half_even u (size d) y (ten_pos (finest - n))
      (subst (λ (k : ℕ). IsNearest (IsMultiple k) k (size d) y) (ten_below p n is small) near))

  -- a rounded number
  pub cut-rounded : (y : Unsigned) → IsRounded d p y → IsUnsigned y → IsCut n d y
  cut-rounded y h valid =
      let low : pos 0 -ℤ pos y.scale ≡ int_min (pos 0 -ℤ pos n) (pos 0) = h.low_is ∙ ap (λ (q : ℤ). int_min q (pos 0)) is in
      record {
        valid = valid;
        size_is = size-told (size y) h.nearest;
        scale_is = omega (arith, ints, clamps, low);
      }

  -- a number that can't be rounded
  pub cut-past : RoundsPastLimits d p → ten_to (pos 32768) ≤ nearest_size n (size d)
  cut-past (y, near, large) = subst (λ (z : ℕ). ten_to (pos 32768) ≤ z) (size-told y near) large

-- a number with n fraction digits is what it is rounded to
pub cut-itself : (n : ℕ) (d : Unsigned) → IsUnsigned d → d.scale ≡ n → IsCut n d d
cut-itself n d valid scale =
    let u : ℕ = 10 ^ (finest - n) in
    record {
      valid = valid;
      size_is = taken-at HalfEven u (size d) (size d) (ten_pos (finest - n))
          (allowed_taken (IsMultiple u) HalfEven u (size d)
          (exact_multiple d valid (finest - n) (omega (arith, finest_large, valid.low_limit, scale))));
      scale_is = scale;
    }

module _ (n : ℕ) (minus : Bool) (d : Unsigned) where
  -- a number that was rounded half to even, or the same with other digits, as its counts say
  pub cut-shown : (y u : Unsigned) → IsCut n d y → IsUnsigned u → size u ≡ size y → integer_count u ≡ max 1 (count_up_to (magnitude (size y)))
      → IsLeastFrom (IsExactWith (size y)) n u.scale → shown_number (half_even_to n) minus d ≡ Ok u
  unfolding shown_number
  cut-shown y u cut valid sizes count least =
      ap (number_shown (half_even_to n)) (sym cut.size_is)
      ∙ shown-told (half_even_to n) (size y) u valid sizes (omega (arith, count)) least

  -- of a number with n fraction digits they are the least count
  pub cut-least : (y : Unsigned) → IsCut n d y → IsLeastFrom (IsExactWith (size y)) n y.scale
  cut-least y cut = record {
    allowed = exact_multiple y cut.valid (finest - y.scale) (omega (arith, finest_large, cut.valid.low_limit));
    from = omega (arith, cut.scale_is);
    least = λ z _ from. omega (arith, cut.scale_is, from);
  }

  -- a number that can't be rounded isn't shown
  pub cut-refused : (error : TextError) → IsCutRefusal n d error → IsRefusal (shown_number (half_even_to n) minus d) error
  unfolding shown_number
  cut-refused error (inl memory) = inl memory
  cut-refused error (inr (over, large)) = inr (shown-past (half_even_to n) (nearest_size n (size d)) (inl large) ∙ ap Err (sym over))
