-- What is displayed of a decimal is one.
use Rattle.std.proofs.Common.{◌≡◌, ℕ, suc, ◌+◌, ◌-◌, ◌*◌, ◌^◌, ◌<◌, ◌≤◌, inl, inr, refl, sym, ap, ap₂, ◌∙◌, arith}
use Rattle.std.proofs.Common.{List, [], ◌∷◌, ◌++◌, length, drop, replicate, slice_index, Option, negsuc, add-zero, append-nil, length-append}
use Rattle.std.proofs.Common.{le_antisymm, le_of_eq, le_of_mul-le-mul_right}
use Rattle.std.proofs.Math.Nat.{mul-le-mul_left}
use Rattle.std.proofs.lemmas.Bool.{cases_lt, cases_order}
use Rattle.std.proofs.lemmas.Int.{ints}
use Rattle.std.proofs.lemmas.List.{get_or-drop, get_or-replicate, get_or-append_right, length-replicate}
use Rattle.std.proofs.lemmas.List.Elements.{All-append, All-replicate}
use Rattle.fixed_decimal.specs.Unsigned.{Unsigned, IsUnsigned, AreDigits, integer_count, high, low, digit_at}
use Rattle.fixed_decimal.specs.Size.{finest, weighed, size}
use Rattle.fixed_decimal.specs.Trimming.{IsTrimmed}
use Rattle.fixed_decimal.proofs.Weights.{ten_pos, weighed_lt, weighed-append, weighed-replicate_zero, AreDigits-tail}
use Rattle.fixed_decimal.proofs.Rounds.{finest_large}
use Rattle.icu_decimal_data.specs.CompactTable.{TableEntry, exponent_of}
use Rattle.icu_decimal.specs.Decomposed.{decomposed_entry, decomposed_high}
use Rattle.icu_decimal.specs.CompactLaws.{DecomposedIsOne}
use Rattle.icu_decimal.specs.NearestLemmas.{nearest_compact_same}

-- what is equal after a multiplication was equal before
cancelled : (a b c : ℕ) → 0 < c → a * c ≡ b * c → a ≡ b
cancelled a b c some e = le_antisymm (le_of_mul-le-mul_right (le_of_eq e) some) (le_of_mul-le-mul_right (le_of_eq (sym e)) some)

-- rests below a power do not make up for a greater digit
head_below : (power x y r q : ℕ) → r < power → q < power → x * power + r ≡ y * power + q → x ≤ y
head_below power x y r q hr hq e = elim (cases_lt y x) [
  | inl above ↦ let next : suc y ≤ x = above in absurd (omega (arith, mul-le-mul_left power next))
  | inr not_above ↦ not_above
]

-- as many digits of the same weight are the same
pub digits_by_weight : (e : ℕ) (xs ys : List ℕ) → length xs ≡ length ys → AreDigits xs → AreDigits ys → weighed e xs ≡ weighed e ys →
    xs ≡ ys
digits_by_weight e [] [] l p q w = refl
digits_by_weight e [] (y ∷ ys) l p q w = absurd (cc)
digits_by_weight e (x ∷ xs) [] l p q w = absurd (cc)
digits_by_weight e (x ∷ xs) (y ∷ ys) l p q w =
    let lengths : length xs ≡ length ys = omega arith in
    let power : 10 ^ (e + length ys) ≡ 10 ^ (e + length xs) = ap (λ n. 10 ^ (e + n)) (sym lengths) in
    let px = AreDigits-tail x xs p in
    let py = AreDigits-tail y ys q in
    let small : weighed e ys < 10 ^ (e + length xs) = omega (arith, power, weighed_lt e ys py) in
    let same : x * 10 ^ (e + length xs) + weighed e xs ≡ y * 10 ^ (e + length xs) + weighed e ys = w ∙ ap (λ n. y * n + weighed e ys) power in
    let head : x ≡ y = le_antisymm (head_below (10 ^ (e + length xs)) x y (weighed e xs) (weighed e ys) (weighed_lt e xs px) small same)
    (head_below (10 ^ (e + length xs)) y x (weighed e ys) (weighed e xs) small (weighed_lt e xs px) (sym same)) in
    let first : x * 10 ^ (e + length xs) ≡ y * 10 ^ (e + length xs) = ap (λ n. n * 10 ^ (e + length xs)) head in
    ap₂ ◌∷◌ head (digits_by_weight e xs ys lengths px py (omega arith))

-- Of two decimals of one size and one greatest written power, the one that writes more powers below 0 has the other's
-- digits and then zeros.
module _ (s t : Unsigned) (us : IsUnsigned s) (ut : IsUnsigned t) (same : size s ≡ size t) (top : high s ≡ high t) where
  longer : s.scale ≤ t.scale → t.digits ≡ s.digits ++ replicate (t.scale - s.scale) 0
  longer h =
      let n : ℕ = t.scale - s.scale in
      let e : ℕ = finest - t.scale in
      let up : finest - t.scale + length {A = ℕ} (replicate n 0) ≡ finest - s.scale =
      omega (arith, length-replicate {A = ℕ} n 0, finest_large, us.low_limit, ut.low_limit) in
      let lengths : length t.digits ≡ length (s.digits ++ replicate n 0) =
      omega (arith, ints, length-append s.digits (replicate n 0), length-replicate {A = ℕ} n 0, us.integer_some, ut.integer_some) in
      let padded : weighed e (s.digits ++ replicate n 0) ≡ size s =
      weighed-append e s.digits (replicate n 0) ∙ rw (up, weighed-replicate_zero e n) (add-zero _) in
      digits_by_weight e t.digits (s.digits ++ replicate n 0) lengths ut.below_ten
      (All-append (λ d. d < 10) s.digits (replicate n 0) us.below_ten (All-replicate (λ d. d < 10) n 0 (omega arith))) (sym same ∙ sym padded)

  -- so it isn't trimmed, unless it writes no more
  not_longer : s.scale < t.scale → IsTrimmed t → ⊥
  not_longer h trimmed = go (t.scale - 1) (omega arith) trimmed
    where
      last_digit : (k : ℕ) → t.scale ≡ suc k → slice_index (drop (integer_count t) t.digits) k ≡ 0
      last_digit k is =
          let n : ℕ = t.scale - s.scale in
          let place : integer_count t + k - length s.digits < n = omega (arith, ints, us.integer_some, ut.integer_some) in
          get_or-drop (integer_count t) t.digits k 0
          ∙ ap (λ ds. slice_index ds (integer_count t + k)) (longer (omega arith))
          ∙ get_or-append_right s.digits (replicate n 0) (length s.digits) (integer_count t + k) 0 refl
          (omega (arith, ints, us.integer_some, ut.integer_some))
          ∙ get_or-replicate n (integer_count t + k - length s.digits) 0 0 place

      low_is : (k : ℕ) → t.scale ≡ suc k → low t ≡ negsuc k
      low_is k is = omega (arith, ints)

      go : (k : ℕ) → t.scale ≡ suc k → IsTrimmed t → ⊥
      go k is (inl none) = absurd (omega (arith, ints))
      go k is (inr some) = some (ap (digit_at t) (low_is k is) ∙ last_digit k is)

-- a trimmed decimal is determined by its size and its greatest written power
pub trimmed_distinct : (s t : Unsigned) → IsUnsigned s → IsUnsigned t → IsTrimmed s → IsTrimmed t → size s ≡ size t → high s ≡ high t → s
    ≡ t
trimmed_distinct s t us ut ts tt' same top = elim (cases_order s.scale t.scale) [
  | inl even ↦
      let level : t.scale - s.scale ≡ 0 = omega arith in
      let none : replicate {A = ℕ} (t.scale - s.scale) 0 ≡ [] = ap (λ (n : ℕ). replicate {A = ℕ} n 0) level in
      let digits : t.digits ≡ s.digits = longer s t us ut same top (omega arith) ∙ rw none (append-nil s.digits) in
      let make : List ℕ → ℕ → Unsigned = λ ds scale. record { digits = ds; scale = scale } in
      ap₂ make (sym digits) even
  | inr order ↦ elim order [
    | inl h ↦ absurd (not_longer s t us ut same top h tt')
    | inr h ↦ absurd (not_longer t s ut us (sym same) (sym top) h ts)
  ]
]

-- equal sizes by equal exponents come of equal significands
pub same_scaled : (entry other : Option TableEntry) (a b y z : ℕ) → entry ≡ other → y ≡ z → a * 10 ^ exponent_of entry ≡ y →
    b * 10 ^ exponent_of other ≡ z → a ≡ b
same_scaled entry other a b y z entries sizes p q =
    cancelled a b (10 ^ exponent_of other) (ten_pos (exponent_of other)) (ap (λ e. a * 10 ^ exponent_of e) (sym entries) ∙ p ∙ sizes ∙ sym q)

-- the size is the nearest one, and it gives the entry, the significand's size and its greatest written power
pub decomposed_is_one : DecomposedIsOne
decomposed_is_one table d y z entry other significand another h k =
    let sizes : y ≡ z = nearest_compact_same table (size d) z y k.nearest h.nearest in
    let entries : entry ≡ other = h.entry_is ∙ ap (decomposed_entry table) sizes ∙ sym k.entry_is in (
      sizes,
      entries,
      trimmed_distinct significand another h.is_decimal k.is_decimal h.trimmed k.trimmed
          (same_scaled entry other (size significand) (size another) y z entries sizes h.scaled k.scaled)
          (h.high_is ∙ ap (decomposed_high table d) sizes ∙ sym k.high_is),
    )
