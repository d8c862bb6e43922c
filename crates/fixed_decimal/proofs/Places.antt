-- Where the digit at a power stands in the list.
use Rattle.std.proofs.Common.{◌≡◌, ℕ, ◌+◌, ◌-◌, ◌<◌, List, ◌++◌, length, take, reverse, replicate, get_or, inl, inr, ℤ, pos, negsuc}
use Rattle.std.proofs.Common.{◌+ℤ◌, ◌-ℤ◌, ◌≤ℤ◌, ◌∙◌, ap, sym, refl, arith}
use Rattle.std.proofs.lemmas.Int.{ints}
use Rattle.std.proofs.lemmas.List.{get_or-reverse, get_or-take, get_or-drop, get_or_past, get_or-replicate, get_or-append-add, get_or_append_left}
use Rattle.std.proofs.lemmas.List.{get_or-append_right, length-take-le, length-reverse, length-replicate}
use Rattle.std.proofs.lemmas.Bool.{cases_lt}
use Rattle.fixed_decimal.specs.Unsigned.{Unsigned, digit_at, integer_count}

-- each item of zeros is 0, as past the end
zero_at : (n i : ℕ) → get_or {A = ℕ} (replicate n 0) i 0 ≡ 0
zero_at n i = elim (cases_lt i n) [
  | inl inside ↦ get_or-replicate n i 0 0 inside
  | inr past ↦ get_or_past (replicate n 0) i 0 (omega (arith, length-replicate {A = ℕ} n 0))
]

-- with zeros before and behind a list, its items are those of the list, moved, and else 0
padded : (ds : List ℕ) (f b i : ℕ) → get_or (replicate f 0 ++ (ds ++ replicate b 0)) (f + i) 0 ≡ get_or ds i 0
padded ds f b i =
    let l : length {A = ℕ} (replicate f 0) ≡ f = length-replicate {A = ℕ} f 0 in
    ap (λ n. get_or (replicate f 0 ++ (ds ++ replicate b 0)) (n + i) 0) (sym l) ∙ get_or-append-add (replicate f 0) (ds ++ replicate b 0) i 0
    ∙ behind_zeros ds b i
  where
    behind_zeros : (ds : List ℕ) (b i : ℕ) → get_or (ds ++ replicate b 0) i 0 ≡ get_or ds i 0
    behind_zeros ds b i = elim (cases_lt i (length ds)) [
      | inl inside ↦ get_or_append_left ds (replicate b 0) 0 i inside
      | inr past ↦ get_or-append_right ds (replicate b 0) (length ds) i 0 refl past ∙ zero_at b (i - length ds) ∙ sym (get_or_past ds i 0 past)
    ]

zeros_first : (ds : List ℕ) (f i : ℕ) → i < f → get_or (replicate f 0 ++ ds) i 0 ≡ 0
zeros_first ds f i h = get_or_append_left (replicate f 0) ds 0 i (omega (arith, length-replicate {A = ℕ} f 0)) ∙ zero_at f i

-- the digit at a power, by its index in the list of digits
pub digit_at_place : (d : Unsigned) (p : ℤ) (i : ℕ) → d.scale < length d.digits → pos i ≡ (pos (integer_count d) -ℤ pos 1) -ℤ p →
    digit_at d p ≡ get_or d.digits i 0
digit_at_place d (pos n) i some e =
    let m = integer_count d in
    let len : length (take m d.digits) ≡ m = length-take-le m d.digits (omega arith) in
    let h : n < length (take m d.digits) = omega (arith, ints) in
    let h' : i < m = omega (arith, ints) in
    let place : length (take m d.digits) - 1 - n ≡ i = omega (arith, ints) in
    rw (get_or-reverse (take m d.digits) n 0 h, place) (get_or-take m d.digits i 0 h')
digit_at_place d (negsuc n) i some e =
    let place : integer_count d + n ≡ i = omega (arith, ints) in
    get_or-drop (integer_count d) d.digits n 0 ∙ ap (λ k. get_or d.digits k 0) place

-- above the written digits each digit is 0
pub digit_at_above : (d : Unsigned) (p : ℤ) → d.scale < length d.digits → ((pos (integer_count d) -ℤ pos 1) -ℤ p) ≤ℤ negsuc 0 →
    digit_at d p ≡ 0
digit_at_above d (pos n) some e =
    let m = integer_count d in
    let len : length (take m d.digits) ≡ m = length-take-le m d.digits (omega arith) in
    get_or_past (reverse (take m d.digits)) n 0 (omega (arith, ints, length-reverse (take m d.digits)))
digit_at_above d (negsuc n) some e = absurd (omega (arith, ints))

-- y has the digits of d with f zeros before and b zeros behind them, and f + k digits more before the point
module _ (d y : Unsigned) (f b : ℕ) (k : ℤ) (some : d.scale < length d.digits) (some' : y.scale < length y.digits)
    (digits : y.digits ≡ replicate f 0 ++ (d.digits ++ replicate b 0)) (count : pos (integer_count y) ≡ (pos (integer_count d) +ℤ k) +ℤ pos f) where
  behind : (i : ℕ) → get_or y.digits (f + i) 0 ≡ get_or d.digits i 0
  behind i = ap (λ l. get_or l (f + i) 0) digits ∙ padded d.digits f b i

  -- so each digit of d stands k powers higher in y
  pub digit_at-moved : (p : ℤ) → digit_at y (p +ℤ k) ≡ digit_at d p
  digit_at-moved p = go ((pos (integer_count d) -ℤ pos 1) -ℤ p) refl
    where
      go : (z : ℤ) → (pos (integer_count d) -ℤ pos 1) -ℤ p ≡ z → digit_at y (p +ℤ k) ≡ digit_at d p
      go (pos i) e =
          digit_at_place y (p +ℤ k) (f + i) some' (omega (arith, ints)) ∙ behind i ∙ sym (digit_at_place d p i some (sym e))
      go (negsuc i) e =
          let above : digit_at d p ≡ 0 = digit_at_above d p some (omega (arith, ints)) in
          elim (cases_lt i f) [
            | inl inside ↦
                digit_at_place y (p +ℤ k) (f - (i + 1)) some' (omega (arith, ints)) ∙ ap (λ l. get_or l (f - (i + 1)) 0) digits
                ∙ zeros_first (d.digits ++ replicate b 0) f (f - (i + 1)) (omega arith) ∙ sym above
            | inr past ↦ digit_at_above y (p +ℤ k) some' (omega (arith, ints)) ∙ sym above
          ]
