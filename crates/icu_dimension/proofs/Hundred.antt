-- How large a hundred times a number is.
use Rattle.std.proofs.Common.{◌≡◌, ◌≢◌, ℕ, suc, ◌+◌, ◌-◌, ◌*◌, ◌^◌, ◌<◌, ◌≤◌, ◌⊎◌, inl, inr}
use Rattle.std.proofs.Common.{List, [], ◌∷◌, ◌++◌, length, drop, slice_index, nat_eq, mul_assoc, mul_comm, refl, sym, ap, ◌∙◌, arith}
use Rattle.std.proofs.Common.{length-append, length-drop}
use Rattle.std.specs.Prelude.{negsuc}
use Rattle.std.proofs.lemmas.Bool.{cases_Bool, eqb-true, eqb-false}
use Rattle.std.proofs.lemmas.List.{take-append-drop}
use Rattle.std.proofs.lemmas.Nat.{pow-add}
use Rattle.fixed_decimal.specs.Size.{finest, size, weighed}
use Rattle.fixed_decimal.specs.Unsigned.{Unsigned, IsUnsigned, digit_at, fraction, integer, integer_count}
use Rattle.fixed_decimal.proofs.Weights.{weighed-append, weighed_times, same_power}
use Rattle.fixed_decimal.proofs.Rounds.{finest_large}
use Rattle.icu_dimension.specs.Percent.{trimmed, hundredfold, integer_hundredfold, fraction_hundredfold}

-- zeros at the front weigh nothing
weighed-trimmed_some : (e d : ℕ) (ds : List ℕ) → weighed e (trimmed (d ∷ ds)) ≡ weighed e (d ∷ ds)
weighed-trimmed_some e d [] = refl
weighed-trimmed_some e d (x ∷ ds) = elim (cases_Bool (nat_eq d 0)) [
  | inl t ↦ let z : d ≡ 0 = eqb-true d 0 t in rw t (weighed-trimmed_some e x ds ∙ rw z (omega arith))
  | inr f ↦ rw f refl
]

weighed-trimmed : (e : ℕ) (ds : List ℕ) → weighed e (trimmed ds) ≡ weighed e ds
weighed-trimmed e [] = refl
weighed-trimmed e (d ∷ ds) = weighed-trimmed_some e d ds

-- two powers more are a hundred times as much
hundred : (e : ℕ) → 10 ^ (e + 2) ≡ 100 * 10 ^ e
hundred e = omega (arith, pow-add 10 e 2)

times : (x e : ℕ) → x * 10 ^ (e + 2) ≡ 100 * (x * 10 ^ e)
times x e =
    ap (λ n. x * n) (hundred e) ∙ sym (mul_assoc x 100 (10 ^ e))
    ∙ ap (λ n. n * 10 ^ e) (mul_comm x 100) ∙ mul_assoc 100 x (10 ^ e)

-- what stands below power 0
fraction_part : (e : ℕ) (f : List ℕ)
    → weighed (e + length f) (slice_index f 0 ∷ slice_index f 1 ∷ []) + weighed (e + length f - length (drop 2 f)) (drop 2 f)
    ≡ 100 * weighed e f
fraction_part e [] = omega arith
fraction_part e (x ∷ []) =
    let p : 10 ^ (e + 1 + 1) ≡ 10 ^ (e + 2) = same_power (e + 1 + 1) (e + 2) (omega arith) in
    let q : 10 ^ (e + 0) ≡ 10 ^ e = same_power (e + 0) e (omega arith) in
    rw (p, q) (omega (arith, times x e))
fraction_part e (x ∷ y ∷ r) =
    let n = length r in
    let px : 10 ^ (e + suc (suc n) + 1) ≡ 10 ^ (e + suc n + 2) = same_power (e + suc (suc n) + 1) (e + suc n + 2) (omega arith) in
    let py : 10 ^ (e + suc (suc n) + 0) ≡ 10 ^ (e + n + 2) = same_power (e + suc (suc n) + 0) (e + n + 2) (omega arith) in
    let pr : e + suc (suc n) - n ≡ e + 2 = omega arith in
    rw (px, py, pr) (omega (arith, times x (e + suc n), times y (e + n), weighed_times e 2 r))

-- the digits at power -2 and above, and those below it
sized : (e n : ℕ) (i f : List ℕ) → e + length f ≡ n
    → weighed (n - length (drop 2 f)) (trimmed (i ++ slice_index f 0 ∷ slice_index f 1 ∷ []) ++ drop 2 f)
    ≡ 100 * weighed e (i ++ f)
sized e n i f h =
    let ab = slice_index f 0 ∷ slice_index f 1 ∷ [] in
    let shorter : length (drop 2 f) ≤ length f = omega (arith, length-drop 2 f) in
    let back : n - length (drop 2 f) + length (drop 2 f) ≡ n = omega (arith, h, shorter) in
    let front = weighed-append (n - length (drop 2 f)) (trimmed (i ++ ab)) (drop 2 f) in
    let whole = weighed-trimmed n (i ++ ab) ∙ weighed-append n i ab in
    let before = weighed-append e i f in
    let part = fraction_part e f in
    let up = weighed_times n 2 i in
    rw (front, back, whole, before, ← h) (omega (arith, part, rw (← h) at up))

-- a hundred times a number is a hundred times as large
pub size-hundredfold : (u : Unsigned) → IsUnsigned u → size (hundredfold u) ≡ 100 * size u
size-hundredfold u is =
    let f = fraction u in
    let i = integer u in
    let e = finest - u.scale in
    let long : length f ≡ u.scale = omega (arith, is.integer_some, length-drop (integer_count u) u.digits) in
    let fits : e + length f ≡ finest = omega (arith, long, is.low_limit, finest_large) in
    sized e finest i f fits ∙ ap (λ l. 100 * weighed e l) (take-append-drop (integer_count u) u.digits)

-- the first digit is the last one, or not 0
trimmed_first : (d : ℕ) (ds : List ℕ) → (length (trimmed (d ∷ ds)) ≡ 1) ⊎ (slice_index (trimmed (d ∷ ds)) 0 ≢ 0)
trimmed_first d [] = inl refl
trimmed_first d (x ∷ ds) = elim (cases_Bool (nat_eq d 0)) [ inl t ↦ rw t (trimmed_first x ds) | inr f ↦ rw f (inr (eqb-false d 0 f)) ]

-- the same of any digits
trimmed_begins : (ds : List ℕ) → 0 < length ds → (length (trimmed ds) ≡ 1) ⊎ (slice_index (trimmed ds) 0 ≢ 0)
trimmed_begins [] h = absurd (omega arith)
trimmed_begins (d ∷ ds) h = trimmed_first d ds

-- more digits behind them leave the first as it is
begins : (xs ys : List ℕ) → (length xs ≡ 1) ⊎ (slice_index xs 0 ≢ 0) → (length (xs ++ ys) - length ys ≡ 1) ⊎ (slice_index (xs ++ ys) 0 ≢ 0)
begins xs ys (inl one) = inl (omega (arith, one, length-append xs ys))
begins [] ys (inr other) = absurd (other refl)
begins (x ∷ xs) ys (inr other) = inr other

-- its first digit is its only one at power 0 and above, or isn't 0
pub hundredfold_first : (u : Unsigned) → (integer_count (hundredfold u) ≡ 1) ⊎ (slice_index (hundredfold u).digits 0 ≢ 0)
hundredfold_first u =
    let ab = digit_at u (negsuc 0) ∷ digit_at u (negsuc 1) ∷ [] in
    begins (integer_hundredfold u) (fraction_hundredfold u) (trimmed_begins (integer u ++ ab) (omega (arith, length-append (integer u) ab)))
