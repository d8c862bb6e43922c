-- The magnitude of a size, and places of powers.
-- The relation `IsMagnitude` speaks of powers, which are integers; the magnitude is computed on places, which are natural
-- numbers. `place` joins them: it is monotone, by cases on the signs of the powers, so that powers are compared by
-- `ten_mono` of proofs/Weights. That the computed place is reached and greatest (`magnitude_has`) is cited from
-- proofs/MagnitudePlaces; that there is only one such power (`magnitude_only`) follows from being greatest. For digits
-- (`magnitude_first`) the size is shown to lie between two neighbouring powers; an induction on the digits does not go,
-- since the magnitude is searched down from the size.
use Rattle.std.proofs.Common.{◌≡◌, ◌≢◌, ℕ, ◌+◌, ◌-◌, ◌*◌, ◌^◌, ◌<◌, ◌≤◌, ◌⊎◌, inl, inr, List, [], ◌∷◌}
use Rattle.std.proofs.Common.{◌++◌, length, drop, get_or, replicate, zero-add, refl, sym, ◌∙◌, ap, arith, ℤ, pos, negsuc, ◌+ℤ◌, ◌-ℤ◌}
use Rattle.std.proofs.Common.{◌≤ℤ◌, ◌<ℤ◌}
use Rattle.std.proofs.lemmas.Int.{ints, by_lt_z}
use Rattle.std.proofs.Math.Nat.{mul-le-mul_left}
use Rattle.std.proofs.lemmas.Bool.{cases_eq, cases_lt}
use Rattle.std.proofs.lemmas.List.{drop_more, drop_all, length-drop, append-nil}
use Rattle.std.proofs.lemmas.List.Elements.{All-drop}
use Rattle.fixed_decimal.specs.Unsigned.{Unsigned, IsUnsigned, AreDigits, high, integer_count}
use Rattle.fixed_decimal.specs.Size.{weighed, finest, place, ten_to, magnitude_place, magnitude, size}
use Rattle.fixed_decimal.proofs.MagnitudePlaces.{magnitude_place_low, magnitude_place_high, magnitude_place-zero}
use Rattle.fixed_decimal.proofs.Weights.{weighed-append, weighed_units, weighed-replicate_zero, weighed_lt, ten_pos, ten_mono}
use Rattle.fixed_decimal.proofs.Rounds.{finest_large, weighed-zeros}

-- m is the greatest power to which ten is at most x; for the size 0 it is 0
abbrev pub IsMagnitude : ℕ → ℤ → Type 0
IsMagnitude x m = ((x ≡ 0) × (m ≡ pos 0)) ⊎ ((ten_to m ≤ x) × ((n : ℤ) → ten_to n ≤ x → n ≤ℤ m))

-- the place of a power that is given as n less s
pub place_is : (p : ℤ) (n s : ℕ) → s ≤ finest → pos n -ℤ pos s ≡ p → place p + s ≡ finest + n
place_is (pos k) n s fine e = omega (arith, ints)
place_is (negsuc k) n s fine e = omega (arith, ints)

-- a greater power has no lower place
pub place_mono : (p q : ℤ) → p ≤ℤ q → place p ≤ place q
place_mono (pos a) (pos b) h = omega (arith, ints)
place_mono (pos a) (negsuc b) h = absurd (omega (arith, ints))
place_mono (negsuc a) (pos b) h = omega (arith, ints)
place_mono (negsuc a) (negsuc b) h = omega (arith, ints)

-- a size below the power h + 1 has a magnitude of h at most
pub magnitude_le : (x : ℕ) (m : ℤ) (h : ℕ) → x < 10 ^ (finest + (h + 1)) → IsMagnitude x m → m ≤ℤ pos h
magnitude_le x m h small (inl (none, e)) = rw e (omega (arith, ints))
magnitude_le x m h small (inr (reached, greatest)) =
    by_lt_z (pos h) m
    (λ above.
    let next : pos (h + 1) ≤ℤ m = omega (arith, ints) in
    absurd (omega (arith, ten_mono (place (pos (h + 1))) (place m) (place_mono (pos (h + 1)) m next))))
    (λ below. below)

-- a size that reaches the power h has a magnitude of h at least
pub magnitude_ge : (x : ℕ) (m : ℤ) (h : ℕ) → 10 ^ (finest + h) ≤ x → IsMagnitude x m → pos h ≤ℤ m
magnitude_ge x m h large (inl (none, e)) = absurd (omega (arith, ten_pos (finest + h)))
magnitude_ge x m h large (inr (reached, greatest)) = greatest (pos h) large

-- the size of a decimal is below the power after its greatest one
pub size_lt : (d : Unsigned) → IsUnsigned d → size d < 10 ^ (finest + integer_count d)
size_lt d is =
    let same : finest - d.scale + length d.digits ≡ finest + integer_count d = omega (arith, finest_large, is.low_limit, is.integer_some) in
    rw (← same) (weighed_lt (finest - d.scale) d.digits is.below_ten)

-- the magnitude isn't above the greatest written power
pub magnitude_le-high : (d : Unsigned) (m : ℤ) → IsUnsigned d → IsMagnitude (size d) m → m ≤ℤ high d
magnitude_le-high d m is h =
    let same : integer_count d - 1 + 1 ≡ integer_count d = omega (arith, is.integer_some) in
    let bound = magnitude_le (size d) m (integer_count d - 1) (rw same (size_lt d is)) h in
    omega (arith, ints)

-- the place of a greater power is greater
place_next : (m n : ℤ) (k : ℕ) → pos k ≡ pos finest +ℤ m → m <ℤ n → k + 1 ≤ place n
place_next m (pos n) k e h = omega (arith, ints)
place_next m (negsuc n) k e h = omega (arith, ints)

-- a size between the powers at two neighbouring places has the lower one as its magnitude
pub IsMagnitude-at : (x : ℕ) (m : ℤ) (k : ℕ) → pos k ≡ pos finest +ℤ m → 10 ^ k ≤ x → x < 10 ^ (k + 1) → IsMagnitude x m
IsMagnitude-at x m k e reached below =
    inr (
      rw (same m k e) reached,
      λ n h. by_lt_z m n
          (λ above. absurd (omega (arith, ten_mono (k + 1) (place n) (place_next m n k e above))))
          (λ not_above. not_above),
    )
  where
    same : (m : ℤ) (k : ℕ) → pos k ≡ pos finest +ℤ m → place m ≡ k
    same (pos a) k e = omega (arith, ints)
    same (negsuc a) k e = omega (arith, ints)

-- the magnitude is the power of the first digit that is not 0
pub magnitude_first : (ds : List ℕ) (s f : ℕ) (m : ℤ) → AreDigits ds → s ≤ finest → s < length ds → ds ≡ replicate f 0 ++ drop f ds →
    f < length ds → get_or ds f 0 ≢ 0 → m ≡ (pos (length ds - s) -ℤ pos 1) -ℤ pos f → IsMagnitude (weighed (finest - s) ds) m
magnitude_first ds s f m digits fine some zeros within first e =
    let g = finest - s in
    let d = get_or ds f 0 in
    let rest = drop (f + 1) ds in
    let split : weighed g ds ≡ weighed g (d ∷ rest) =
    ap (weighed g) zeros ∙ weighed-append g (replicate f 0) (drop f ds)
    ∙ rw (weighed-replicate_zero (g + length (drop f ds)) f, drop_more ds f 0 within) (zero-add _) in
    let k = g + length rest in
    let at : pos k ≡ pos finest +ℤ m = omega (arith, ints, length-drop (f + 1) ds) in
    let one : 1 ≤ d = omega arith in
    let here : AreDigits (d ∷ rest) = rw (drop_more ds f 0 within) at (All-drop (λ d. d < 10) f ds digits) in
    let next : g + length (d ∷ rest) ≡ k + 1 = omega arith in
    rw split (IsMagnitude-at (weighed g (d ∷ rest)) m k at (omega (arith, mul-le-mul_left (10 ^ k) one)) (rw next at (weighed_lt g (d ∷ rest) here)))

-- digits that are all zeros have magnitude 0
pub magnitude_none : (ds : List ℕ) (s f : ℕ) → ds ≡ replicate f 0 ++ drop f ds → f ≡ length ds → IsMagnitude (weighed (finest - s) ds) (pos 0)
magnitude_none ds s f zeros all =
    let none : drop f ds ≡ [] = drop_all f ds (omega arith) in
    let whole : ds ≡ replicate f 0 ++ [] = zeros ∙ ap (λ l. replicate f 0 ++ l) none in
    inl (ap (weighed (finest - s)) whole ∙ rw (append-nil) (weighed-replicate_zero (finest - s) f), refl)

-- a decimal without some zeros at its end has the same size
pub weighed_trimmed : (ds ys : List ℕ) (s s' z : ℕ) → ds ≡ ys ++ replicate z 0 → s ≡ s' + z → s ≤ finest →
    weighed (finest - s') ys ≡ weighed (finest - s) ds
weighed_trimmed ds ys s s' z e f fine =
    let same : finest - s + z ≡ finest - s' = omega arith in
    let zeros : weighed (finest - s) (ys ++ replicate z 0) ≡ weighed 0 ys * 10 ^ (finest - s') =
    rw (zero-add z, same) at (weighed-zeros (finest - s) 0 z ys) in
    weighed_units (finest - s') ys ∙ sym zeros ∙ ap (weighed (finest - s)) (sym e)

-- the place of the magnitude
pub place-magnitude : (x : ℕ) → place (magnitude x) ≡ magnitude_place x
place-magnitude x = go (pos (magnitude_place x) -ℤ pos finest) refl
  where
    go : (p : ℤ) → pos (magnitude_place x) -ℤ pos finest ≡ p → place p ≡ magnitude_place x
    go (pos n) e = omega (arith, ints)
    go (negsuc n) e = omega (arith, ints)

-- a power whose place is not above a place p
pub place_below : (n : ℤ) (p : ℕ) → place n ≤ p → n ≤ℤ (pos p -ℤ pos finest)
place_below (pos n) p h = omega (arith, ints)
place_below (negsuc n) p h = omega (arith, ints)

-- the magnitude is what `IsMagnitude` says
pub magnitude_has : (x : ℕ) → IsMagnitude x (magnitude x)
magnitude_has x = elim (cases_eq x 0) [
  | inl none ↦ inl (none, zero_at x none)
  | inr some ↦
      let positive : 0 < x = omega arith in
      inr (
        rw (place-magnitude x) (magnitude_place_low x positive),
        λ n h. place_below n (magnitude_place x) (ten_below (place n) (magnitude_place x) x h (magnitude_place_high x positive)),
      )
]
  where
    zero_at : (x : ℕ) → x ≡ 0 → magnitude x ≡ pos 0
    zero_at x none = let e : magnitude_place x ≡ finest = ap magnitude_place none ∙ magnitude_place-zero in omega (arith, ints)

    ten_below : (i j x : ℕ) → 10 ^ i ≤ x → x < 10 ^ (j + 1) → i ≤ j
    ten_below i j x l h = elim (cases_lt j i) [
      | inl above ↦ absurd (omega (arith, ten_mono (j + 1) i (omega arith)))
      | inr not_above ↦ not_above
    ]

-- a size has one magnitude
pub magnitude_only : (x : ℕ) (m : ℤ) → IsMagnitude x m → m ≡ magnitude x
magnitude_only x m (inl (none, e)) = let f : magnitude_place x ≡ finest = ap magnitude_place none ∙ magnitude_place-zero in omega (arith, ints)
magnitude_only x m (inr (reached, greatest)) = both (magnitude_has x)
  where
    both : IsMagnitude x (magnitude x) → m ≡ magnitude x
    both (inl (none, e)) = absurd (omega (arith, ten_pos (place m)))
    both (inr (at, most)) = omega (arith, ints, greatest (magnitude x) at, most m reached)
