-- Where the texts of symbols begin in their bytes.
use Rattle.std.proofs.Common.{◌≡◌, ℕ, zero, suc, ◌+◌, ◌≤◌, List, [], ◌∷◌, take, slice_index, arith, refl, ap, add-one}
use Rattle.std.specs.Prelude.{sum}
use Rattle.std.proofs.lemmas.List.{take-take}
use Rattle.std.proofs.lemmas.List.Sums.{sum_by-cons, sum_by-take-le}
use Rattle.icu_decimal_symbols.specs.SymbolBytes.{text_start}

sum_suc : (xs : List ℕ) (i : ℕ) → sum (take (suc i) xs) ≡ sum (take i xs) + slice_index xs i
sum_suc [] zero = refl
sum_suc [] (suc i) = refl
sum_suc (x ∷ xs) zero = omega arith
sum_suc (x ∷ xs) (suc i) = omega (arith, sum_suc xs i, sum_by-cons (λ n. n) x (take (suc i) xs), sum_by-cons (λ n. n) x (take i xs))

-- the sum of one more length
pub sum_more : (xs : List ℕ) (i : ℕ) → sum (take (i + 1) xs) ≡ sum (take i xs) + slice_index xs i
sum_more xs i = rw add-one (sum_suc xs i)

-- where the next text starts
pub start_more : (bytes : List ℕ) (index : ℕ) → text_start bytes (index + 1) ≡ text_start bytes index + slice_index bytes index
start_more bytes index = omega (arith, sum_more bytes index)

-- a later text starts no earlier
pub start_mono : (bytes : List ℕ) (i j : ℕ) → i ≤ j → text_start bytes i ≤ text_start bytes j
start_mono bytes i j le = omega (arith, ap sum (take-take i j bytes le), sum_by-take-le (λ n. n) (take j bytes) i)
