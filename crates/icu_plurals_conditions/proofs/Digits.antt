-- Numbers of at most eighteen digits.
use Rattle.std.proofs.Common.{◌≡◌, ℕ, suc, ◌+◌, ◌*◌, ◌-◌, ◌^◌, ◌<◌, ◌≤◌, true, List, [], ◌∷◌, length, drop, get_or}
use Rattle.std.proofs.Common.{IsTrue, sym, ap, ◌∙◌, arith}
use Rattle.std.specs.List.{list_all}
use Rattle.std.proofs.Math.Nat.{pow-suc, pow-le-pow_right}
use Rattle.std.proofs.Math.Seq.{drop-cons}
use Rattle.std.proofs.lemmas.Grind.{common_steps}
use Rattle.icu_plurals_conditions.specs.Tokens.{is_digit, decimal_from}

-- what digits complete is no smaller
pub decimal_from-ge : (n : ℕ) (bs : List ℕ) → n ≤ decimal_from n bs
decimal_from-ge n [] = omega arith
decimal_from-ge n (b ∷ bs) = omega (arith, decimal_from-ge (n * 10 + (b - 48)) bs)

is_digit-low : (b : ℕ) → is_digit b ≡ true → 48 ≤ b
is_digit-low b h = grind (arith, common_steps)

is_digit-high : (b : ℕ) → is_digit b ≡ true → b ≤ 57
is_digit-high b h = grind (arith, common_steps)

all-head : (b : ℕ) (bs : List ℕ) → list_all is_digit (b ∷ bs) ≡ true → is_digit b ≡ true
all-head b bs h = grind (arith, common_steps)

all-tail : (b : ℕ) (bs : List ℕ) → list_all is_digit (b ∷ bs) ≡ true → list_all is_digit bs ≡ true
all-tail b bs h = grind (arith, common_steps)

-- digits complete a number below the next one followed by as many zeros
pub decimal_from-lt : (n : ℕ) (bs : List ℕ) → list_all is_digit bs ≡ true → decimal_from n bs < (n + 1) * 10 ^ length bs
decimal_from-lt n [] h = grind (arith, common_steps)
decimal_from-lt n (b ∷ bs) h =
    let high : b ≤ 57 = is_digit-high b (all-head b bs h) in
    let rest : decimal_from (n * 10 + (b - 48)) bs < (n * 10 + (b - 48) + 1) * 10 ^ length bs = decimal_from-lt (n * 10 + (b - 48)) bs (all-tail b bs h) in
    let scale : (n * 10 + (b - 48) + 1) * 10 ^ length bs ≤ (n * 10 + 10) * 10 ^ length bs =
    times (n * 10 + (b - 48) + 1) (n * 10 + 10) (10 ^ length bs) (omega arith) in
    let power : 10 ^ suc (length bs) ≡ 10 ^ length bs * 10 = pow-suc 10 (length bs) in
    let whole : (n * 10 + 10) * 10 ^ length bs ≡ (n + 1) * 10 ^ suc (length bs) = rw power (grind arith) in
    omega (arith, rest, scale, whole)
  where
    times : (a b c : ℕ) → a ≤ b → a * c ≤ b * c
    times a b c h = grind (arith, common_steps)

-- eighteen digits are below 10^18
pub decimal-eighteen : (bs : List ℕ) → IsTrue (list_all is_digit bs) → length bs ≤ 18 → decimal_from 0 bs < 10 ^ 18
decimal-eighteen bs h l =
    let low : decimal_from 0 bs < (0 + 1) * 10 ^ length bs = decimal_from-lt 0 bs h in
    let high : 10 ^ length bs ≤ 10 ^ 18 = pow-le-pow_right (omega arith) l in
    omega (arith, low, high)

-- the number so far, with the next digit, is still below 10^18
pub next_digit : (n i : ℕ) (bs : List ℕ) → i < length bs → decimal_from n (drop i bs) ≡ decimal_from 0 bs → IsTrue (list_all is_digit bs) →
    length bs ≤ 18 → n * 10 + (get_or bs i 0 - 48) < 10 ^ 18
next_digit n i bs lt e h l =
    let cut : drop i bs ≡ get_or bs i 0 ∷ drop (suc i) bs = drop-cons bs i 0 lt in
    let low : n * 10 + (get_or bs i 0 - 48) ≤ decimal_from (n * 10 + (get_or bs i 0 - 48)) (drop (suc i) bs) = decimal_from-ge _ (drop (suc i) bs) in
    let here : decimal_from (n * 10 + (get_or bs i 0 - 48)) (drop (suc i) bs) ≡ decimal_from 0 bs = ap (decimal_from n) (sym cut) ∙ e in
    omega (arith, low, here, decimal-eighteen bs h l)
