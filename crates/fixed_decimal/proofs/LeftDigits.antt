-- Lists of digits as rounding leaves them, and the zeros at their end.
use Rattle.std.proofs.Common.{◌≡◌, ◌≢◌, ℕ, ◌+◌, ◌-◌, ◌<◌, ◌≤◌, List, [], ◌++◌, Option, Some, None, false, length, take}
use Rattle.std.proofs.Common.{get_or, replicate, length-append, refl, sym, ◌∙◌, ap, arith}
use Rattle.std.specs.Option.{is_some}
use Rattle.std.proofs.lemmas.List.{length-take-le, length-replicate, append-nil, append_assoc, replicate-append-replicate, take-take, get_or-take}
use Rattle.fixed_decimal.specs.RoundedDigits.{digits_left}

-- an option that isn't Some is None
pub not_some : (o : Option ℕ) → is_some o ≡ false → o ≡ None
not_some None e = refl
not_some (Some d) e = absurd (cc)

-- n zeros behind a list, written as a and b zeros
pub zeros_behind : (front : List ℕ) (a b n : ℕ) → n ≡ a + b → front ++ replicate n 0 ≡ (front ++ replicate a 0) ++ replicate b 0
zeros_behind front a b n e = sym (append_assoc front (replicate a 0) (replicate b 0)
    ∙ ap (λ l. front ++ l) (replicate-append-replicate a b 0 ∙ ap (λ k. replicate k 0) (sym e)))

-- without a raised digit and zeros, the first digits are left
pub left_alone : (ds : List ℕ) (k : ℕ) → digits_left ds k None 0 ≡ take k ds
left_alone ds k = append-nil (take k ds ++ []) ∙ append-nil (take k ds)

-- without a raised digit, the first digits and the zeros are left
pub left_length : (ds : List ℕ) (k z : ℕ) → k ≤ length ds → length (digits_left ds k None z) ≡ k + z
left_length ds k z within = omega (
  arith,
  ap length (append-nil (take k ds)),
  length-append (take k ds ++ []) (replicate z 0),
  length-take-le k ds within,
  length-replicate {A = ℕ} z 0,
)

-- zeros at the end of the first digits and the zeros behind them are t zeros behind fewer digits
pub zeros_cut : (ds : List ℕ) (k left z t : ℕ) → k ≤ length ds → left ≤ length (take k ds) →
    take k ds ≡ take left (take k ds) ++ replicate (length (take k ds) - left) 0 → t ≡ k - left + z →
    digits_left ds k None z ≡ digits_left ds left None 0 ++ replicate t 0
zeros_cut ds k left z t within below zeros e =
    let le : left ≤ k = omega (arith, length-take-le k ds within) in
    let l : length (take k ds) - left ≡ k - left = omega (arith, length-take-le k ds within) in
    let front : take k ds ≡ take left ds ++ replicate (k - left) 0 =
    zeros ∙ ap (λ xs. xs ++ replicate (length (take k ds) - left) 0) (take-take left k ds le) ∙ ap (λ n. take left ds ++ replicate n 0) l in
    ap (λ xs. xs ++ replicate z 0) (append-nil (take k ds) ∙ front) ∙ sym (zeros_behind (take left ds) (k - left) z t e)
    ∙ ap (λ xs. xs ++ replicate t 0) (sym (left_alone ds left))

-- where the last of the first digits isn't 0, the last digit that is left isn't
pub last_left : (ds : List ℕ) (k left : ℕ) → k ≤ length ds → left ≤ length (take k ds) → 0 < left → get_or (take k ds) (left - 1) 0 ≢ 0 →
    get_or (digits_left ds left None 0) (length (digits_left ds left None 0) - 1) 0 ≢ 0
last_left ds k left within below some last =
    let le : left ≤ k = omega (arith, length-take-le k ds within) in
    let l : length (take left ds) ≡ left = length-take-le left ds (omega arith) in
    rw (left_alone ds left, l, get_or-take left ds (left - 1) 0 (omega arith)) (rw (get_or-take k ds (left - 1) 0 (omega arith)) at last)
