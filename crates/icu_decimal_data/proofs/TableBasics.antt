-- Small facts.
use Rattle.std.proofs.Common.{◌≡◌, ℕ, ◌+◌, ◌-◌, ◌*◌, ◌/◌, ◌%◌, ◌<◌, ◌≤◌, Bool, true, false, not, List, [], ◌++◌}
use Rattle.std.proofs.Common.{length, get_or, take, drop, slice_range, Result, Ok, Err, refl, ap, ◌∙◌, arith, inl, inr}
use Rattle.std.proofs.lemmas.Bool.{cases_lt}
use Rattle.std.proofs.lemmas.List.{get_or-drop, get_or-take, get_or_past, length-take, length-drop, drop-drop}
use Rattle.std.proofs.Math.Seq.{take-add}
use Rattle.icu_decimal_data.specs.TableReading.{unless, ◌>>=◌}

-- each item is below 256
abbrev pub IsBytes : List ℕ → Type 0
IsBytes bytes = (i : ℕ) → get_or bytes i 0 < 256

-- the bytes behind some are bytes
pub IsBytes-drop : (n : ℕ) (bytes : List ℕ) → IsBytes bytes → IsBytes (drop n bytes)
IsBytes-drop n bytes h i = rw get_or-drop (h (n + i))

-- the first of some bytes are bytes
pub IsBytes-take : (n : ℕ) (bytes : List ℕ) → IsBytes bytes → IsBytes (take n bytes)
IsBytes-take n bytes h i =
    elim (cases_lt i n) [
      | inl lt ↦ rw (get_or-take n bytes i 0 lt) (h i)
      | inr le ↦ rw (get_or_past (take n bytes) i 0 (omega (arith, length-take n bytes))) (omega arith)
    ]

-- a step that passes passed before, and then
pub bind_ok : {A B : Type 0} (r : Result A ℕ) (f : A → Result B ℕ) (y : B) → (r >>= f) ≡ Ok y → (x : A) × (r ≡ Ok x) × (f x ≡ Ok y)
bind_ok (Ok x) f y e = (x, refl, e)
bind_ok (Err d) f y e = absurd cc

-- a test that lets pass is false, and what follows passes
pub unless_ok : (b : Bool) (byte : ℕ) (rest : Result ℕ ℕ) (next : ℕ) → unless b byte rest ≡ Ok next → (b ≡ false) × (rest ≡ Ok next)
unless_ok true byte rest next e = absurd cc
unless_ok false byte rest next e = (refl, e)

abbrev as_table : ℕ → Result ℕ ℕ
as_table x = Ok x

-- two results are the same number
pub ok_is : (x y : ℕ) → as_table x ≡ as_table y → x ≡ y
ok_is x y e = cc

-- what is not false is true
pub not_false : (b : Bool) → not b ≡ false → b ≡ true
not_false true e = refl
not_false false e = absurd cc

-- nothing stands between a place and itself
pub nothing_at : (pool : List ℕ) (at : ℕ) → slice_range pool at at ≡ []
nothing_at pool at = let e : at - at ≡ 0 = omega arith in rw e refl

-- low and high bytes
pub low_is : (a b : ℕ) → a < 256 → (a + 256 * b) % 256 ≡ a
low_is a b h = omega arith

-- the high byte of a number of two bytes
pub high_is : (a b : ℕ) → a < 256 → (a + 256 * b) / 256 ≡ b
high_is a b h = omega arith

-- a number is its two bytes again
pub joined_is : (n : ℕ) → n % 256 + 256 * (n / 256) ≡ n
joined_is n = omega arith

-- two ranges side by side
pub range_split : (xs : List ℕ) (a b c : ℕ) → a ≤ b → b ≤ c → slice_range xs a c ≡ slice_range xs a b ++ slice_range xs b c
range_split xs a b c ab bc =
    let split : c - a ≡ (b - a) + (c - b) = omega arith in
    let skip : drop (b - a) (drop a xs) ≡ drop b xs = drop-drop (b - a) a xs ∙ ap (λ (j : ℕ). drop j xs) (omega arith) in
    ap (λ (j : ℕ). take j (drop a xs)) split ∙ take-add (b - a) (c - b) (drop a xs) ∙ ap (λ (r : List ℕ). slice_range xs a b ++ take (c - b) r) skip

-- a range inside is as long as its ends are apart
pub length-range : (xs : List ℕ) (a b : ℕ) → a ≤ b → b ≤ length xs → length (slice_range xs a b) ≡ b - a
length-range xs a b ab h = length-take (b - a) (drop a xs) ∙ omega (arith, length-drop a xs)
