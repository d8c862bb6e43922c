-- Characters of more than one byte, byte by byte.
use Rattle.std.proofs.Common.{◌≡◌, ℕ, ◌+◌, ◌-◌, ◌*◌, ◌/◌, ◌%◌, ◌<◌, ◌≤◌, List, [], ◌∷◌, ◌++◌, append-nil}
use Rattle.std.proofs.Common.{append_assoc, ap, ◌∙◌, arith}
use Rattle.std.proofs.Common.{get_or, length, sym, take}
use Rattle.std.proofs.lemmas.Bool.Decides.{nat_tests}
use Rattle.std.proofs.lemmas.Str.{length-encode}
use Rattle.std.proofs.Math.Nat.{add-mul, mul-add, one-mul}
use Rattle.std.proofs.Math.Utf8.{encode}
use Rattle.std.specs.Char.{encode_utf8}
use Rattle.writeable.specs.Events.{digit_events, text_of}
use Rattle.writeable.proofs.DigitEvents.{digits_grow}

-- the bytes of a character
pub encode_two : (c : ℕ) → 128 ≤ c → c < 2048 → encode_utf8 c ≡ (192 + c / 64) ∷ (128 + c % 64) ∷ []
unfolding encode
encode_two c low high = grind (arith, nat_tests)

pub encode_three : (c : ℕ) → 2048 ≤ c → c < 65536 → encode_utf8 c ≡ (224 + c / 4096) ∷ (128 + c / 64 % 64) ∷ (128 + c % 64) ∷ []
unfolding encode
encode_three c low high = grind (arith, nat_tests)

pub encode_four : (c : ℕ) → 65536 ≤ c → encode_utf8 c ≡ (240 + c / 262144) ∷ (128 + c / 4096 % 64) ∷ (128 + c / 64 % 64) ∷ (128 + c % 64) ∷ []
unfolding encode
encode_four c low = grind (arith, nat_tests)

-- bytes one after another
pub behind_two : (old one new : List ℕ) (a b : ℕ) → one ≡ old ++ a ∷ [] → new ≡ one ++ b ∷ [] → new ≡ old ++ (a ∷ b ∷ [])
behind_two old one new a b e1 e2 = rw (e2, e1) (simp append_assoc)

pub behind_three : (old one more new : List ℕ) (a b c : ℕ) → one ≡ old ++ a ∷ [] → more ≡ one ++ b ∷ [] → new ≡ more ++ c ∷ [] →
    new ≡ old ++ (a ∷ b ∷ c ∷ [])
behind_three old one more new a b c e1 e2 e3 = rw (e3, e2, e1) (simp append_assoc)

pub behind_four : (old one more most new : List ℕ) (a b c d : ℕ) → one ≡ old ++ a ∷ [] → more ≡ one ++ b ∷ [] → most ≡ more ++ c ∷ [] →
    new ≡ most ++ d ∷ [] → new ≡ old ++ (a ∷ b ∷ c ∷ d ∷ [])
behind_four old one more most new a b c d e1 e2 e3 e4 = rw (e4, e3, e2, e1) (simp append_assoc)

-- no character has more bytes than one of a greater code
pub length-encode_le : (c d : ℕ) → c ≤ d → length (encode_utf8 c) ≤ length (encode_utf8 d)
length-encode_le c d le = rw (length-encode c, length-encode d) (grind (arith, nat_tests))

-- the room for the digits from an index on is that for one, and for those behind it
pub one_width : (count i width : ℕ) → i < count → (count - i) * width ≡ (count - (i + 1)) * width + width
one_width count i width less =
    let one : count - i ≡ (count - (i + 1)) + 1 = omega arith in
    rw one (omega (arith, add-mul (count - (i + 1)) 1 width, one-mul width))

-- the digits up to an index, and behind them the character of the next
pub wide_digits_grow : (old out new characters digits : List ℕ) (i : ℕ) → i < length digits →
    out ≡ old ++ text_of (digit_events characters (take i digits)) → new ≡ out ++ encode_utf8 (get_or characters (get_or digits i 0) 0) →
    new ≡ old ++ text_of (digit_events characters (take (i + 1) digits))
wide_digits_grow old out new characters digits i less e f =
    let c = get_or characters (get_or digits i 0) 0 in
    digits_grow old out new characters digits i less e (f ∙ ap (λ l. out ++ l) (sym (append-nil (encode_utf8 c))))

-- the room for digits with a separator before each is enough for some digits, and for the rest with their separators
pub first_fits : (len capacity n left all width separator : ℕ) → all ≡ n + left → len + all * (width + separator) ≤ capacity →
    len + n * width + left * (width + separator) ≤ capacity
first_fits len capacity n left all width separator e room =
    omega (arith, add-mul n left (width + separator), mul-add n width separator, rw e at room)

-- the same with a separator before these digits
pub next_fits : (len capacity n left all width separator : ℕ) → 0 < n → all ≡ n + left → len + all * (width + separator) ≤ capacity →
    len + separator + n * width + left * (width + separator) ≤ capacity
next_fits len capacity n left all width separator some e room =
    let one : n ≡ (n - 1) + 1 = omega arith in
    let more : n * separator ≡ (n - 1) * separator + separator =
    ap (λ k. k * separator) one ∙ omega (arith, add-mul (n - 1) 1 separator, one-mul separator) in
    omega (arith, add-mul n left (width + separator), mul-add n width separator, more, rw e at room)
