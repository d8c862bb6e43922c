-- The events of digits, one by one.
use Rattle.std.proofs.Common.{◌≡◌, ℕ, ◌+◌, ◌<◌, List, [], ◌∷◌, ◌++◌, length, take, drop, get_or, sym, ap, ◌∙◌, refl, append-nil}
use Rattle.std.proofs.Common.{append_assoc, rules, arith, ◌≤◌, zero, suc}
use Rattle.std.proofs.lemmas.Grind.{common_steps}
use Rattle.std.proofs.lemmas.List.{drop_more, take_more, map-append, take-append-drop}
use Rattle.std.specs.Char.{encode_utf8}
use Rattle.writeable.specs.Events.{digit_events, text_of}
use Rattle.writeable.specs.Events.Event.{Char}
use Rattle.writeable.specs.Writes.{text_of-append}

-- the digits from an index on are the one at it and those after it
pub digit_events-drop : (characters digits : List ℕ) (i : ℕ) → i < length digits →
    digit_events characters (drop i digits) ≡ (Char (get_or characters (get_or digits i 0) 0) ∷ []) ++ digit_events characters (drop (i + 1) digits)
digit_events-drop characters digits i h = rw (drop_more digits i 0 h) refl

-- the digits up to an index, with the one at it, are those before it and this one
pub text_of-digits_more : (characters digits : List ℕ) (i : ℕ) → i < length digits →
    text_of (digit_events characters (take (i + 1) digits)) ≡ text_of (digit_events characters (take i digits))
    ++ encode_utf8 (get_or characters (get_or digits i 0) 0)
text_of-digits_more characters digits i h =
    let d = get_or digits i 0 in
    ap (λ l. text_of (digit_events characters l)) (take_more digits i 0 h)
    ∙ ap text_of (map-append (λ d. Char (get_or characters d 0)) (take i digits) (d ∷ []))
    ∙ text_of-append (digit_events characters (take i digits)) (Char (get_or characters d 0) ∷ [])
    ∙ ap (λ l. text_of (digit_events characters (take i digits)) ++ l) (append-nil (encode_utf8 (get_or characters d 0)))

-- the text of digits is that of the digits before an index and of those from it on
text_of-digits_split : (characters digits : List ℕ) (i : ℕ) →
    text_of (digit_events characters (take i digits)) ++ text_of (digit_events characters (drop i digits)) ≡ text_of (digit_events characters digits)
text_of-digits_split characters digits i =
    sym (text_of-append (digit_events characters (take i digits)) (digit_events characters (drop i digits)))
    ∙ ap text_of (sym (map-append (λ d. Char (get_or characters d 0)) (take i digits) (drop i digits)))
    ∙ ap (λ l. text_of (digit_events characters l)) (take-append-drop i digits)

-- an ASCII character is one byte
encode_ascii : (c : ℕ) → c < 128 → encode_utf8 c ≡ c ∷ []
encode_ascii c h = search (rules, common_steps)

-- after the text of the digits before an index, the character of the next digit makes that of one digit more
pub digits_grow : (old out new characters digits : List ℕ) (i : ℕ) → i < length digits →
    out ≡ old ++ text_of (digit_events characters (take i digits)) → new ≡ out ++ text_of (Char (get_or characters (get_or digits i 0) 0) ∷ []) →
    new ≡ old ++ text_of (digit_events characters (take (i + 1) digits))
digits_grow old out new characters digits i h e f =
    let c = get_or characters (get_or digits i 0) 0 in
    f ∙ ap (λ l. out ++ l) (append-nil (encode_utf8 c)) ∙ ap (λ l. l ++ encode_utf8 c) e
    ∙ append_assoc old (text_of (digit_events characters (take i digits))) (encode_utf8 c)
    ∙ ap (λ l. old ++ l) (sym (text_of-digits_more characters digits i h))

-- the same where the character is ASCII and so one byte
pub ascii_digits_grow : (old out new characters digits : List ℕ) (i : ℕ) → i < length digits → get_or characters (get_or digits i 0) 0 < 128 →
    out ≡ old ++ text_of (digit_events characters (take i digits)) → new ≡ out ++ get_or characters (get_or digits i 0) 0 ∷ [] →
    new ≡ old ++ text_of (digit_events characters (take (i + 1) digits))
ascii_digits_grow old out new characters digits i h small e f =
    let c = get_or characters (get_or digits i 0) 0 in
    digits_grow old out new characters digits i h e (f ∙ ap (λ l. out ++ l) (sym (append-nil (encode_utf8 c) ∙ encode_ascii c small)))

-- the text of the digits before an index and that of those from it on make that of all digits
pub digits_join : (old mid new characters digits : List ℕ) (i : ℕ) → mid ≡ old ++ text_of (digit_events characters (take i digits)) →
    new ≡ mid ++ text_of (digit_events characters (drop i digits)) → new ≡ old ++ text_of (digit_events characters digits)
digits_join old mid new characters digits i e f =
    f ∙ ap (λ l. l ++ text_of (digit_events characters (drop i digits))) e
    ∙ append_assoc old (text_of (digit_events characters (take i digits))) (text_of (digit_events characters (drop i digits)))
    ∙ ap (λ l. old ++ l) (text_of-digits_split characters digits i)

-- a list of length one is its first item
pub one_byte : (bytes : List ℕ) → length bytes ≡ 1 → bytes ≡ get_or bytes 0 0 ∷ []
one_byte [] e = absurd (omega arith)
one_byte (b ∷ []) e = refl
one_byte (b ∷ c ∷ bytes) e = absurd (omega arith)

-- the text of one ASCII character is its byte
pub one_ascii_byte : (bytes : List ℕ) → length bytes ≡ 1 → get_or bytes 0 0 < 128 → text_of (Char (get_or bytes 0 0) ∷ []) ≡ bytes
one_ascii_byte bytes one small =
    append-nil (encode_utf8 (get_or bytes 0 0)) ∙ encode_ascii (get_or bytes 0 0) small ∙ sym (one_byte bytes one)

-- the first of four digits, three at most, are written by their characters, each one byte
few_bytes : (characters digits : List ℕ) (n : ℕ) → 4 ≤ length digits → n ≤ 3 →
    ((i : ℕ) → i < 4 → get_or characters (get_or digits i 0) 0 < 128)
    → take n (get_or characters (get_or digits 0 0) 0 ∷ get_or characters (get_or digits 1 0) 0 ∷ get_or characters (get_or digits 2 0) 0
    ∷ get_or characters (get_or digits 3 0) 0 ∷ []) ≡ text_of (digit_events characters (take n digits))
few_bytes characters [] n long few small = absurd (omega arith)
few_bytes characters (a ∷ digits) zero long few small = refl
few_bytes characters (a ∷ []) (suc n) long few small = absurd (omega arith)
few_bytes characters (a ∷ b ∷ digits) (suc zero) long few small = rw (encode_ascii (get_or characters a 0) (small 0 (omega arith))) refl
few_bytes characters (a ∷ b ∷ []) (suc (suc n)) long few small = absurd (omega arith)
few_bytes characters (a ∷ b ∷ c ∷ digits) (suc (suc zero)) long few small =
    rw (encode_ascii (get_or characters a 0) (small 0 (omega arith)), encode_ascii (get_or characters b 0) (small 1 (omega arith))) refl
few_bytes characters (a ∷ b ∷ c ∷ digits) (suc (suc (suc zero))) long few small =
    rw (
      encode_ascii (get_or characters a 0) (small 0 (omega arith)),
      encode_ascii (get_or characters b 0) (small 1 (omega arith)),
      encode_ascii (get_or characters c 0) (small 2 (omega arith)),
    ) refl
few_bytes characters (a ∷ b ∷ c ∷ digits) (suc (suc (suc (suc n)))) long few small = absurd (omega arith)

-- what is kept of a text and some bytes behind it
take_behind : (n : ℕ) (xs ys : List ℕ) → take (length xs + n) (xs ++ ys) ≡ xs ++ take n ys
take_behind n [] ys =
    let e : 0 + n ≡ n = omega arith in
    ap (λ (k : ℕ). take k ys) e
take_behind n (x ∷ xs) ys =
    let e : suc (length xs) + n ≡ suc (length xs + n) = omega arith in
    ap (λ (k : ℕ). take k (x ∷ (xs ++ ys))) e ∙ ap (λ l. x ∷ l) (take_behind n xs ys)

-- four bytes behind a text, of which the first n are kept
four_behind : (old out1 out2 out3 out4 new : List ℕ) (a b c d n : ℕ) → out1 ≡ old ++ a ∷ [] → out2 ≡ out1 ++ b ∷ [] →
    out3 ≡ out2 ++ c ∷ [] → out4 ≡ out3 ++ d ∷ [] → new ≡ take (length old + n) out4 → new ≡ old ++ take n (a ∷ b ∷ c ∷ d ∷ [])
four_behind old out1 out2 out3 out4 new a b c d n e1 e2 e3 e4 e =
    let whole : out4 ≡ old ++ (a ∷ b ∷ c ∷ d ∷ []) = rw (e4, e3, e2, e1) (simp append_assoc) in
    e ∙ ap (take (length old + n)) whole ∙ take_behind n old (a ∷ b ∷ c ∷ d ∷ [])

-- four digits written behind a text and cut back to the first n are the first n
pub first_digits : (old out1 out2 out3 out4 new characters digits : List ℕ) (n : ℕ) → 4 ≤ length digits → n ≤ 3 →
    ((i : ℕ) → i < 4 → get_or characters (get_or digits i 0) 0 < 128) → out1 ≡ old ++ get_or characters (get_or digits 0 0) 0 ∷ [] →
    out2 ≡ out1 ++ get_or characters (get_or digits 1 0) 0 ∷ [] → out3 ≡ out2 ++ get_or characters (get_or digits 2 0) 0 ∷ [] →
    out4 ≡ out3 ++ get_or characters (get_or digits 3 0) 0 ∷ [] → new ≡ take (length old + n) out4 →
    new ≡ old ++ text_of (digit_events characters (take n digits))
first_digits old out1 out2 out3 out4 new characters digits n long few small e1 e2 e3 e4 e =
    four_behind old out1 out2 out3 out4 new _ _ _ _ n e1 e2 e3 e4 e ∙ ap (λ l. old ++ l) (few_bytes characters digits n long few small)
