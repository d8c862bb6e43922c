-- What is written of symbols is read, and what is read is written.
use Rattle.std.proofs.Common.{◌≡◌, ℕ, zero, suc, ◌+◌, ◌-◌, ◌≤◌, List, [], ◌∷◌, ◌++◌, length, take, drop, map, slice_index}
use Rattle.std.proofs.Common.{slice_range, get_or, refl, arith, ap, sym, ◌∙◌, append_assoc}
use Rattle.std.specs.Prelude.{sum}
use Rattle.std.specs.List.{concat}
use Rattle.std.proofs.lemmas.List.{take-append-drop, length-take, length-drop, length-append, length-map, map-append, take_at, drop_at, drop-drop, take_all}
use Rattle.std.proofs.lemmas.List.{get_or_at, drop_more}
use Rattle.std.proofs.lemmas.List.Concat.{concat_is, length-flat_map}
use Rattle.std.proofs.lemmas.List.Folds.{concat-append}
use Rattle.std.proofs.lemmas.List.Sums.{sum-map}
use Rattle.std.proofs.Math.Seq.{take-add}
use Rattle.icu_decimal_symbols.specs.Symbols.{SymbolTexts, texts_of}
use Rattle.icu_decimal_symbols.specs.SymbolBytes.{packed, symbol_bytes, texts_in, text_start, text_at}
use Rattle.icu_decimal_symbols.proofs.TextStarts.{start_more, start_mono}

-- n texts from text k on
abbrev pub texts_from : List ℕ → ℕ → ℕ → List (List ℕ)
texts_from bytes k zero = []
texts_from bytes k (suc n) = text_at bytes k ∷ texts_from bytes (k + 1) n

-- ---- what is read is written

concat-texts : (bytes : List ℕ) (k n : ℕ) → concat (texts_from bytes k n) ≡ slice_range bytes (text_start bytes k) (text_start bytes (k + n))
concat-texts bytes k zero = let e : k + 0 ≡ k = omega arith in let f : text_start bytes k - text_start bytes k ≡ 0 = omega arith in rw e (rw f refl)
concat-texts bytes k (suc n) =
    let a = text_start bytes k in
    let b = text_start bytes (k + 1) in
    let c = text_start bytes (k + suc n) in
    let ab : a ≤ b = start_mono bytes k (k + 1) (omega arith) in
    let bc : b ≤ c = start_mono bytes (k + 1) (k + suc n) (omega arith) in
    let move : (k + 1) + n ≡ k + suc n = omega arith in
    let rest : concat (texts_from bytes (k + 1) n) ≡ slice_range bytes b c =
    concat-texts bytes (k + 1) n ∙ ap (λ (j : ℕ). slice_range bytes b (text_start bytes j)) move in
    let split : c - a ≡ (b - a) + (c - b) = omega arith in
    let skip : drop (b - a) (drop a bytes) ≡ drop b bytes = drop-drop (b - a) a bytes ∙ ap (λ (j : ℕ). drop j bytes) (omega arith) in
    let whole : slice_range bytes a c ≡ slice_range bytes a b ++ slice_range bytes b c =
    ap (λ (j : ℕ). take j (drop a bytes)) split ∙ take-add (b - a) (c - b) (drop a bytes)
    ∙ ap (λ (r : List ℕ). slice_range bytes a b ++ take (c - b) r) skip in
    ap (λ (r : List ℕ). slice_range bytes a b ++ r) rest ∙ sym whole

-- the lengths that are written are those of the texts
pub lengths-texts : (bytes : List ℕ) (k n : ℕ) → k + n ≤ length bytes → text_start bytes (k + n) ≤ length bytes →
    map length (texts_from bytes k n) ≡ take n (drop k bytes)
lengths-texts bytes k zero h e = refl
lengths-texts bytes k (suc n) h e =
    let move : (k + 1) + n ≡ k + suc n = omega arith in
    let rest : map length (texts_from bytes (k + 1) n) ≡ take n (drop (k + 1) bytes) = lengths-texts bytes (k + 1) n (omega arith) (rw move e) in
    let inside : text_start bytes (k + 1) ≤ length bytes = omega (arith, start_mono bytes (k + 1) (k + suc n) (omega arith)) in
    let one : length (text_at bytes k) ≡ slice_index bytes k =
    length-take (text_start bytes (k + 1) - text_start bytes k) (drop (text_start bytes k) bytes)
    ∙ omega (arith, length-drop (text_start bytes k) bytes, start_more bytes k) in
    rw (drop_more bytes k 0 (omega arith), one, rest) refl

-- bytes are written of the texts that they hold
pub written : (bytes : List ℕ) → 7 ≤ length bytes → length bytes ≡ text_start bytes 7 → symbol_bytes (texts_in bytes) ≡ bytes
written bytes h e =
    let lengths : map length (texts_from bytes 0 7) ≡ take 7 bytes = lengths-texts bytes 0 7 (omega arith) (omega arith) in
    let bodies : concat (texts_from bytes 0 7) ≡ drop 7 bytes =
    concat-texts bytes 0 7 ∙ take_all (text_start bytes 7 - 7) (drop 7 bytes) (omega (arith, length-drop 7 bytes)) in
    let both : map length (texts_from bytes 0 7) ++ concat (texts_from bytes 0 7) ≡ bytes =
    ap (λ (l : List ℕ). l ++ concat (texts_from bytes 0 7)) lengths ∙ ap (λ (r : List ℕ). take 7 bytes ++ r) bodies ∙ take-append-drop 7 bytes in
    both

-- ---- what is written is read

length_concat : (xs : List (List ℕ)) → length (concat xs) ≡ sum (map length xs)
length_concat xs = ap length (concat_is xs) ∙ length-flat_map (λ x. x) xs ∙ sym (sum-map length xs)

-- where a text begins in the packed form
start_packed : (front back : List (List ℕ)) → text_start (packed (front ++ back)) (length front) ≡ 7 + sum (map length front)
start_packed front back =
    let e : packed (front ++ back) ≡ map length front ++ (map length back ++ concat (front ++ back)) =
    ap (λ (r : List ℕ). r ++ concat (front ++ back)) (map-append length front back)
    ∙ append_assoc (map length front) (map length back) (concat (front ++ back)) in
    let t : take (length front) (packed (front ++ back)) ≡ map length front =
    ap (λ (r : List ℕ). take (length front) r) e ∙ take_at (map length front) (map length back ++ concat (front ++ back)) (length front)
    (length-map front length) in
    ap (λ (r : List ℕ). 7 + sum r) t

-- the packed form from the first of some texts on
rest_packed : (front back : List (List ℕ)) → length (front ++ back) ≡ 7 → drop (7 + sum (map length front)) (packed (front ++ back)) ≡ concat back
rest_packed front back seven =
    let all = front ++ back in
    let e : packed all ≡ (map length all ++ concat front) ++ concat back =
    ap (λ (r : List ℕ). map length all ++ r) (concat-append front back) ∙ sym (append_assoc (map length all) (concat front) (concat back)) in
    let len : length (map length all ++ concat front) ≡ 7 + sum (map length front) =
    length-append (map length all) (concat front) ∙ omega (arith, length-map all length, length_concat front) in
    ap (λ (r : List ℕ). drop (7 + sum (map length front)) r) e ∙ drop_at (map length all ++ concat front) (concat back) (7 + sum (map length front)) len

push : (front : List (List ℕ)) (t : List ℕ) (back : List (List ℕ)) → (front ++ t ∷ []) ++ back ≡ front ++ t ∷ back
push front t back = append_assoc front (t ∷ []) back

text_packed : (front : List (List ℕ)) (t : List ℕ) (back : List (List ℕ)) → length (front ++ t ∷ back) ≡ 7 →
    text_at (packed (front ++ t ∷ back)) (length front) ≡ t
text_packed front t back seven =
    let all = front ++ t ∷ back in
    let a : text_start (packed all) (length front) ≡ 7 + sum (map length front) = start_packed front (t ∷ back) in
    let e : packed all ≡ map length front ++ (map length (t ∷ back) ++ concat all) =
    ap (λ (r : List ℕ). r ++ concat all) (map-append length front (t ∷ back))
    ∙ append_assoc (map length front) (map length (t ∷ back)) (concat all) in
    let here : slice_index (packed all) (length front) ≡ length t =
    ap (λ (r : List ℕ). get_or r (length front) 0) e
    ∙ get_or_at (map length front) (length t) (map length back ++ concat all) 0 (length front) (length-map front length) in
    let b : text_start (packed all) (length front + 1) - text_start (packed all) (length front) ≡ length t =
    omega (arith, start_more (packed all) (length front), here) in
    ap (λ (n : ℕ). take n (drop (text_start (packed all) (length front)) (packed all))) b
    ∙ ap (λ (n : ℕ). take (length t) (drop n (packed all))) a
    ∙ ap (λ (r : List ℕ). take (length t) r) (rest_packed front (t ∷ back) seven)
    ∙ take_at t (concat back) (length t) refl

-- texts stand in what is written of them
pub texts_packed : (front back : List (List ℕ)) → length (front ++ back) ≡ 7 → texts_from (packed (front ++ back)) (length front) (length back) ≡ back
texts_packed front [] seven = refl
texts_packed front (t ∷ back) seven =
    let same : packed ((front ++ t ∷ []) ++ back) ≡ packed (front ++ t ∷ back) = ap packed (push front t back) in
    let len : length (front ++ t ∷ []) ≡ length front + 1 = length-append front (t ∷ []) ∙ omega arith in
    let rest : texts_from (packed (front ++ t ∷ back)) (length front + 1) (length back) ≡ back =
    ap (λ (n : ℕ). texts_from (packed (front ++ t ∷ back)) n (length back)) (sym len)
    ∙ ap (λ (p : List ℕ). texts_from p (length (front ++ t ∷ [])) (length back)) (sym same)
    ∙ texts_packed (front ++ t ∷ []) back (ap length (push front t back) ∙ seven) in
    let one : text_at (packed (front ++ t ∷ back)) (length front) ≡ t = text_packed front t back seven in
    ap (λ (r : List (List ℕ)). text_at (packed (front ++ t ∷ back)) (length front) ∷ r) rest ∙ ap (λ (x : List ℕ). x ∷ back) one

-- each text is read back
pub read_back : (s : SymbolTexts) → texts_in (symbol_bytes s) ≡ s
read_back s =
    let e : texts_from (symbol_bytes s) 0 7 ≡ texts_of s = texts_packed [] (texts_of s) refl in
    let p = texts_in (symbol_bytes s) in
    let e0 : p.minus_sign_prefix ≡ s.minus_sign_prefix = cc in
    let e1 : p.minus_sign_suffix ≡ s.minus_sign_suffix = cc in
    let e2 : p.plus_sign_prefix ≡ s.plus_sign_prefix = cc in
    let e3 : p.plus_sign_suffix ≡ s.plus_sign_suffix = cc in
    let e4 : p.decimal_separator ≡ s.decimal_separator = cc in
    let e5 : p.grouping_separator ≡ s.grouping_separator = cc in
    let e6 : p.numsys ≡ s.numsys = cc in
    λ i. record {
      minus_sign_prefix = e0 i;
      minus_sign_suffix = e1 i;
      plus_sign_prefix = e2 i;
      plus_sign_suffix = e3 i;
      decimal_separator =
          e4 i;
      grouping_separator = e5 i;
      numsys = e6 i;
    }

-- how long the bytes of texts are
pub length-packed : (s : SymbolTexts) → length (symbol_bytes s) ≡ 7 + sum (map length (texts_of s))
length-packed s = length-append (map length (texts_of s)) (concat (texts_of s)) ∙ omega (arith, length_concat (texts_of s))
