-- Runs of letters and of digits, spaces and single signs, from the front of a text on.
-- The definition `spelled_from` goes from the end of a text: `onto` puts each byte onto what the bytes after it spell. The lexer counts from the front
-- (`prefix_len`). The inductions over the text lead from one to the other: a run of n + 1 bytes is one byte put onto a run of n (`word_run`,
-- `digits_run`), and where the next byte isn't of the class the run ends. For that no word and no digits may begin just behind the byte
-- (`NoRun`). The next byte alone isn't enough, since it may be a space, which is nothing; so it is shown that what follows begins at its own
-- place or later (`From`, `spelled_starts`). Case splits on tests have them as variables first (`onto_from`, `onto_no_word`, `pair_no`).
use Rattle.std.proofs.Common.{◌≡◌, ℕ, suc, ◌+◌, ◌<◌, ◌≤◌, ◌==◌, ◌&&◌, Bool, true, false, cond, List, [], ◌∷◌, take, drop}
use Rattle.std.proofs.Common.{refl, ap, subst, ◌∙◌, arith}
use Rattle.std.specs.List.{prefix_len}
use Rattle.std.proofs.lemmas.Bool.Decides.{nat_tests}
use Rattle.icu_plurals_conditions.specs.Tokens.{SpelledToken, word, digits, sign, differs, dots, is_letter, is_digit, is_space, onto_word, onto_digits, onto}
use Rattle.icu_plurals_conditions.specs.Tokens.{spelled_from}

-- the classes of bytes exclude each other, and none of them has a byte that begins `..` or `!=`: a letter isn't a space
pub letter-not_space : (b : ℕ) → is_letter b ≡ true → is_space b ≡ false
letter-not_space b h = grind (arith, nat_tests)

-- a letter isn't a full stop
pub letter-not_dot : (b : ℕ) → is_letter b ≡ true → (b == 46) ≡ false
letter-not_dot b h = grind (arith, nat_tests)

-- a letter isn't an exclamation mark
pub letter-not_mark : (b : ℕ) → is_letter b ≡ true → (b == 33) ≡ false
letter-not_mark b h = grind (arith, nat_tests)

-- a digit isn't a space
pub digit-not_space : (b : ℕ) → is_digit b ≡ true → is_space b ≡ false
digit-not_space b h = grind (arith, nat_tests)

-- a digit isn't a letter
pub digit-not_letter : (b : ℕ) → is_digit b ≡ true → is_letter b ≡ false
digit-not_letter b h = grind (arith, nat_tests)

-- a digit isn't a full stop
pub digit-not_dot : (b : ℕ) → is_digit b ≡ true → (b == 46) ≡ false
digit-not_dot b h = grind (arith, nat_tests)

-- a digit isn't an exclamation mark
pub digit-not_mark : (b : ℕ) → is_digit b ≡ true → (b == 33) ≡ false
digit-not_mark b h = grind (arith, nat_tests)

-- a space isn't a full stop
pub space-not_dot : (b : ℕ) → is_space b ≡ true → (b == 46) ≡ false
space-not_dot b h = grind (arith, nat_tests)

-- a space isn't an exclamation mark
pub space-not_mark : (b : ℕ) → is_space b ≡ true → (b == 33) ≡ false
space-not_mark b h = grind (arith, nat_tests)

-- a byte that begins neither `..` nor `!=` goes onto what follows it
pub onto_rest : (p b : ℕ) (bs : List ℕ) → (b == 46) ≡ false → (b == 33) ≡ false → spelled_from p (b ∷ bs) ≡ onto p b (spelled_from (p + 1) bs)
unfolding spelled_from
onto_rest p b [] h k = refl
onto_rest p b (c ∷ bs) h k = simp (h, k)

onto-letter : (p b : ℕ) (ts : List (ℕ × SpelledToken)) → is_letter b ≡ true → onto p b ts ≡ onto_word p b ts
onto-letter p b ts h = simp (letter-not_space b h, h)

onto-digit : (p b : ℕ) (ts : List (ℕ × SpelledToken)) → is_digit b ≡ true → onto p b ts ≡ onto_digits p b ts
onto-digit p b ts h = simp (digit-not_space b h, digit-not_letter b h, h)

-- the first place is q or after it
abbrev From : ℕ → List (ℕ × SpelledToken) → Type 0
From q [] = Unit {0}
From q (t ∷ ts) = q ≤ t.0

abbrev is_word : SpelledToken → Bool
is_word (word w) = true
is_word _ = false

abbrev is_digits : SpelledToken → Bool
is_digits (digits w) = true
is_digits _ = false

-- no run of the kind begins at q
abbrev NoRun : (SpelledToken → Bool) → ℕ → List (ℕ × SpelledToken) → Type 0
NoRun kind q [] = Unit {0}
NoRun kind q (t ∷ ts) = kind t.1 ≡ true → q < t.0

later : (kind : SpelledToken → Bool) (q : ℕ) (ts : List (ℕ × SpelledToken)) → From (q + 1) ts → NoRun kind q ts
later kind q [] h = tt
later kind q (t ∷ ts) h = λ _. omega (arith, h)

earlier : (q : ℕ) (ts : List (ℕ × SpelledToken)) → From (q + 1) ts → From q ts
earlier q [] h = tt
earlier q (t ∷ ts) h = omega (arith, h)

pick_from : (v : Bool) (p : ℕ) (w x : SpelledToken) (ts us : List (ℕ × SpelledToken)) → From p (cond v ((p, w) ∷ ts) ((p, x) ∷ us))
pick_from true p w x ts us = omega arith
pick_from false p w x ts us = omega arith

word_from : (p b : ℕ) (ts : List (ℕ × SpelledToken)) → From p (onto_word p b ts)
word_from p b [] = omega arith
word_from p b ((q, word w) ∷ ts) = pick_from (q == p + 1) p (word (b ∷ w)) (word (b ∷ [])) ts ((q, word w) ∷ ts)
word_from p b ((q, digits w) ∷ ts) = omega arith
word_from p b ((q, sign s) ∷ ts) = omega arith
word_from p b ((q, differs) ∷ ts) = omega arith
word_from p b ((q, dots) ∷ ts) = omega arith

digits_from : (p b : ℕ) (ts : List (ℕ × SpelledToken)) → From p (onto_digits p b ts)
digits_from p b [] = omega arith
digits_from p b ((q, digits w) ∷ ts) = pick_from (q == p + 1) p (digits (b ∷ w)) (digits (b ∷ [])) ts ((q, digits w) ∷ ts)
digits_from p b ((q, word w) ∷ ts) = omega arith
digits_from p b ((q, sign s) ∷ ts) = omega arith
digits_from p b ((q, differs) ∷ ts) = omega arith
digits_from p b ((q, dots) ∷ ts) = omega arith

onto_from : (s l d : Bool) (p b : ℕ) (ts : List (ℕ × SpelledToken)) → From (p + 1) ts →
    From p (cond s ts (cond l (onto_word p b ts) (cond d (onto_digits p b ts) ((p, sign b) ∷ ts))))
onto_from true l d p b ts h = earlier p ts h
onto_from false true d p b ts h = word_from p b ts
onto_from false false true p b ts h = digits_from p b ts
onto_from false false false p b ts h = omega arith

pair_from : (v w : Bool) (p : ℕ) (ts us vs : List (ℕ × SpelledToken)) → From p vs
    → From p (cond v ((p, dots) ∷ ts) (cond w ((p, differs) ∷ us) vs))
pair_from true w p ts us vs h = omega arith
pair_from false true p ts us vs h = omega arith
pair_from false false p ts us vs h = h

spelled_starts : (p : ℕ) (bs : List ℕ) → From p (spelled_from p bs)
unfolding spelled_from
spelled_starts p [] = tt
spelled_starts p (b ∷ []) = onto_from (is_space b) (is_letter b) (is_digit b) p b [] tt
spelled_starts p (b ∷ c ∷ bs) =
    pair_from (b == 46 && c == 46) (b == 33 && c == 61) p (spelled_from (p + 2) bs) (spelled_from (p + 2) bs) (onto p b (spelled_from (p + 1) (c ∷ bs)))
    (onto_from (is_space b) (is_letter b) (is_digit b) p b (spelled_from (p + 1) (c ∷ bs)) (spelled_starts (p + 1) (c ∷ bs)))

pick_no : (kind : SpelledToken → Bool) (v : Bool) (p : ℕ) (w x : SpelledToken) (ts us : List (ℕ × SpelledToken)) → kind w ≡ false → kind x
    ≡ false →
    NoRun kind p (cond v ((p, w) ∷ ts) ((p, x) ∷ us))
pick_no kind true p w x ts us h k = λ e. absurd cc
pick_no kind false p w x ts us h k = λ e. absurd cc

digits_no_word : (p b : ℕ) (ts : List (ℕ × SpelledToken)) → NoRun is_word p (onto_digits p b ts)
digits_no_word p b [] = λ e. absurd cc
digits_no_word p b ((q, digits w) ∷ ts) = pick_no is_word (q == p + 1) p (digits (b ∷ w)) (digits (b ∷ [])) ts ((q, digits w) ∷ ts) refl refl
digits_no_word p b ((q, word w) ∷ ts) = λ e. absurd cc
digits_no_word p b ((q, sign s) ∷ ts) = λ e. absurd cc
digits_no_word p b ((q, differs) ∷ ts) = λ e. absurd cc
digits_no_word p b ((q, dots) ∷ ts) = λ e. absurd cc

word_no_digits : (p b : ℕ) (ts : List (ℕ × SpelledToken)) → NoRun is_digits p (onto_word p b ts)
word_no_digits p b [] = λ e. absurd cc
word_no_digits p b ((q, word w) ∷ ts) = pick_no is_digits (q == p + 1) p (word (b ∷ w)) (word (b ∷ [])) ts ((q, word w) ∷ ts) refl refl
word_no_digits p b ((q, digits w) ∷ ts) = λ e. absurd cc
word_no_digits p b ((q, sign s) ∷ ts) = λ e. absurd cc
word_no_digits p b ((q, differs) ∷ ts) = λ e. absurd cc
word_no_digits p b ((q, dots) ∷ ts) = λ e. absurd cc

onto_no_word : (s l d : Bool) (p b : ℕ) (ts : List (ℕ × SpelledToken)) → l ≡ false → From (p + 1) ts →
    NoRun is_word p (cond s ts (cond l (onto_word p b ts) (cond d (onto_digits p b ts) ((p, sign b) ∷ ts))))
onto_no_word true l d p b ts h k = later is_word p ts k
onto_no_word false true d p b ts h k = absurd cc
onto_no_word false false true p b ts h k = digits_no_word p b ts
onto_no_word false false false p b ts h k = λ e. absurd cc

onto_no_digits : (s l d : Bool) (p b : ℕ) (ts : List (ℕ × SpelledToken)) → d ≡ false → From (p + 1) ts →
    NoRun is_digits p (cond s ts (cond l (onto_word p b ts) (cond d (onto_digits p b ts) ((p, sign b) ∷ ts))))
onto_no_digits true l d p b ts h k = later is_digits p ts k
onto_no_digits false true d p b ts h k = word_no_digits p b ts
onto_no_digits false false true p b ts h k = absurd cc
onto_no_digits false false false p b ts h k = λ e. absurd cc

pair_no : (kind : SpelledToken → Bool) (v w : Bool) (p : ℕ) (ts us vs : List (ℕ × SpelledToken)) → kind dots ≡ false → kind differs ≡ false →
    NoRun kind p vs → NoRun kind p (cond v ((p, dots) ∷ ts) (cond w ((p, differs) ∷ us) vs))
pair_no kind true w p ts us vs e f h = λ k. absurd cc
pair_no kind false true p ts us vs e f h = λ k. absurd cc
pair_no kind false false p ts us vs e f h = h

-- what doesn't begin with a letter doesn't begin with a word
no_word : (p b : ℕ) (bs : List ℕ) → is_letter b ≡ false → NoRun is_word p (spelled_from p (b ∷ bs))
unfolding spelled_from
no_word p b [] h = onto_no_word (is_space b) (is_letter b) (is_digit b) p b [] h tt
no_word p b (c ∷ bs) h =
    pair_no is_word (b == 46 && c == 46) (b == 33 && c == 61) p (spelled_from (p + 2) bs) (spelled_from (p + 2) bs) (onto p b (spelled_from (p + 1) (c ∷ bs)))
    refl refl
    (onto_no_word (is_space b) (is_letter b) (is_digit b) p b (spelled_from (p + 1) (c ∷ bs)) h (spelled_starts (p + 1) (c ∷ bs)))

no_digits : (p b : ℕ) (bs : List ℕ) → is_digit b ≡ false → NoRun is_digits p (spelled_from p (b ∷ bs))
unfolding spelled_from
no_digits p b [] h = onto_no_digits (is_space b) (is_letter b) (is_digit b) p b [] h tt
no_digits p b (c ∷ bs) h =
    pair_no is_digits (b == 46 && c == 46) (b == 33 && c == 61) p (spelled_from (p + 2) bs) (spelled_from (p + 2) bs)
    (onto p b (spelled_from (p + 1) (c ∷ bs))) refl refl
    (onto_no_digits (is_space b) (is_letter b) (is_digit b) p b (spelled_from (p + 1) (c ∷ bs)) h (spelled_starts (p + 1) (c ∷ bs)))

not_same : (p q : ℕ) → p < q → (q == p) ≡ false
not_same p q h = grind (arith, nat_tests)

same : (p : ℕ) → (p == p) ≡ true
same p = grind (arith, nat_tests)

alone_word : (p b : ℕ) (ts : List (ℕ × SpelledToken)) → NoRun is_word (p + 1) ts → onto_word p b ts ≡ (p, word (b ∷ [])) ∷ ts
alone_word p b [] h = refl
alone_word p b ((q, word w) ∷ ts) h = simp (not_same (p + 1) q (h refl))
alone_word p b ((q, digits w) ∷ ts) h = refl
alone_word p b ((q, sign s) ∷ ts) h = refl
alone_word p b ((q, differs) ∷ ts) h = refl
alone_word p b ((q, dots) ∷ ts) h = refl

alone_digits : (p b : ℕ) (ts : List (ℕ × SpelledToken)) → NoRun is_digits (p + 1) ts → onto_digits p b ts ≡ (p, digits (b ∷ [])) ∷ ts
alone_digits p b [] h = refl
alone_digits p b ((q, digits w) ∷ ts) h = simp (not_same (p + 1) q (h refl))
alone_digits p b ((q, word w) ∷ ts) h = refl
alone_digits p b ((q, sign s) ∷ ts) h = refl
alone_digits p b ((q, differs) ∷ ts) h = refl
alone_digits p b ((q, dots) ∷ ts) h = refl

joined_word : (p b : ℕ) (w : List ℕ) (ts : List (ℕ × SpelledToken)) → onto_word p b ((p + 1, word w) ∷ ts) ≡ (p, word (b ∷ w)) ∷ ts
joined_word p b w ts = simp (same (p + 1))

joined_digits : (p b : ℕ) (w : List ℕ) (ts : List (ℕ × SpelledToken)) → onto_digits p b ((p + 1, digits w) ∷ ts) ≡ (p, digits (b ∷ w)) ∷ ts
joined_digits p b w ts = simp (same (p + 1))

-- a run of n bytes after the one at place p
abbrev Run : (List ℕ → SpelledToken) → ℕ → ℕ → ℕ → List ℕ → Type 0
Run kind n p b bs = spelled_from p (b ∷ bs) ≡ (p, kind (b ∷ take n bs)) ∷ spelled_from (p + 1 + n) (drop n bs)

run_by : (kind : List ℕ → SpelledToken) (m n p b : ℕ) (bs : List ℕ) → m ≡ n → Run kind m p b bs → Run kind n p b bs
run_by kind m n p b bs e h = let P : ℕ → Type 0 = λ k. Run kind k p b bs in subst P e h

-- one byte more in front of a run
run_more : (kind : List ℕ → SpelledToken) (m p b c : ℕ) (cs : List ℕ) →
    spelled_from p (b ∷ c ∷ cs) ≡ (p, kind (b ∷ c ∷ take m cs)) ∷ spelled_from (p + 1 + 1 + m) (drop m cs) → Run kind (suc m) p b (c ∷ cs)
run_more kind m p b c cs h =
    let offset : p + 1 + 1 + m ≡ p + 1 + suc m = omega arith in
    h ∙ ap (λ k. (p, kind (b ∷ c ∷ take m cs)) ∷ spelled_from k (drop m cs)) offset

run_none : (kind : List ℕ → SpelledToken) (p b : ℕ) (bs : List ℕ) → spelled_from p (b ∷ bs) ≡ (p, kind (b ∷ [])) ∷ spelled_from (p + 1) bs →
    Run kind 0 p b bs
run_none kind p b bs h =
    let offset : p + 1 ≡ p + 1 + 0 = omega arith in
    h ∙ ap (λ k. (p, kind (b ∷ [])) ∷ spelled_from k bs) offset

-- a byte that passes makes the run one longer
pub prefix-yes : (test : ℕ → Bool) (c : ℕ) (cs : List ℕ) → test c ≡ true → suc (prefix_len test cs) ≡ prefix_len test (c ∷ cs)
prefix-yes test c cs h = rw h (omega arith)

-- a byte that does not pass ends the run
pub prefix-no : (test : ℕ → Bool) (c : ℕ) (cs : List ℕ) → test c ≡ false → 0 ≡ prefix_len test (c ∷ cs)
prefix-no test c cs h = rw h refl

word_step : (p b c : ℕ) (cs : List ℕ) → is_letter b ≡ true → (v : Bool) → is_letter c ≡ v →
    (is_letter c ≡ true → Run word (prefix_len is_letter cs) (p + 1) c cs) → Run word (prefix_len is_letter (c ∷ cs)) p b (c ∷ cs)
word_step p b c cs h true e rest =
    run_by word (suc (prefix_len is_letter cs)) (prefix_len is_letter (c ∷ cs)) p b (c ∷ cs) (prefix-yes is_letter c cs e)
    (run_more word (prefix_len is_letter cs) p b c cs
    (onto_rest p b (c ∷ cs) (letter-not_dot b h) (letter-not_mark b h) ∙ onto-letter p b _ h ∙ ap (onto_word p b) (rest e) ∙ joined_word p b _ _))
word_step p b c cs h false e rest =
    run_by word 0 (prefix_len is_letter (c ∷ cs)) p b (c ∷ cs) (prefix-no is_letter c cs e)
    (run_none word p b (c ∷ cs)
    (onto_rest p b (c ∷ cs) (letter-not_dot b h) (letter-not_mark b h) ∙ onto-letter p b _ h ∙ alone_word p b _ (no_word (p + 1) c cs e)))

-- a letter and the letters after it are one word
pub word_run : (p b : ℕ) (bs : List ℕ) → is_letter b ≡ true → Run word (prefix_len is_letter bs) p b bs
unfolding spelled_from
word_run p b [] h = onto-letter p b [] h
word_run p b (c ∷ cs) h = word_step p b c cs h (is_letter c) refl (λ e. word_run (p + 1) c cs e)

digits_step : (p b c : ℕ) (cs : List ℕ) → is_digit b ≡ true → (v : Bool) → is_digit c ≡ v →
    (is_digit c ≡ true → Run digits (prefix_len is_digit cs) (p + 1) c cs) → Run digits (prefix_len is_digit (c ∷ cs)) p b (c ∷ cs)
digits_step p b c cs h true e rest =
    run_by digits (suc (prefix_len is_digit cs)) (prefix_len is_digit (c ∷ cs)) p b (c ∷ cs) (prefix-yes is_digit c cs e)
    (run_more digits (prefix_len is_digit cs) p b c cs
    (onto_rest p b (c ∷ cs) (digit-not_dot b h) (digit-not_mark b h) ∙ onto-digit p b _ h ∙ ap (onto_digits p b) (rest e) ∙ joined_digits p b _ _))
digits_step p b c cs h false e rest =
    run_by digits 0 (prefix_len is_digit (c ∷ cs)) p b (c ∷ cs) (prefix-no is_digit c cs e)
    (run_none digits p b (c ∷ cs)
    (onto_rest p b (c ∷ cs) (digit-not_dot b h) (digit-not_mark b h) ∙ onto-digit p b _ h ∙ alone_digits p b _ (no_digits (p + 1) c cs e)))

-- a digit and the digits after it are one run
pub digits_run : (p b : ℕ) (bs : List ℕ) → is_digit b ≡ true → Run digits (prefix_len is_digit bs) p b bs
unfolding spelled_from
digits_run p b [] h = onto-digit p b [] h
digits_run p b (c ∷ cs) h = digits_step p b c cs h (is_digit c) refl (λ e. digits_run (p + 1) c cs e)

onto-space : (p b : ℕ) (ts : List (ℕ × SpelledToken)) → is_space b ≡ true → onto p b ts ≡ ts
onto-space p b ts h = simp h

-- a byte of no class is a sign of its own
pub onto-sign : (p b : ℕ) (ts : List (ℕ × SpelledToken)) → is_space b ≡ false → is_letter b ≡ false → is_digit b ≡ false →
    onto p b ts ≡ (p, sign b) ∷ ts
onto-sign p b ts h k l = simp (h, k, l)

spaces_step : (p b : ℕ) (bs : List ℕ) → (v : Bool) → is_space b ≡ v →
    spelled_from (p + 1) bs ≡ spelled_from (p + 1 + prefix_len is_space bs) (drop (prefix_len is_space bs) bs)
    → spelled_from p (b ∷ bs) ≡ spelled_from (p + prefix_len is_space (b ∷ bs)) (drop (prefix_len is_space (b ∷ bs)) (b ∷ bs))
spaces_step p b bs true e rest =
    let offset : p + 1 + prefix_len is_space bs ≡ p + suc (prefix_len is_space bs) = omega arith in
    onto_rest p b bs (space-not_dot b e) (space-not_mark b e) ∙ onto-space p b _ e ∙ rest
    ∙ ap (λ k. spelled_from k (drop (prefix_len is_space bs) bs)) offset
    ∙ ap (λ n. spelled_from (p + n) (drop n (b ∷ bs))) (prefix-yes is_space b bs e)
spaces_step p b bs false e rest =
    let offset : p ≡ p + 0 = omega arith in
    ap (λ k. spelled_from k (b ∷ bs)) offset ∙ ap (λ n. spelled_from (p + n) (drop n (b ∷ bs))) (prefix-no is_space b bs e)

-- spaces and tabs are no tokens
pub spaces_run : (p : ℕ) (bs : List ℕ) → spelled_from p bs ≡ spelled_from (p + prefix_len is_space bs) (drop (prefix_len is_space bs) bs)
unfolding spelled_from
spaces_run p [] = refl
spaces_run p (b ∷ bs) = spaces_step p b bs (is_space b) refl (spaces_run (p + 1) bs)
