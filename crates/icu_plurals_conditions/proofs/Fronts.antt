-- The token at the front of a text.
-- There is a lemma for each branch of the lexer's `token_front` and `sign_front`: a word, digits, `..`, `!=`, any other byte. Each takes what
-- the front spells from Runs, and `first_is` leads on from what is spelled to tokens. `IsFront` holds wherever the text stands, since the lexer
-- counts from the text that is left. A count n of the code comes with an equation to `prefix_len`, put in last (`here`).
-- `no_space` and `all_of_prefix` are inductions over the text, with the test of the first byte as a variable (`no_space_by`, `all_by`).
use Rattle.std.proofs.Common.{◌≡◌, ℕ, suc, ◌+◌, ◌<◌, ◌≤◌, ◌==◌, ◌&&◌, Bool, true, false, List, [], ◌∷◌, length, map, take}
use Rattle.std.proofs.Common.{drop, slice_index, refl, sym, ap, ◌∙◌, arith}
use Rattle.std.specs.List.{prefix_len, list_all}
use Rattle.std.proofs.lemmas.List.Sums.{prefix_len-le-length}
use Rattle.std.proofs.lemmas.Grind.{common_steps}
use Rattle.icu_plurals_conditions.specs.declared.lexer.Token.{Token}
use Rattle.icu_plurals_conditions.specs.declared.lexer.Token.TheVariants.{NotEquals, Dots}
use Rattle.icu_plurals_conditions.specs.declared.lexer.Front.{Front}
use Rattle.icu_plurals_conditions.specs.Tokens.{SpelledToken, word, digits, sign, differs, dots, is_letter, is_digit, is_space, spelled_from, tokens_from}
use Rattle.icu_plurals_conditions.specs.Tokens.{token_of}
use Rattle.icu_plurals_conditions.specs.Tokens.{word_token, number_token, sign_token}
use Rattle.icu_plurals_conditions.specs.Lexer.{has_front, IsFront, IsFound}
use Rattle.icu_plurals_conditions.proofs.Runs.{word_run, digits_run, spaces_run, onto-sign, prefix-yes, prefix-no}

abbrev tokens : List (ℕ × SpelledToken) → List (ℕ × Token)
tokens ts = map (λ t. (t.0, token_of t.1)) ts

tokens_is : (p : ℕ) (bs : List ℕ) → tokens_from p bs ≡ tokens (spelled_from p bs)
unfolding tokens_from
tokens_is p bs = refl

-- what is spelled first is the first token
pub first_is : (p : ℕ) (bs : List ℕ) (w : SpelledToken) (q : ℕ) (cs : List ℕ) → spelled_from p bs ≡ (p, w) ∷ spelled_from q cs →
    tokens_from p bs ≡ (p, token_of w) ∷ tokens_from q cs
unfolding tokens_from
first_is p bs w q cs h = ap (λ ts. tokens ts) h

letter_tokens : (at b : ℕ) (bs : List ℕ) → is_letter b ≡ true → (n : ℕ) → n ≡ prefix_len is_letter (b ∷ bs) →
    tokens_from at (b ∷ bs) ≡ (at, word_token (take n (b ∷ bs))) ∷ tokens_from (at + n) (drop n (b ∷ bs))
letter_tokens at b bs h n e =
    let m = prefix_len is_letter bs in
    let here : suc m ≡ n = omega (arith, (rw h at e)) in
    let offset : at + 1 + m ≡ at + suc m = omega arith in
    first_is at (b ∷ bs) (word (b ∷ take m bs)) (at + 1 + m) (drop m bs) (word_run at b bs h)
    ∙ ap (λ k. (at, word_token (b ∷ take m bs)) ∷ tokens_from k (drop m bs)) offset
    ∙ ap (λ k. (at, word_token (take k (b ∷ bs))) ∷ tokens_from (at + k) (drop k (b ∷ bs))) here

digit_tokens : (at b : ℕ) (bs : List ℕ) → is_digit b ≡ true → (n : ℕ) → n ≡ prefix_len is_digit (b ∷ bs) →
    tokens_from at (b ∷ bs) ≡ (at, number_token (take n (b ∷ bs))) ∷ tokens_from (at + n) (drop n (b ∷ bs))
digit_tokens at b bs h n e =
    let m = prefix_len is_digit bs in
    let here : suc m ≡ n = omega (arith, (rw h at e)) in
    let offset : at + 1 + m ≡ at + suc m = omega arith in
    first_is at (b ∷ bs) (digits (b ∷ take m bs)) (at + 1 + m) (drop m bs) (digits_run at b bs h)
    ∙ ap (λ k. (at, number_token (b ∷ take m bs)) ∷ tokens_from k (drop m bs)) offset
    ∙ ap (λ k. (at, number_token (take k (b ∷ bs))) ∷ tokens_from (at + k) (drop k (b ∷ bs))) here

prefix-pos : (test : ℕ → Bool) (b : ℕ) (bs : List ℕ) → test b ≡ true → 0 < prefix_len test (b ∷ bs)
prefix-pos test b bs h = rw h (omega arith)

-- a word at the front
pub word_is_front : (text : List ℕ) (t : Token) (n : ℕ) → 0 < length text → is_letter (slice_index text 0) ≡ true →
    n ≡ prefix_len is_letter text → t ≡ word_token (take n text) → IsFront text (record { token = t; len = n })
word_is_front [] t n l h e k = absurd (omega arith)
word_is_front (b ∷ bs) t n l h e k =
    let pos : 0 < prefix_len is_letter (b ∷ bs) = prefix-pos is_letter b bs h in
    let low : prefix_len is_letter (b ∷ bs) ≤ length (b ∷ bs) = prefix_len-le-length is_letter (b ∷ bs) in
    record {
      tokens = λ at. letter_tokens at b bs h n e ∙ ap (λ x. (at, x) ∷ tokens_from (at + n) (drop n (b ∷ bs))) (sym k);
      begun = rw e pos;
      within = rw e low;
    }

-- digits at the front
pub digits_are_front : (text : List ℕ) (t : Token) (n : ℕ) → 0 < length text → is_digit (slice_index text 0) ≡ true →
    n ≡ prefix_len is_digit text → t ≡ number_token (take n text) → IsFront text (record { token = t; len = n })
digits_are_front [] t n l h e k = absurd (omega arith)
digits_are_front (b ∷ bs) t n l h e k =
    let pos : 0 < prefix_len is_digit (b ∷ bs) = prefix-pos is_digit b bs h in
    let low : prefix_len is_digit (b ∷ bs) ≤ length (b ∷ bs) = prefix_len-le-length is_digit (b ∷ bs) in
    record {
      tokens = λ at. digit_tokens at b bs h n e ∙ ap (λ x. (at, x) ∷ tokens_from (at + n) (drop n (b ∷ bs))) (sym k);
      begun = rw e pos;
      within = rw e low;
    }

written-dots : (p : ℕ) (b c : ℕ) (bs : List ℕ) → (b == 46 && c == 46) ≡ true →
    spelled_from p (b ∷ c ∷ bs) ≡ (p, dots) ∷ spelled_from (p + 2) bs
unfolding spelled_from
written-dots p b c bs h = simp h

written-differs : (p : ℕ) (b c : ℕ) (bs : List ℕ) → (b == 33 && c == 61) ≡ true →
    spelled_from p (b ∷ c ∷ bs) ≡ (p, differs) ∷ spelled_from (p + 2) bs
unfolding spelled_from
written-differs p b c bs h =
    let other : (b == 46 && c == 46) ≡ false = grind (arith, common_steps) in
    simp (other, h)

written-sign : (p b : ℕ) (bs : List ℕ) → has_front 46 46 (b ∷ bs) ≡ false → has_front 33 61 (b ∷ bs) ≡ false → is_space b ≡ false →
    is_letter b ≡ false → is_digit b ≡ false → spelled_from p (b ∷ bs) ≡ (p, sign b) ∷ spelled_from (p + 1) bs
unfolding spelled_from
written-sign p b [] d m h k l = onto-sign p b [] h k l
written-sign p b (c ∷ cs) d m h k l = rw (d, m) (onto-sign p b _ h k l)

-- two points in front are the sign of a range
pub dots_are_front : (text : List ℕ) → has_front 46 46 text ≡ true → IsFront text (record { token = Dots; len = 2 })
dots_are_front [] h = absurd cc
dots_are_front (b ∷ []) h = absurd cc
dots_are_front (b ∷ c ∷ bs) h = record {
  tokens = λ at. first_is at (b ∷ c ∷ bs) dots (at + 2) bs (written-dots at b c bs h);
  begun = omega arith;
  within = omega arith;
}

-- `!=` in front is one sign
pub differs_is_front : (text : List ℕ) → has_front 33 61 text ≡ true → IsFront text (record { token = NotEquals; len = 2 })
differs_is_front [] h = absurd cc
differs_is_front (b ∷ []) h = absurd cc
differs_is_front (b ∷ c ∷ bs) h = record {
  tokens = λ at. first_is at (b ∷ c ∷ bs) differs (at + 2) bs (written-differs at b c bs h);
  begun = omega arith;
  within = omega arith;
}

-- a sign of one byte in front, where neither of the longer ones stands there
pub sign_is_front : (text : List ℕ) (t : Token) → 0 < length text → has_front 46 46 text ≡ false → has_front 33 61 text ≡ false
    → is_space (slice_index text 0) ≡ false → is_letter (slice_index text 0) ≡ false → is_digit (slice_index text 0) ≡ false →
    t ≡ sign_token (slice_index text 0) → IsFront text (record { token = t; len = 1 })
sign_is_front [] t z d m h k l e = absurd (omega arith)
sign_is_front (b ∷ bs) t z d m h k l e = record {
  tokens = λ at. first_is at (b ∷ bs) (sign b) (at + 1) bs (written-sign at b bs d m h k l) ∙ ap (λ x. (at, x) ∷ tokens_from (at + 1) bs) (sym e);
  begun = omega arith;
  within = omega arith;
}

tokens-spaces : (p : ℕ) (bs : List ℕ) → tokens_from p bs ≡ tokens_from (p + prefix_len is_space bs) (drop (prefix_len is_space bs) bs)
unfolding tokens_from
tokens-spaces p bs = ap (λ ts. tokens ts) (spaces_run p bs)

empty : (p : ℕ) → tokens_from p [] ≡ []
unfolding tokens_from spelled_from
empty p = refl

-- a text of spaces has no token
pub spaces_alone : (text : List ℕ) (n : ℕ) → n ≡ prefix_len is_space text → length (drop n text) ≡ 0 → (at : ℕ) → tokens_from at text ≡ []
spaces_alone text n e h at =
    let none : drop n text ≡ [] = grind (arith, common_steps) in
    tokens-spaces at text ∙ ap (λ k. tokens_from (at + k) (drop k text)) (sym e) ∙ ap (tokens_from (at + n)) none ∙ empty (at + n)

abbrev rest_of : List ℕ → List ℕ
rest_of text = drop (prefix_len is_space text) text

no_space_by : (b : ℕ) (bs : List ℕ) (v : Bool) → is_space b ≡ v → (0 < length (rest_of bs) → is_space (slice_index (rest_of bs) 0) ≡ false) →
    0 < length (rest_of (b ∷ bs)) → is_space (slice_index (rest_of (b ∷ bs)) 0) ≡ false
no_space_by b bs true e rest k =
    let same : rest_of (b ∷ bs) ≡ rest_of bs = ap (λ n. drop n (b ∷ bs)) (sym (prefix-yes is_space b bs e)) in
    let long : 0 < length (rest_of bs) = omega (arith, k, ap length same) in
    ap (λ l. is_space (slice_index l 0)) same ∙ rest long
no_space_by b bs false e rest k = ap (λ n. is_space (slice_index (drop n (b ∷ bs)) 0)) (sym (prefix-no is_space b bs e)) ∙ e

-- after the spaces comes no space
pub no_space : (text : List ℕ) → 0 < length (drop (prefix_len is_space text) text) →
    is_space (slice_index (drop (prefix_len is_space text) text) 0) ≡ false
no_space [] h = absurd (omega arith)
no_space (b ∷ bs) h = no_space_by b bs (is_space b) refl (λ k. no_space bs k) h

-- the first token stands behind the spaces
pub found_after_spaces : (text : List ℕ) (s : ℕ) (f : Front) → s ≡ prefix_len is_space text → IsFront (drop s text) f →
    IsFound text (record { start = s; token = f.token; end = s + f.len })
found_after_spaces text s f e h = record {
  tokens = λ at. tokens-spaces at text ∙ ap (λ k. tokens_from (at + k) (drop k text)) (sym e) ∙ h.tokens (at + s)
      ∙ ap (λ k. (at + s, f.token) ∷ tokens_from k (drop f.len (drop s text))) (add at s f.len)
      ∙ ap (λ l. (at + s, f.token) ∷ tokens_from (at + (s + f.len)) l) (drops s f.len text);
  begun = omega (arith, h.begun);
  within = grind (arith, common_steps, h.within, h.begun);
}
  where
    add : (a b c : ℕ) → a + b + c ≡ a + (b + c)
    add a b c = omega arith

    drops : (a b : ℕ) (l : List ℕ) → drop b (drop a l) ≡ drop (a + b) l
    drops a b l = grind (arith, common_steps)

abbrev passing : (ℕ → Bool) → List ℕ → List ℕ
passing test xs = take (prefix_len test xs) xs

all_by : (test : ℕ → Bool) (x : ℕ) (xs : List ℕ) (v : Bool) → test x ≡ v → list_all test (passing test xs) ≡ true →
    list_all test (passing test (x ∷ xs)) ≡ true
all_by test x xs true e rest = ap (λ n. list_all test (take n (x ∷ xs))) (sym (prefix-yes test x xs e)) ∙ rw e rest
all_by test x xs false e rest = ap (λ n. list_all test (take n (x ∷ xs))) (sym (prefix-no test x xs e))

-- what passes from the front on passes
pub all_of_prefix : (test : ℕ → Bool) (xs : List ℕ) → list_all test (take (prefix_len test xs) xs) ≡ true
all_of_prefix test [] = refl
all_of_prefix test (x ∷ xs) = all_by test x xs (test x) refl (all_of_prefix test xs)
