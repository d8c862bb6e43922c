-- Where fields end, and what of them is a number, step by step.
-- The definitions take a text from the front, one byte a step; a loop that is at a place has the definition of what is left
-- (`blanks_before-step`, `field_length-step`), and one from the end that of what is in front (`content_length-blank`).
use Rattle.std.proofs.Common.{◌≡◌, ℕ, zero, suc, ◌+◌, ◌-◌, ◌<◌, ◌≤◌, Bool, true, false, List, [], ◌∷◌, ◌++◌}
use Rattle.std.proofs.Common.{length, get_or, take, drop, refl, sym, ap, ◌∙◌, arith}
use Rattle.std.specs.Prelude.{if◌then◌else◌}
use Rattle.std.proofs.lemmas.List.{drop_all, drop_more, length-drop, length-take-le, take_more}
use Rattle.locnum_lines.specs.Fields.{blanks_before, content_length, cut_field, ends_field, field_length, is_blank, is_blank_behind, next_state}
use Rattle.locnum_lines.specs.Fields.{with_byte}
use Rattle.locnum_lines.specs.declared.cutting.FieldState.{FieldState}
use Rattle.locnum_lines.specs.declared.settings.Delimiter.{Delimiter}

-- a blank more
pub blanks_before-step : (text : List ℕ) (n : ℕ) → n < length text → is_blank (get_or text n 0) ≡ true →
    blanks_before (drop n text) ≡ suc (blanks_before (drop (n + 1) text))
unfolding blanks_before
blanks_before-step text n inside h = rw (drop_more text n 0 inside, h) refl

-- no blank
pub blanks_before-end : (text : List ℕ) (n : ℕ) → n < length text → is_blank (get_or text n 0) ≡ false → blanks_before (drop n text) ≡ 0
unfolding blanks_before
blanks_before-end text n inside h = rw (drop_more text n 0 inside, h) refl

-- no text
pub blanks_before-nothing : blanks_before [] ≡ 0
unfolding blanks_before
blanks_before-nothing = refl

-- a byte more of a field
pub field_length-step : (delimiter : Delimiter) (state : FieldState) (line : List ℕ) (n : ℕ) → n < length line →
    ends_field delimiter state (get_or line n 0) ≡ false →
    field_length delimiter state (drop n line) ≡ suc (field_length delimiter (next_state delimiter state (get_or line n 0)) (drop (n + 1) line))
unfolding field_length
field_length-step delimiter state line n inside h = rw (drop_more line n 0 inside, h) refl

-- the end of a field
pub field_length-end : (delimiter : Delimiter) (state : FieldState) (line : List ℕ) (n : ℕ) → n < length line →
    ends_field delimiter state (get_or line n 0) ≡ true → field_length delimiter state (drop n line) ≡ 0
unfolding field_length
field_length-end delimiter state line n inside h = rw (drop_more line n 0 inside, h) refl

-- no line
pub field_length-nothing : (delimiter : Delimiter) (state : FieldState) → field_length delimiter state [] ≡ 0
unfolding field_length
field_length-nothing delimiter state = refl

-- a blank at the end
pub content_length-blank : (xs : List ℕ) (b : ℕ) → is_blank_behind b ≡ true → content_length (xs ++ b ∷ []) ≡ content_length xs
unfolding content_length
content_length-blank [] b h = rw h refl
content_length-blank (x ∷ xs) b h = rw (content_length-blank xs b h) refl

-- a word at the end
pub content_length-word : (xs : List ℕ) (b : ℕ) → is_blank_behind b ≡ false → content_length (xs ++ b ∷ []) ≡ suc (length xs)
unfolding content_length
content_length-word [] b h = rw h refl
content_length-word (x ∷ xs) b h = rw (content_length-word xs b h) refl

-- no text
pub content_length-nothing : content_length [] ≡ 0
unfolding content_length
content_length-nothing = refl

-- behind the end of a text
pub blanks_before-past : (text : List ℕ) (n : ℕ) → length text ≤ n → blanks_before (drop n text) ≡ 0
blanks_before-past text n past = rw (drop_all n text past) blanks_before-nothing

-- behind the end of a line
pub field_length-past : (delimiter : Delimiter) (state : FieldState) (line : List ℕ) (n : ℕ) → length line ≤ n →
    field_length delimiter state (drop n line) ≡ 0
field_length-past delimiter state line n past = rw (drop_all n line past) (field_length-nothing delimiter state)

-- the last byte of the first n
last_taken : (text : List ℕ) (n : ℕ) → n ≤ length text → 0 < n → take n text ≡ take (n - 1) text ++ get_or text (n - 1) 0 ∷ []
last_taken text n inside some =
    let e : n ≡ (n - 1) + 1 = omega arith in
    ap (λ k. take k text) e ∙ take_more text (n - 1) 0 (omega arith)

-- a blank at the end of the first n bytes
pub content_length-before : (text : List ℕ) (n : ℕ) → n ≤ length text → 0 < n → is_blank_behind (get_or text (n - 1) 0) ≡ true →
    content_length (take n text) ≡ content_length (take (n - 1) text)
content_length-before text n inside some h =
    ap content_length (last_taken text n inside some) ∙ content_length-blank (take (n - 1) text) (get_or text (n - 1) 0) h

-- a word at their end
pub content_length-last : (text : List ℕ) (n : ℕ) → n ≤ length text → 0 < n → is_blank_behind (get_or text (n - 1) 0) ≡ false →
    content_length (take n text) ≡ n
content_length-last text n inside some h =
    let e : length (take (n - 1) text) ≡ n - 1 = length-take-le (n - 1) text (omega arith) in
    ap content_length (last_taken text n inside some) ∙ content_length-word (take (n - 1) text) (get_or text (n - 1) 0) h ∙ omega (arith, e)

-- no byte
pub content_length-none : (text : List ℕ) (n : ℕ) → n ≤ 0 → content_length (take n text) ≡ n
content_length-none text n none = let e : n ≡ 0 = omega arith in rw e content_length-nothing

-- what stands in front of a text's first word is within it
pub blanks_before-within : (text : List ℕ) → blanks_before text ≤ length text
unfolding blanks_before
blanks_before-within [] = omega arith
blanks_before-within (b ∷ bs) = go (is_blank b) (blanks_before-within bs)
  where
    go : (t : Bool) → blanks_before bs ≤ length bs → (if t then suc (blanks_before bs) else 0) ≤ suc (length bs)
    go true i = omega (arith, i)
    go false i = omega arith

-- and so is what stands in front of the blanks at its end
pub content_length-within : (text : List ℕ) → content_length text ≤ length text
unfolding content_length
content_length-within [] = omega arith
content_length-within (b ∷ bs) = go (content_length bs) (content_length-within bs)
  where
    go : (n : ℕ) → n ≤ length bs → with_byte b n ≤ suc (length bs)
    go zero i = last (is_blank_behind b)
      where
        last : (t : Bool) → (if t then 0 else 1) ≤ suc (length bs)
        last true = omega arith
        last false = omega arith
    go (suc n) i = omega (arith, i)

-- a field in its three parts
pub cut_field-is : (text before rest number behind : List ℕ) (n m : ℕ) → n ≡ blanks_before text → before ≡ take n text → rest ≡ drop n text →
    m ≡ content_length rest → number ≡ take m rest → behind ≡ drop m rest →
    cut_field text ≡ record { before = before; number = number; behind = behind }
cut_field-is text before rest number behind n m e1 e2 e3 e4 e5 e6 = rw (e5, e6, e4, e3, e2, e1) refl

-- what stands at n, and behind it
pub seam : (line : List ℕ) (n b : ℕ) (rest : List ℕ) → drop n line ≡ b ∷ rest →
    (n < length line) × (get_or line n 0 ≡ b) × (drop (n + 1) line ≡ rest)
seam line n b rest e =
    let inside : n < length line = omega (arith, ap (λ (k : List ℕ). length k) e, length-drop n line) in
    let is : get_or line n 0 ∷ drop (n + 1) line ≡ b ∷ rest = sym (drop_more line n 0 inside) ∙ e in
    (inside, ap (λ (k : List ℕ). get_or k 0 0) is, ap (λ (k : List ℕ). drop 1 k) is)
