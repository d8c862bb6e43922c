-- Fields of CSV, byte by byte.
use Rattle.std.proofs.Common.{◌≡◌, ℕ, ◌+◌, ◌<◌, ◌≤◌, true, false, List, []}
use Rattle.std.proofs.Common.{◌∷◌, ◌++◌, length, get_or, drop, refl, sym, ap, ◌∙◌}
use Rattle.std.proofs.lemmas.Bool.{false≢true}
use Rattle.std.proofs.lemmas.List.{drop_all, drop_more}
use Rattle.locnum_lines.specs.Csv.{between_quotes, content_from, doubled, is_in_quotes, is_special, kept, wants_quotes}
use Rattle.locnum_lines.specs.Fields.{csv_state}
use Rattle.locnum_lines.specs.Records.{IsPartLine}
use Rattle.locnum_lines.specs.declared.cutting.FieldState.{FieldState}
use Rattle.locnum_lines.specs.declared.cutting.FieldState.TheVariants.{Front, Plain, Quoted}

-- a byte more of a field
pub content-step : (state : FieldState) (text : List ℕ) (n : ℕ) → n < length text → content_from state (drop n text)
    ≡ kept state (get_or text n 0) ++ content_from (csv_state state (get_or text n 0)) (drop (n + 1) text)
unfolding content_from
content-step state text n inside = rw (drop_more text n 0 inside) refl

-- its end
pub content-end : (state : FieldState) (text : List ℕ) (n : ℕ) → length text ≤ n → content_from state (drop n text) ≡ []
unfolding content_from
content-end state text n past = rw (drop_all n text past) refl

-- outside of quotes each byte is of the content
content-plain : (text : List ℕ) → content_from Plain text ≡ text
unfolding content_from
content-plain [] = refl
content-plain (b ∷ bs) = ap (λ (k : List ℕ). b ∷ k) (content-plain bs)

-- and so it is in a field that isn't in quotes
pub content-unquoted : (text : List ℕ) → is_in_quotes text ≡ false → content_from Front text ≡ text
unfolding content_from
content-unquoted [] h = refl
content-unquoted (b ∷ bs) h = rw h (ap (λ (k : List ℕ). b ∷ k) (content-plain bs))

-- between quotes it is what stands in front of the quote that ends them, at the end
content-between : (text : List ℕ) → IsPartLine 34 text → content_from Quoted (text ++ 34 ∷ []) ≡ text
unfolding content_from
content-between [] part = refl
content-between (b ∷ bs) part = rw part.0 (ap (λ (k : List ℕ). b ∷ k) (content-between bs part.1))

-- so it is in a field in quotes that has no other quote
pub content-quoted : (text rest front : List ℕ) → is_in_quotes text ≡ true → rest ≡ drop 1 text → IsPartLine 34 front →
    rest ≡ front ++ 34 ∷ [] → content_from Front text ≡ front
unfolding content_from
content-quoted [] rest front h e part is = absurd (false≢true h)
content-quoted (b ∷ bs) rest front h e part is = rw h (ap (content_from Quoted) (sym e ∙ is) ∙ content-between front part)

-- a text without quotes stands between quotes as it is
pub doubled-same : (text : List ℕ) → IsPartLine 34 text → doubled text ≡ text
unfolding doubled
doubled-same [] part = refl
doubled-same (b ∷ bs) part = rw part.0 (ap (λ (k : List ℕ). b ∷ k) (doubled-same bs part.1))

-- a byte more between quotes
pub doubled-step : (text : List ℕ) (n : ℕ) → n < length text →
    doubled (drop n text) ≡ between_quotes (get_or text n 0) ++ doubled (drop (n + 1) text)
unfolding doubled
doubled-step text n inside = rw (drop_more text n 0 inside) refl

-- the end of a text between quotes
pub doubled-end : (text : List ℕ) (n : ℕ) → length text ≤ n → doubled (drop n text) ≡ []
unfolding doubled
doubled-end text n past = rw (drop_all n text past) refl

module _ (delimiter end : ℕ) (text : List ℕ) (n : ℕ) where
  -- a byte that wants quotes
  pub wants-here : n < length text → is_special delimiter end (get_or text n 0) ≡ true → wants_quotes delimiter end (drop n text) ≡ true
  unfolding wants_quotes
  wants-here inside h = rw (drop_more text n 0 inside, h) refl

  -- one that doesn't
  pub wants-later : n < length text → is_special delimiter end (get_or text n 0) ≡ false →
      wants_quotes delimiter end (drop n text) ≡ wants_quotes delimiter end (drop (n + 1) text)
  unfolding wants_quotes
  wants-later inside h = rw (drop_more text n 0 inside, h) refl

  -- none
  pub wants-none : length text ≤ n → wants_quotes delimiter end (drop n text) ≡ false
  unfolding wants_quotes
  wants-none past = rw (drop_all n text past) refl
