-- The first field of a record and those behind it, and the content of a field, step by step.
-- `fields_from` goes byte by byte and puts each onto the first field of the rest, while the code cuts a field off by its length.
use Rattle.std.proofs.Common.{◌≡◌, ℕ, suc, ◌+◌, ◌<◌, ◌≤◌, Bool, true, false, List, [], ◌∷◌, ◌++◌, length, get_or, take, drop}
use Rattle.std.proofs.Common.{refl, sym, ap, ◌∙◌, arith}
use Rattle.std.specs.Prelude.{◌==◌, if◌then◌else◌}
use Rattle.std.proofs.Math.Seq.{take-length}
use Rattle.std.proofs.lemmas.Bool.{eqb-true}
use Rattle.std.proofs.lemmas.Bool.Decides.{nat_tests}
use Rattle.std.proofs.lemmas.List.{drop_all, drop_more, length-drop}
use Rattle.locnum_lines.specs.Fields.{onto_field}
use Rattle.locnum_lines.specs.declared.settings.Delimiter.{Delimiter}
use Rattle.locnum_ranges.specs.Contents.{content_from, kept}
use Rattle.locnum_ranges.specs.Fields.{csv_place, ends_field, field_length, fields_from, next_place}
use Rattle.locnum_ranges.specs.declared.cutting.Place.{Place}
use Rattle.locnum_ranges.specs.declared.cutting.Place.TheVariants.{Front}

-- a byte more of a field
pub field_length-step : (delimiter : Delimiter) (place : Place) (line : List ℕ) (n : ℕ) → n < length line →
    ends_field delimiter place (get_or line n 0) ≡ false →
    field_length delimiter place (drop n line) ≡ suc (field_length delimiter (next_place delimiter place (get_or line n 0)) (drop (n + 1) line))
unfolding field_length
field_length-step delimiter place line n inside h = rw (drop_more line n 0 inside, h) refl

-- the end of a field
pub field_length-end : (delimiter : Delimiter) (place : Place) (line : List ℕ) (n : ℕ) → n < length line →
    ends_field delimiter place (get_or line n 0) ≡ true → field_length delimiter place (drop n line) ≡ 0
unfolding field_length
field_length-end delimiter place line n inside h = rw (drop_more line n 0 inside, h) refl

-- no line
pub field_length-nothing : (delimiter : Delimiter) (place : Place) → field_length delimiter place [] ≡ 0
unfolding field_length
field_length-nothing delimiter place = refl

-- behind the end of a line
pub field_length-past : (delimiter : Delimiter) (place : Place) (line : List ℕ) (n : ℕ) → length line ≤ n →
    field_length delimiter place (drop n line) ≡ 0
field_length-past delimiter place line n past = rw (drop_all n line past) (field_length-nothing delimiter place)

-- the first field is within its record
pub field_length-within : (delimiter : Delimiter) (place : Place) (line : List ℕ) → field_length delimiter place line ≤ length line
unfolding field_length
field_length-within delimiter place [] = omega arith
field_length-within delimiter place (b ∷ bs) =
    go (ends_field delimiter place b) (field_length-within delimiter (next_place delimiter place b) bs)
  where
    go : (t : Bool) → field_length delimiter (next_place delimiter place b) bs ≤ length bs →
        (if t then 0 else suc (field_length delimiter (next_place delimiter place b) bs)) ≤ suc (length bs)
    go true i = omega arith
    go false i = omega (arith, i)

-- a record with one field
pub fields-last : (delimiter : Delimiter) (place : Place) (line : List ℕ) → field_length delimiter place line ≡ length line →
    fields_from delimiter place line ≡ record { text = line; behind = [] } ∷ []
unfolding field_length fields_from
fields-last delimiter place [] h = refl
fields-last delimiter place (b ∷ bs) h = go (ends_field delimiter place b) (fields-last delimiter (next_place delimiter place b) bs) h
  where
    go : (t : Bool) → (field_length delimiter (next_place delimiter place b) bs ≡ length bs →
        fields_from delimiter (next_place delimiter place b) bs ≡ record { text = bs; behind = [] } ∷ []) →
        (if t then 0 else suc (field_length delimiter (next_place delimiter place b) bs)) ≡ suc (length bs) →
        (if t then record { text = []; behind = b ∷ [] } ∷ fields_from delimiter Front bs
        else onto_field b (fields_from delimiter (next_place delimiter place b) bs)) ≡ record { text = b ∷ bs; behind = [] } ∷ []
    go true i h = absurd (omega (arith, h))
    go false i h = ap (onto_field b) (i (omega (arith, h)))

-- a record with more than one: its first, the byte behind it, and those of the rest
pub fields-first : (delimiter : Delimiter) (place : Place) (line : List ℕ) (n : ℕ) → n ≡ field_length delimiter place line → n < length line →
    fields_from delimiter place line
    ≡ record { text = take n line; behind = get_or line n 0 ∷ [] } ∷ fields_from delimiter Front (drop (n + 1) line)
unfolding field_length fields_from
fields-first delimiter place [] n e inside = absurd (omega arith)
fields-first delimiter place (b ∷ bs) n e inside =
    go (ends_field delimiter place b)
    (fields-first delimiter (next_place delimiter place b) bs (field_length delimiter (next_place delimiter place b) bs) refl) e
  where
    go : (t : Bool) → ((field_length delimiter (next_place delimiter place b) bs) < length bs → fields_from delimiter (next_place delimiter place b) bs
        ≡ record {
          text = take (field_length delimiter (next_place delimiter place b) bs) bs;
          behind = get_or bs (field_length delimiter (next_place delimiter place b) bs) 0 ∷ [];
        } ∷ fields_from delimiter Front (drop ((field_length delimiter (next_place delimiter place b) bs) + 1) bs)) →
        n ≡ (if t then 0 else suc (field_length delimiter (next_place delimiter place b) bs)) →
        (if t then record { text = []; behind = b ∷ [] } ∷ fields_from delimiter Front bs
        else onto_field b (fields_from delimiter (next_place delimiter place b) bs))
        ≡ record { text = take n (b ∷ bs); behind = get_or (b ∷ bs) n 0 ∷ [] } ∷ fields_from delimiter Front (drop (n + 1) (b ∷ bs))
    go true i e = rw e refl
    go false i e =
        let more : n + 1 ≡ suc ((field_length delimiter (next_place delimiter place b) bs) + 1) = omega (arith, e) in
        rw (more, e) (ap (onto_field b) (i (omega (arith, e))))

-- something has a length
some : (n : ℕ) → (n == 0) ≡ false → 0 < n
some n h = grind (arith, nat_tests)

module _ (delimiter : Delimiter) (line text whole : List ℕ) (n : ℕ) (is : n ≡ field_length delimiter Front line) where
  -- the fields of a record that is cut behind its first one, and ends there
  pub fields-ended : text ≡ take n line → whole ≡ drop n line → (length whole == 0) ≡ true →
      fields_from delimiter Front line ≡ record { text = text; behind = whole } ∷ []
  fields-ended front back empty =
      let none : length whole ≡ 0 = eqb-true (length whole) 0 empty in
      let within : n ≤ length line = rw is (field_length-within delimiter Front line) in
      let all : n ≡ length line = omega (arith, within, ap (λ (k : List ℕ). length k) back, length-drop n line, none) in
      let is_line : text ≡ line = front ∙ ap (λ (k : ℕ). take k line) all ∙ take-length line in
      let is_nothing : whole ≡ [] = back ∙ drop_all n line (omega (arith, all)) in
      rw (is_line, is_nothing) (fields-last delimiter Front line (sym is ∙ all))

  -- and of one that goes on behind the byte that ends it
  pub fields-more : (behind rest : List ℕ) → text ≡ take n line → whole ≡ drop n line → (length whole == 0) ≡ false →
      behind ≡ take 1 whole → rest ≡ drop 1 whole →
      fields_from delimiter Front line ≡ record { text = text; behind = behind } ∷ fields_from delimiter Front rest
  fields-more behind rest front back more first others =
      let inside : n < length line = omega (arith, some (length whole) more, ap (λ (k : List ℕ). length k) back, length-drop n line) in
      let apart : whole ≡ get_or line n 0 ∷ drop (n + 1) line = back ∙ drop_more line n 0 inside in
      let is_behind : behind ≡ get_or line n 0 ∷ [] = first ∙ ap (λ (k : List ℕ). take 1 k) apart in
      let is_rest : rest ≡ drop (n + 1) line = others ∙ ap (λ (k : List ℕ). drop 1 k) apart in
      rw (front, is_behind, is_rest) (fields-first delimiter Front line n is inside)

-- a byte more of a field
pub content-step : (place : Place) (text : List ℕ) (n : ℕ) → n < length text → content_from place (drop n text)
    ≡ kept place (get_or text n 0) ++ content_from (csv_place place (get_or text n 0)) (drop (n + 1) text)
unfolding content_from
content-step place text n inside = rw (drop_more text n 0 inside) refl

-- its end
pub content-end : (place : Place) (text : List ℕ) (n : ℕ) → length text ≤ n → content_from place (drop n text) ≡ []
unfolding content_from
content-end place text n past = rw (drop_all n text past) refl
