-- The first field of a record, and those behind it.
-- `fields_from` goes byte by byte and puts each onto the first field of the rest, while the code cuts a field off by its length.
use Rattle.std.proofs.Common.{◌≡◌, ℕ, suc, ◌+◌, ◌<◌, ◌≤◌, Bool, true, false, List, [], ◌∷◌, length, get_or, take}
use Rattle.std.proofs.Common.{drop, refl, ap, arith}
use Rattle.std.specs.Prelude.{if◌then◌else◌}
use Rattle.locnum_lines.specs.Fields.{ends_field, field_length, fields_from, next_state, onto_field}
use Rattle.locnum_lines.specs.declared.cutting.FieldState.{FieldState}
use Rattle.locnum_lines.specs.declared.cutting.FieldState.TheVariants.{Front}
use Rattle.locnum_lines.specs.declared.settings.Delimiter.{Delimiter}

-- the first field is within its record
pub field_length-within : (delimiter : Delimiter) (state : FieldState) (line : List ℕ) → field_length delimiter state line ≤ length line
unfolding field_length
field_length-within delimiter state [] = omega arith
field_length-within delimiter state (b ∷ bs) =
    go (ends_field delimiter state b) (field_length-within delimiter (next_state delimiter state b) bs)
  where
    go : (t : Bool) → field_length delimiter (next_state delimiter state b) bs ≤ length bs →
        (if t then 0 else suc (field_length delimiter (next_state delimiter state b) bs)) ≤ suc (length bs)
    go true i = omega arith
    go false i = omega (arith, i)

-- a record with one field
pub fields-last : (delimiter : Delimiter) (state : FieldState) (line : List ℕ) → field_length delimiter state line ≡ length line →
    fields_from delimiter state line ≡ record { text = line; behind = [] } ∷ []
unfolding field_length fields_from
fields-last delimiter state [] h = refl
fields-last delimiter state (b ∷ bs) h = go (ends_field delimiter state b) (fields-last delimiter (next_state delimiter state b) bs) h
  where
    go : (t : Bool) → (field_length delimiter (next_state delimiter state b) bs ≡ length bs →
        fields_from delimiter (next_state delimiter state b) bs ≡ record { text = bs; behind = [] } ∷ []) →
        (if t then 0 else suc (field_length delimiter (next_state delimiter state b) bs)) ≡ suc (length bs) →
        (if t then record { text = []; behind = b ∷ [] } ∷ fields_from delimiter Front bs
        else onto_field b (fields_from delimiter (next_state delimiter state b) bs)) ≡ record { text = b ∷ bs; behind = [] } ∷ []
    go true i h = absurd (omega (arith, h))
    go false i h = ap (onto_field b) (i (omega (arith, h)))

-- a record with more than one: its first, the byte behind it, and those of the rest
pub fields-first : (delimiter : Delimiter) (state : FieldState) (line : List ℕ) (n : ℕ) → n ≡ field_length delimiter state line → n < length line →
    fields_from delimiter state line
    ≡ record { text = take n line; behind = get_or line n 0 ∷ [] } ∷ fields_from delimiter Front (drop (n + 1) line)
unfolding field_length fields_from
fields-first delimiter state [] n e inside = absurd (omega arith)
fields-first delimiter state (b ∷ bs) n e inside =
    go (ends_field delimiter state b)
    (fields-first delimiter (next_state delimiter state b) bs (field_length delimiter (next_state delimiter state b) bs) refl) e
  where
    go : (t : Bool) → ((field_length delimiter (next_state delimiter state b) bs) < length bs → fields_from delimiter (next_state delimiter state b) bs
        ≡ record {
          text = take (field_length delimiter (next_state delimiter state b) bs) bs;
          behind = get_or bs (field_length delimiter (next_state delimiter state b) bs) 0 ∷ [];
        } ∷ fields_from delimiter Front (drop ((field_length delimiter (next_state delimiter state b) bs) + 1) bs)) →
        n ≡ (if t then 0 else suc (field_length delimiter (next_state delimiter state b) bs)) →
        (if t then record { text = []; behind = b ∷ [] } ∷ fields_from delimiter Front bs
        else onto_field b (fields_from delimiter (next_state delimiter state b) bs))
        ≡ record { text = take n (b ∷ bs); behind = get_or (b ∷ bs) n 0 ∷ [] } ∷ fields_from delimiter Front (drop (n + 1) (b ∷ bs))
    go true i e = rw e refl
    go false i e =
        let more : n + 1 ≡ suc ((field_length delimiter (next_state delimiter state b) bs) + 1) = omega (arith, e) in
        rw (more, e) (ap (onto_field b) (i (omega (arith, e))))
