-- The names of columns, field by field.
use Rattle.std.proofs.Common.{◌≡◌, ℕ, ◌+◌, ◌<◌, List, [], ◌∷◌, ◌++◌, length, drop, take, refl, sym, ap, ◌∙◌, append_assoc}
use Rattle.std.specs.Prelude.{map}
use Rattle.std.proofs.Math.Seq.{take-length}
use Rattle.std.proofs.lemmas.List.{map-append}
use Rattle.locnum_lines.specs.Fields.{field_length, fields_from}
use Rattle.locnum_lines.specs.Stage.{name_in, names_in, names_of}
use Rattle.locnum_lines.specs.declared.cutting.FieldState.TheVariants.{Front}
use Rattle.locnum_lines.specs.declared.settings.Delimiter.{Delimiter}
use Rattle.locnum_lines.proofs.FirstField.{fields-first, fields-last}

module _ (delimiter : Delimiter) (line : List ℕ) (n : ℕ) (is : n ≡ field_length delimiter Front line) where
  -- of a record with one field
  pub names-last : n ≡ length line → names_of delimiter (fields_from delimiter Front line) ≡ name_in delimiter (take n line) ∷ []
  names-last all =
      let whole : line ≡ take n line = sym (ap (λ k. take k line) all ∙ take-length line) in
      ap (names_of delimiter) (fields-last delimiter Front line (sym is ∙ all)) ∙ ap (λ (k : List ℕ). name_in delimiter k ∷ []) whole

  -- of a record with more than one
  pub names-first : n < length line → names_of delimiter (fields_from delimiter Front line)
      ≡ name_in delimiter (take n line) ∷ names_of delimiter (fields_from delimiter Front (drop (n + 1) line))
  names-first inside = ap (names_of delimiter) (fields-first delimiter Front line n is inside)

-- of a whole record
pub names_in-is : (delimiter : Delimiter) (line : List ℕ) → names_in delimiter line ≡ names_of delimiter (fields_from delimiter Front line)
unfolding names_in
names_in-is delimiter line = refl

-- a name more
pub names-more : {V : Type 0} (f : V → List ℕ) (names names' : List V) (v : V) (x : List ℕ) (whole rest rest' : List (List ℕ)) →
    whole ≡ map f names ++ rest → rest ≡ x ∷ rest' → f v ≡ x → names' ≡ names ++ v ∷ [] → whole ≡ map f names' ++ rest'
names-more f names names' v x whole rest rest' all first is more =
    rw (more, map-append f names (v ∷ []))
    (all ∙ ap (λ (k : List (List ℕ)). map f names ++ k) (first ∙ ap (λ (y : List ℕ). y ∷ rest') (sym is))
    ∙ sym (append_assoc (map f names) (f v ∷ []) rest'))
