-- What is written of fields, and the column of a name, field by field.
use Rattle.std.proofs.Common.{◌≡◌, ℕ, suc, ◌+◌, ◌<◌, ◌≤◌, true, false, List, [], ◌∷◌, ◌++◌, Option, Some, None}
use Rattle.std.proofs.Common.{refl, sym, ap, ◌∙◌, append_assoc, arith}
use Rattle.std.specs.Prelude.{nat_eq, nat_lt}
use Rattle.std.specs.Cmp.Lexicographic.{pointwise}
use Rattle.std.proofs.lemmas.Bool.Decides.{nat_tests}
use Rattle.std.proofs.lemmas.List.{append-nil}
use Rattle.locnum_lines.specs.Fields.{Field}
use Rattle.locnum_lines.specs.Named.{column_from}
use Rattle.locnum_lines.specs.Settings.{SettingsData}
use Rattle.locnum_ranges.specs.Written.{behind_field, fields_written, front_written, joined_field}
use Rattle.locnum_ranges.specs.declared.writing.RangeFields.{RangeFields}

module _ (index : ℕ) (wanted name : List ℕ) (names : List (List ℕ)) where
  -- the first of the columns
  pub column-here : pointwise nat_eq name wanted ≡ true → column_from index wanted (name ∷ names) ≡ Some index
  unfolding column_from
  column-here h = rw h refl

  -- one behind it
  pub column-later : (following : ℕ) → following ≡ index + 1 → pointwise nat_eq name wanted ≡ false →
      column_from index wanted (name ∷ names) ≡ column_from following wanted names
  unfolding column_from
  column-later following is h =
      let e : following ≡ suc index = omega (arith, is) in
      rw (e, h) refl

-- none
pub column-none : (index : ℕ) (wanted : List ℕ) → column_from index wanted [] ≡ None
unfolding column_from
column-none index wanted = refl

module _ (first index : ℕ) (field : Field) (rest : List Field) where
  -- a field more
  pub front-more : (following : ℕ) → following ≡ index + 1 → index < first →
      front_written first index (field ∷ rest) ≡ (field.text ++ field.behind) ++ front_written first following rest
  unfolding front_written
  front-more following is h =
      let e : following ≡ suc index = omega (arith, is) in
      let before : nat_lt index first ≡ true = grind (arith, nat_tests) in
      rw (e, before) refl

-- behind them, whatever fields are left
pub front-past : (first index : ℕ) (rest : List Field) → first ≤ index → front_written first index rest ≡ []
unfolding front_written
front-past first index [] h = refl
front-past first index (field ∷ rest) h =
    let past : nat_lt index first ≡ false = grind (arith, nat_tests) in
    rw past refl

-- no field
pub front-none : (first index : ℕ) → front_written first index [] ≡ []
unfolding front_written
front-none first index = refl

-- all that is written of them
pub front-ended : (first m index : ℕ) (old out : List ℕ) (all rest : List Field) → first ≡ m →
    old ++ front_written first 1 all ≡ out ++ front_written first index rest → front_written first index rest ≡ [] →
    out ≡ old ++ front_written m 1 all
front-ended first m index old out all rest is i none =
    rw (sym is) (sym (i ∙ ap (λ (k : List ℕ). out ++ k) none ∙ append-nil out))

-- two texts more
pub two-more : (whole out out1 out2 text behind k tail : List ℕ) → whole ≡ out ++ k → k ≡ (text ++ behind) ++ tail →
    out1 ≡ out ++ text → out2 ≡ out1 ++ behind → whole ≡ out2 ++ tail
two-more whole out out1 out2 text behind k tail i more first second =
    rw (second, first) (i ∙ ap (λ (k : List ℕ). out ++ k) more ∙ sym (append_assoc out (text ++ behind) tail)
    ∙ ap (λ (k : List ℕ). k ++ tail) (sym (append_assoc out text behind)))

-- one text more
pub one-more : (whole out out1 text k tail : List ℕ) → whole ≡ out ++ k → k ≡ text ++ tail → out1 ≡ out ++ text → whole ≡ out1 ++ tail
one-more whole out out1 text k tail i more first =
    rw first (i ∙ ap (λ (k : List ℕ). out ++ k) more ∙ sym (append_assoc out text tail))

module _ (settings : SettingsData) (fields : RangeFields) (range : Option (List ℕ)) (index : ℕ) (before : List ℕ) where
  -- a field more
  pub written-more : (field : Field) (rest : List Field) (following : ℕ) (last : List ℕ) → following ≡ index + 1 →
      last ≡ behind_field fields.end index before field.behind →
      fields_written settings fields range index before (field ∷ rest)
      ≡ joined_field settings fields range index before field.text ++ fields_written settings fields range following last rest
  unfolding fields_written
  written-more field rest following last is behind =
      let e : following ≡ suc index = omega (arith, is) in
      rw (e, behind) refl

  -- no field
  pub written-none : fields_written settings fields range index before [] ≡ []
  unfolding fields_written
  written-none = refl
