-- Two things that are read one after the other: where the pair of them fails, so does whatever is made of both.
use Rattle.std.specs.Prelude.{Result, Ok, Err}
use Rattle.icu_table_entries.specs.Reading.{◌>>=◌, Fails}
use Rattle.icu_table_entries.specs.declared.error.TableError.{TableError}
use Rattle.icu_table_entries.proofs.Lists.{failed}

-- a pair that fails lets nothing be made of it
pub pair-fails : {A B C : Type 0} (e : TableError) (first : Result A TableError) (second : Result B TableError) (made : A → B → C) →
    Fails {Y = A × B} e (first >>= λ x. (second >>= λ y. Ok (x, y))) → Fails {Y = C} e (first >>= λ x. (second >>= λ y. Ok (made x y)))
pair-fails {A = A} {B = B} {C = C} e first second made fails = go first second (failed e _ (λ (pair : A × B). Ok (made pair.0 pair.1)) fails)
  where
    go : (r : Result A TableError) (s : Result B TableError) →
        Fails {Y = C} e ((r >>= λ x. (s >>= λ y. Ok (x, y))) >>= λ (pair : A × B). Ok (made pair.0 pair.1))
        → Fails {Y = C} e (r >>= λ x. (s >>= λ y. Ok (made x y)))
    go (Err f) s told = told
    go (Ok x) (Err f) told = told
    go (Ok x) (Ok y) told = told
