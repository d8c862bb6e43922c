-- What the tests of characters find.
use Rattle.std.proofs.Common.{◌≡◌, ◌⊎◌, inl, inr, ◌==◌, ◌||◌, not, refl, sym, ap, subst}
use Rattle.std.proofs.Common.{ℕ, zero, suc, ◌<◌, arith, List, [], ◌∷◌}
use Rattle.std.proofs.Common.{length, slice_index_or, Bool, true, false, Contains, ◌+◌, if◌then◌else◌}
use Rattle.std.specs.Str.{chars}
use Rattle.std.proofs.lemmas.Bool.{and_parts, eq-eqb, eqb-true}
use Rattle.icu_decimal.proofs.Runs.{Begins, Every, every_of_all}
use Rattle.icu_decimal_symbols.specs.Symbols.{SymbolTexts}
use Rattle.icu_ranges_readable.specs.Characters.{begins_visibly, begins_with_space, has, has_any, has_mark, is_mark}
use Rattle.icu_ranges_readable.proofs.Spaces.{Has, IsNoSpace, no_spaces}

-- nothing is both
pub clashing : (b : Bool) → b ≡ true → b ≡ false → ⊥
clashing b t f = cc

-- one of two holds
either : (a b : Bool) → (a || b) ≡ true → (a ≡ true) ⊎ (b ≡ true)
either true b e = inl refl
either false b e = inr e

-- the second of two that hold in any case
or_true : (a b : Bool) → b ≡ true → (a || b) ≡ true
or_true true b e = refl
or_true false b e = e

-- what isn't
not_true : (a : Bool) → not a ≡ true → a ≡ false
not_true true e = cc
not_true false e = refl

-- a character that is found stands there
pub has_found : (c : ℕ) (xs : List ℕ) → has c xs ≡ true → Has c xs
has_found c [] e = cc
has_found c (x ∷ xs) e = go (either (x == c) (has c xs) e) (has_found c xs)
  where
    go : ((x == c) ≡ true) ⊎ (has c xs ≡ true) → (has c xs ≡ true → Has c xs) → Has c (x ∷ xs)
    go (inl is) found = inl (eqb-true x c is)
    go (inr more) found = inr (found more)

-- and one that stands there is found
pub found_has : (c : ℕ) (xs : List ℕ) → Has c xs → has c xs ≡ true
found_has c [] h = absurd h
found_has c (x ∷ xs) (inl is) = ap (λ b. b || has c xs) (eq-eqb x c is)
found_has c (x ∷ xs) (inr h) = or_true (x == c) (has c xs) (found_has c xs h)

-- what is contained stands there
pub has_contained : (c : ℕ) (xs : List ℕ) → Contains xs c → Has c xs
has_contained c [] (k, l, is) = absurd (omega arith)
has_contained c (x ∷ xs) (zero, l, is) = inl is
has_contained c (x ∷ xs) (suc k, l, is) = inr (has_contained c xs (k, omega arith, is))

-- a character that isn't found isn't contained
pub not_contained : (c : ℕ) (xs : List ℕ) → has c xs ≡ false → ¬ (Contains xs c)
not_contained c xs e is = clashing (has c xs) (found_has c xs (has_contained c xs is)) e

-- one of some that is found
any_found : (cs xs : List ℕ) (c : ℕ) → Has c cs → has c xs ≡ true → has_any cs xs ≡ true
any_found [] xs c h e = absurd h
any_found (d ∷ cs) xs c (inl is) e = ap (λ b. b || has_any cs xs) (subst (λ x. has x xs ≡ true) (sym is) e)
any_found (d ∷ cs) xs c (inr h) e = or_true (has d xs) (has_any cs xs) (any_found cs xs c h e)

-- where none of some is found, no character is one of them
pub none_found : (cs xs : List ℕ) → has_any cs xs ≡ false → Every (λ x. ¬ (Contains cs x)) xs
none_found cs xs e = every_of_all (λ x. ¬ (Contains cs x)) xs (λ k d l is.
    clashing (has_any cs xs)
    (any_found cs xs (slice_index_or xs k d) (has_contained (slice_index_or xs k d) cs is)
    (found_has (slice_index_or xs k d) xs (has_contained (slice_index_or xs k d) xs (k, l, reads xs k d (slice_index_or xs k d) l))))
    e)
  where
    -- within a list the default isn't read
    reads : (ys : List ℕ) (k d e : ℕ) → k < length ys → slice_index_or ys k e ≡ slice_index_or ys k d
    reads [] k d e l = absurd (omega arith)
    reads (y ∷ ys) zero d e l = refl
    reads (y ∷ ys) (suc k) d e l = reads ys k d e (omega arith)

-- a mark of a text
pub record IsMarkIn (texts : SymbolTexts) (xs : List ℕ) : Type 0 where
  pub mark : ℕ
  pub stands : Has mark xs
  pub is_no_space : IsNoSpace mark
  pub no_decimal : has mark (chars texts.decimal_separator) ≡ false
  pub no_grouping : has mark (chars texts.grouping_separator) ≡ false

-- the first mark of a text that has one
pub mark_found : (texts : SymbolTexts) (xs : List ℕ) → has_mark texts xs ≡ true → IsMarkIn texts xs
mark_found texts [] e = cc
mark_found texts (c ∷ cs) e = go (either (is_mark texts c) (has_mark texts cs) e) (mark_found texts cs)
  where
    go : (is_mark texts c ≡ true) ⊎ (has_mark texts cs ≡ true) → (has_mark texts cs ≡ true → IsMarkIn texts cs) → IsMarkIn texts (c ∷ cs)
    go (inl is) found =
        let parts = and_parts _ _ is in
        let separators = and_parts _ _ parts.1 in
        record {
          mark = c;
          stands = inl refl;
          is_no_space = λ space. clashing (c == 32) (eq-eqb c 32 space) (not_true (c == 32) parts.0);
          no_decimal = not_true (has c (chars texts.decimal_separator)) separators.0;
          no_grouping = not_true (has c (chars texts.grouping_separator)) separators.1;
        }
    go (inr more) found =
        let m = found more in
        record {
          mark = m.mark;
          stands = inr m.stands;
          is_no_space = m.is_no_space;
          no_decimal = m.no_decimal;
          no_grouping = m.no_grouping;
        }

-- a text that begins with no space
pub visible_begins : (xs : List ℕ) → begins_visibly xs ≡ true → Begins IsNoSpace xs
visible_begins [] e = tt
visible_begins (c ∷ cs) e = λ space. clashing (c == 32) (eq-eqb c 32 space) (not_true (c == 32) e)

-- one that doesn't begin with a space
pub no_space_begins : (xs : List ℕ) → begins_with_space xs ≡ false → Begins IsNoSpace xs
no_space_begins [] e = tt
no_space_begins (c ∷ cs) e = λ space. clashing (c == 32) (eq-eqb c 32 space) e

-- it has a character that isn't a space
pub visible_count : (xs : List ℕ) → begins_visibly xs ≡ true → 0 < no_spaces xs
visible_count [] e = cc
visible_count (c ∷ cs) e =
    elim (c == 32) as (λ b. not b ≡ true → 0 < (if b then 0 else 1) + no_spaces cs) [ true ↦ (λ none. cc) | false ↦ (λ some. omega arith) ] e
