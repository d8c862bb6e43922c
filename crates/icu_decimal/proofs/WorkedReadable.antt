-- English symbols and digits are readable: an instance of the law of plain texts.
use Rattle.std.proofs.Common.{◌≡◌, ◌≢◌, ℕ, zero, suc, ◌<◌, arith, refl, sym, ap, ◌∙◌, Bool, true, false, ◌==◌, List, [], ◌∷◌}
use Rattle.std.proofs.Common.{length, All, AllPairs, Contains, slice_index_or, if◌then◌else◌, codes}
use Rattle.std.specs.Str.{chars}
use Rattle.std.proofs.lemmas.Bool.{eq-eqb}
use Rattle.std.proofs.lemmas.List.{get_or_default}
use Rattle.fixed_decimal.specs.declared.signs.Sign.{Sign}
use Rattle.fixed_decimal.specs.declared.signs.Sign.TheVariants.{Negative, Positive, None as NoSign}
use Rattle.icu_decimal_symbols.specs.DecimalSymbols.{english_symbols}
use Rattle.icu_decimal_symbols.specs.Symbols.{SymbolTexts}
use Rattle.icu_decimal_readable.specs.Readable.{Surroundings, affixes, IsFreeOfDigits, IsReadable}

-- the texts of English symbols
abbrev pub texts : SymbolTexts
texts = english_symbols.strings

-- the digits from 0 to 9
abbrev pub digits : List ℕ
digits = codes "0123456789"

-- tests that compute
abbrev pub is_among : List ℕ → ℕ → Bool
is_among [] c = false
is_among (d ∷ ds) c = if d == c then true else is_among ds c

-- whether none of some characters stands in a list, computed
abbrev pub has_none_of : List ℕ → List ℕ → Bool
has_none_of ds [] = true
has_none_of ds (c ∷ cs) = if is_among ds c then false else has_none_of ds cs

-- whether no character comes twice, computed
abbrev pub has_no_repeat : List ℕ → Bool
has_no_repeat [] = true
has_no_repeat (d ∷ ds) = if is_among ds d then false else has_no_repeat ds

among : (ds : List ℕ) (c k : ℕ) → k < length ds → slice_index_or ds k c ≡ c → is_among ds c ≡ true
among [] c k l e = absurd (omega arith)
among (d ∷ ds) c zero l e = rw (eq-eqb d c e) refl
among (d ∷ ds) c (suc k) l e = elim (d == c) as (λ b. (if b then true else is_among ds c) ≡ true)
    [ true ↦ refl | false ↦ among ds c k (omega arith) e ]

-- of two tests that have to fail, both do
pub neither : (b r : Bool) → (if b then false else r) ≡ true → (b ≡ false) × (r ≡ true)
neither true r e = cc
neither false r e = (refl, e)

-- what is computed is so
pub none_of : (ds cs : List ℕ) → has_none_of ds cs ≡ true → All (λ c. ¬ (Contains ds c)) cs
none_of ds [] e k d l has = absurd (omega arith)
none_of ds (c ∷ cs) e zero d l (j, within, is) =
    let found = among ds c j within is in
    let missed = (neither (is_among ds c) (has_none_of ds cs) e).0 in
    cc
none_of ds (c ∷ cs) e (suc k) d l has = none_of ds cs (neither (is_among ds c) (has_none_of ds cs) e).1 k d (omega arith) has

no_repeat : (ds : List ℕ) → has_no_repeat ds ≡ true → AllPairs (λ c d. c ≢ d) ds
no_repeat [] e i j d less l same = absurd (omega arith)
no_repeat (c ∷ ds) e i zero d less l same = absurd (omega arith)
no_repeat (c ∷ ds) e zero (suc j) d less l same =
    let within : j < length ds = omega arith in
    let found = among ds c j within (get_or_default ds j c d within ∙ sym same) in
    let missed = (neither (is_among ds c) (has_no_repeat ds) e).0 in
    cc
no_repeat (c ∷ ds) e (suc i) (suc j) d less l same = no_repeat ds (neither (is_among ds c) (has_no_repeat ds) e).1 i j d (omega arith) (omega arith) same

affixes_free : (s : Sign) → IsFreeOfDigits digits (affixes texts s)
unfolding chars
affixes_free NoSign = record { before_free = none_of digits [] refl; after_free = none_of digits [] refl }
affixes_free Negative = record { before_free = none_of digits (45 ∷ []) refl; after_free = none_of digits [] refl }
affixes_free Positive = record { before_free = none_of digits (43 ∷ []) refl; after_free = none_of digits [] refl }

-- English affixes determine their sign
pub sign_distinct : (s t : Sign) → affixes texts s ≡ affixes texts t → s ≡ t
unfolding chars
sign_distinct NoSign NoSign e = refl
sign_distinct NoSign Negative e = let before = ap (λ (a : Surroundings). a.before) e in cc
sign_distinct NoSign Positive e = let before = ap (λ (a : Surroundings). a.before) e in cc
sign_distinct Negative NoSign e = let before = ap (λ (a : Surroundings). a.before) e in cc
sign_distinct Negative Negative e = refl
sign_distinct Negative Positive e = let before = ap (λ (a : Surroundings). a.before) e in cc
sign_distinct Positive NoSign e = let before = ap (λ (a : Surroundings). a.before) e in cc
sign_distinct Positive Negative e = let before = ap (λ (a : Surroundings). a.before) e in cc
sign_distinct Positive Positive e = refl

-- English numbers are readable
pub english_readable : IsReadable texts digits
unfolding chars
english_readable = record {
  ten = refl;
  different = no_repeat digits refl;
  affixes_free = affixes_free;
  decimal_free = none_of digits (chars texts.decimal_separator) refl;
  grouping_free = none_of digits (chars texts.grouping_separator) refl;
  decimal_some = λ e. cc;
  separators_differ = λ e. cc;
  sign_distinct = sign_distinct;
}
