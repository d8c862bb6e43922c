-- The texts of a locale's number symbols, each as the list of its bytes, and what they may be.
use Rattle.std.specs.Prelude.{◌≡◌, ℕ, ◌≤◌, Bool, true, nat_eq, IsTrue, List, [], ◌∷◌, All, length, sum_by}
use Rattle.std.specs.Str.{is_utf8}
use Rattle.std.specs.Ordering.{on}
use Rattle.std.specs.Cmp.{IsEquivalence}
use Rattle.std.specs.Cmp.Lexicographic.{pointwise, pointwise_decides, bytes_decides}
use Rattle.std.proofs.Common.{ap}
use Rattle.std.proofs.lemmas.Cmp.{on_equiv, lists_equiv, nat_list_eq_equiv}
use Rattle.icu_provider.specs.NumberingSystem.{IsNumberingSystem}

-- the seven texts (ICU4X DecimalSymbolsStrs)
pub record SymbolTexts : Type 0 where
  pub minus_sign_prefix : List ℕ
  pub minus_sign_suffix : List ℕ
  pub plus_sign_prefix : List ℕ
  pub plus_sign_suffix : List ℕ
  pub decimal_separator : List ℕ
  pub grouping_separator : List ℕ
  pub numsys : List ℕ

-- the seven texts in their order
abbrev pub texts_of : SymbolTexts → List (List ℕ)
texts_of s = s.minus_sign_prefix ∷ s.minus_sign_suffix ∷ s.plus_sign_prefix ∷ s.plus_sign_suffix ∷ s.decimal_separator ∷ s.grouping_separator ∷
    s.numsys ∷ []

-- how many bytes the seven texts are together
abbrev pub total_len : SymbolTexts → ℕ
total_len s = sum_by length (texts_of s)

-- What symbols may be: at most 255 bytes together, each a text, and the last the name of a numbering system.
pub record IsSymbolTexts (s : SymbolTexts) : Type 0 where
  pub short : total_len s ≤ 255
  pub texts : All (λ t. IsTrue (is_utf8 t)) (texts_of s)
  pub system : IsNumberingSystem s.numsys

-- whether each of the seven texts is the same
abbrev pub same_texts : SymbolTexts → SymbolTexts → Bool
same_texts = on texts_of (pointwise (pointwise nat_eq))

-- this is an equivalence
pub same_texts_laws : IsEquivalence same_texts
same_texts_laws = on_equiv texts_of (lists_equiv nat_list_eq_equiv)

same_seven : (s t : SymbolTexts) → texts_of s ≡ texts_of t → s ≡ t
same_seven s t e =
    let minus_sign_prefix_same : s.minus_sign_prefix ≡ t.minus_sign_prefix = cc in
    let minus_sign_suffix_same : s.minus_sign_suffix ≡ t.minus_sign_suffix = cc in
    let plus_sign_prefix_same : s.plus_sign_prefix ≡ t.plus_sign_prefix = cc in
    let plus_sign_suffix_same : s.plus_sign_suffix ≡ t.plus_sign_suffix = cc in
    let decimal_separator_same : s.decimal_separator ≡ t.decimal_separator = cc in
    let grouping_separator_same : s.grouping_separator ≡ t.grouping_separator = cc in
    let numsys_same : s.numsys ≡ t.numsys = cc in
    λ i. record {
      minus_sign_prefix = minus_sign_prefix_same i;
      minus_sign_suffix = minus_sign_suffix_same i;
      plus_sign_prefix = plus_sign_prefix_same i;
      plus_sign_suffix = plus_sign_suffix_same i;
      decimal_separator = decimal_separator_same i;
      grouping_separator = grouping_separator_same i;
      numsys = numsys_same i;
    }

-- they are the same exactly where all seven texts are
pub same_texts_decides : (a b : SymbolTexts) → (same_texts a b ≡ true → a ≡ b) × (a ≡ b → same_texts a b ≡ true)
same_texts_decides a b =
    let d = pointwise_decides bytes_decides (texts_of a) (texts_of b) in
    (λ h. same_seven a b (d.0 h), λ e. d.1 (ap texts_of e))
