-- Symbols with the sizes of digit groups.
use Rattle.std.specs.Prelude.{[], codes, Bool, nat_eq}
use Rattle.std.specs.Ordering.{on, eq_of_both}
use Rattle.std.specs.Cmp.{IsEquivalence, and_equiv}
use Rattle.std.proofs.lemmas.Cmp.{on_equiv, nat_eq_equiv}
use Rattle.icu_decimal_symbols.specs.Symbols.{same_texts, same_texts_laws}
use Rattle.icu_decimal_symbols.specs.declared.grouping_sizes.GroupingSizes.{GroupingSizes}
use Rattle.icu_decimal_symbols.specs.declared.decimal_symbols.DecimalSymbols.{DecimalSymbols}

-- English symbols: ASCII signs before the number, a point, commas, Latin digits, groups of three from four digits on
abbrev pub english_symbols : DecimalSymbols
english_symbols = record {
  strings = record {
    minus_sign_prefix = codes "-";
    minus_sign_suffix = [];
    plus_sign_prefix = codes "+";
    plus_sign_suffix = [];
    decimal_separator = codes ".";
    grouping_separator = codes ",";
    numsys = codes "latn";
  };
  grouping_sizes = record { primary = 3; secondary = 3; min_grouping = 1 };
}

-- whether the three sizes are the same
abbrev pub same_sizes : GroupingSizes → GroupingSizes → Bool
same_sizes = eq_of_both (on (λ s. s.primary) nat_eq) (eq_of_both (on (λ s. s.secondary) nat_eq) (on (λ s. s.min_grouping) nat_eq))

-- whether the seven texts and the three sizes are the same
abbrev pub same_symbols : DecimalSymbols → DecimalSymbols → Bool
same_symbols = eq_of_both (on (λ s. s.strings) same_texts) (on (λ s. s.grouping_sizes) same_sizes)

-- this is an equivalence
pub same_symbols_laws : IsEquivalence same_symbols
same_symbols_laws =
    and_equiv (on_equiv (λ s. s.strings) same_texts_laws)
    (on_equiv (λ s. s.grouping_sizes) (and_equiv (on_equiv (λ s. s.primary) nat_eq_equiv)
    (and_equiv (on_equiv (λ s. s.secondary) nat_eq_equiv) (on_equiv (λ s. s.min_grouping) nat_eq_equiv))))
