-- When two tables are equal. The laws stand here because the impls of the comparisons cite them.
use Rattle.std.specs.Prelude.{Bool, ◌&&◌, nat_eq, List}
use Rattle.std.specs.Cmp.{IsEquivalence}
use Rattle.std.specs.Cmp.Lexicographic.{pointwise}
use Rattle.std.proofs.lemmas.Cmp.{and_equiv, on_equiv, nat_eq_equiv, lists_equiv}
use Rattle.icu_pattern.specs.Backends.{same_pattern_equiv}
use Rattle.icu_plurals.specs.SameElements.{same_elements-equiv}
use Rattle.icu_decimal_data.specs.CompactTable.{TableEntry}
use Rattle.icu_decimal_data.specs.Kept.{same_patterns}

-- whether the types, the exponents and all patterns are equal
abbrev pub same_entry : TableEntry → TableEntry → Bool
same_entry e f = nat_eq e.log10_type f.log10_type && (nat_eq e.exponent f.exponent && same_patterns e.elements f.elements)

-- whether all entries are equal
abbrev pub same_table : List TableEntry → List TableEntry → Bool
same_table = pointwise same_entry

-- equality of entries is an equivalence
pub same_entry_laws : IsEquivalence same_entry
same_entry_laws = and_equiv (on_equiv (λ (e : TableEntry). e.log10_type) nat_eq_equiv)
    (and_equiv (on_equiv (λ (e : TableEntry). e.exponent) nat_eq_equiv) (on_equiv (λ (e : TableEntry). e.elements) (same_elements-equiv same_pattern_equiv)))

-- equality of tables is an equivalence
pub same_table_laws : IsEquivalence same_table
same_table_laws = lists_equiv same_entry_laws
