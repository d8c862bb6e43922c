-- Identifiers of data.
use Rattle.std.specs.Prelude.{ℕ, Bool, List, Option, option_map, nat_eq}
use Rattle.std.specs.Cmp.{IsEquivalence}
use Rattle.std.specs.Cmp.Lexicographic.{pointwise, options_equiv}
use Rattle.std.specs.Option.{option_eq}
use Rattle.std.specs.Ordering.{eq_of_both, on}
use Rattle.std.proofs.lemmas.Cmp.{and_equiv, on_equiv, nat_list_eq_equiv}
use Rattle.icu_provider.specs.declared.identifier.DataIdentifierBorrowed.{DataIdentifierBorrowed}

-- a numbering system's name, or none, and a locale's text
pub record Identifier : Type 0 where
  pub system : Option (List ℕ)
  pub locale : List ℕ

-- the identifier that is borrowed
abbrev pub identifier_of : DataIdentifierBorrowed → Identifier
identifier_of id = record { system = option_map (λ s. s.now) id.system; locale = id.locale.now }

-- two identifiers are equal where their numbering systems are and their locales are
abbrev pub same_identifier : Identifier → Identifier → Bool
same_identifier = eq_of_both (on (λ (i : Identifier). i.system) (option_eq (pointwise nat_eq))) (on (λ (i : Identifier). i.locale) (pointwise nat_eq))

-- equality of identifiers is an equivalence
pub same_identifier_equiv : IsEquivalence same_identifier
same_identifier_equiv = and_equiv (on_equiv (λ (i : Identifier). i.system) (options_equiv nat_list_eq_equiv))
    (on_equiv (λ (i : Identifier). i.locale) nat_list_eq_equiv)
