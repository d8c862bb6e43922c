-- The affixes of a sign around a value.
use Rattle.std.specs.Prelude.{ℕ, List, [], ◌++◌, Bool, Option, Some, None, nat_eq, codes}
use Rattle.std.specs.Borrow.{Bor}
use Rattle.std.specs.Cmp.{IsEquivalence}
use Rattle.std.specs.Cmp.Lexicographic.{pointwise}
use Rattle.std.specs.Ordering.{eq_of_both, on}
use Rattle.std.proofs.lemmas.Cmp.{and_equiv, on_equiv, nat_list_eq_equiv}
use Rattle.fixed_decimal.specs.declared.signs.Sign.{Sign}
use Rattle.fixed_decimal.specs.declared.signs.Sign.TheVariants.{Negative, Positive, None as NoSign}
use Rattle.writeable.specs.Events.{Event, text_events}
use Rattle.writeable.specs.declared.sink.Part.{Part}
use Rattle.icu_decimal_data.specs.declared.decimal_symbols.DecimalSymbols.{DecimalSymbols}
use Rattle.icu_decimal.specs.Part.{in_part}

-- what stands before and after a value, each text in a part of this category and name
pub record Affixes : Type 0 where
  pub category : List ℕ
  pub name : List ℕ
  pub prefix : List ℕ
  pub suffix : List ℕ

-- a value, and the affixes of its sign; none without a sign
pub record Signed (T : Type 0) : Type 0 where
  pub affixes : Option Affixes
  pub value : T

-- a part and two texts as affixes
abbrev pub affixes_of : Part × Bor (List ℕ) × Bor (List ℕ) → Affixes
affixes_of (part, prefix, suffix) = record { category = part.category.now; name = part.value.now; prefix = prefix.now; suffix = suffix.now }

-- the affixes of a sign: both texts of a plus or a minus, empty ones too; none without a sign
abbrev pub affixes_for : DecimalSymbols → Sign → Option Affixes
affixes_for symbols NoSign = None
affixes_for symbols Negative = Some (record {
  category = codes "decimal";
  name = codes "minusSign";
  prefix = symbols.strings.minus_sign_prefix;
  suffix = symbols.strings.minus_sign_suffix;
})
affixes_for symbols Positive = Some (record {
  category = codes "decimal";
  name = codes "plusSign";
  prefix = symbols.strings.plus_sign_prefix;
  suffix = symbols.strings.plus_sign_suffix;
})

-- what stands before a value, in its part; nothing without affixes
abbrev pub prefix_events : Option Affixes → List Event
prefix_events None = []
prefix_events (Some affixes) = in_part affixes.category affixes.name (text_events affixes.prefix)

-- what stands after a value, in its part; nothing without affixes
abbrev pub suffix_events : Option Affixes → List Event
suffix_events None = []
suffix_events (Some affixes) = in_part affixes.category affixes.name (text_events affixes.suffix)

-- the events between the two affixes, each in its part; without affixes the events alone
abbrev pub affixed_events : Option Affixes → List Event → List Event
affixed_events None es = es
affixed_events (Some affixes) es = prefix_events (Some affixes) ++ (es ++ suffix_events (Some affixes))

-- whether the parts and the texts are equal
abbrev pub same_affixes : Affixes → Affixes → Bool
same_affixes =
    eq_of_both (on (λ (a : Affixes). a.category) (pointwise nat_eq))
    (eq_of_both (on (λ (a : Affixes). a.name) (pointwise nat_eq))
    (eq_of_both (on (λ (a : Affixes). a.prefix) (pointwise nat_eq))
    (on (λ (a : Affixes). a.suffix) (pointwise nat_eq))))

-- this is an equivalence
pub same_affixes_laws : IsEquivalence same_affixes
same_affixes_laws =
    and_equiv (on_equiv (λ (a : Affixes). a.category) nat_list_eq_equiv)
    (and_equiv (on_equiv (λ (a : Affixes). a.name) nat_list_eq_equiv)
    (and_equiv (on_equiv (λ (a : Affixes). a.prefix) nat_list_eq_equiv)
    (on_equiv (λ (a : Affixes). a.suffix) nat_list_eq_equiv)))
