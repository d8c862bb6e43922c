-- Laws of digits in groups; each is the contract of a function of `laws`.
use Rattle.std.specs.Prelude.{◌≡◌, ℕ, ◌<◌, List, length}
use Rattle.icu_decimal_symbols.specs.declared.grouping_sizes.GroupingSizes.{GroupingSizes}
use Rattle.icu_decimal_options.specs.declared.options.GroupingStrategy.{GroupingStrategy}
use Rattle.icu_decimal_options.specs.Grouping.{IsGrouping, cut, concatenated, digit_groups}

-- the groups without the separators between them are the digits in order
abbrev pub SeparatorsTakenOut : Type 0
SeparatorsTakenOut = (digits : List ℕ) (sizes : GroupingSizes) (strategy : GroupingStrategy) → concatenated (digit_groups digits sizes strategy) ≡ digits

-- more digits than the primary size have a grouping
abbrev pub DigitsHaveAGrouping : Type 0
DigitsHaveAGrouping = (digits : List ℕ) (primary secondary : ℕ) → 0 < primary → 0 < secondary → primary < length digits →
    IsGrouping digits primary secondary (cut primary secondary digits)

-- more digits than the primary size have at most one grouping
abbrev pub DigitsHaveOneGrouping : Type 0
DigitsHaveOneGrouping = (digits : List ℕ) (primary secondary : ℕ) (groups : List (List ℕ)) → 0 < primary →
    IsGrouping digits primary secondary groups → groups ≡ cut primary secondary digits
