-- What holds of all that the formatters write; each is the contract of a function of `laws`.
use Rattle.std.specs.Prelude.{◌≡◌, ◌↔◌, ℕ, List, Option, Some, None}
use Rattle.fixed_decimal.specs.declared.signs.Sign.{Sign}
use Rattle.fixed_decimal.specs.Unsigned.{Unsigned}
use Rattle.writeable.specs.Events.{Event}
use Rattle.icu_plurals.specs.Rules.{Rule}
use Rattle.icu_decimal_data.specs.CompactTable.{TableEntry}
use Rattle.icu_decimal_data.specs.declared.decimal_symbols.DecimalSymbols.{DecimalSymbols}
use Rattle.icu_decimal_options.specs.declared.options.GroupingStrategy.{GroupingStrategy}
use Rattle.icu_decimal_options.specs.declared.options.GroupingStrategy.TheVariants.{Auto, Always}
use Rattle.icu_decimal.specs.CompactFormat.{CompactFormat, IsCompactFormat, events_with_exponent}
use Rattle.icu_decimal.specs.Decimal.{DecimalFormat, decimal_events}
pub use Rattle.icu_decimal_options.specs.GroupingLaws.{SeparatorsTakenOut, DigitsHaveAGrouping, DigitsHaveOneGrouping}

-- options with `Auto` and with `Always` write the same
abbrev pub AutoAndAlwaysWriteAlike : Type 0
AutoAndAlwaysWriteAlike = (symbols : DecimalSymbols) (digits : List ℕ) (sign : Sign) (u : Unsigned) →
    decimal_events (record { symbols = symbols; digits = digits; options = record { grouping_strategy = Some Auto } }) sign u
    ≡ decimal_events (record { symbols = symbols; digits = digits; options = record { grouping_strategy = Some Always } }) sign u

-- options without a strategy act as with `Auto`
abbrev pub NoneActsAsAuto : Type 0
NoneActsAsAuto = (symbols : DecimalSymbols) (digits : List ℕ) (sign : Sign) (u : Unsigned) →
    decimal_events (record { symbols = symbols; digits = digits; options = record { grouping_strategy = None } }) sign u
    ≡ decimal_events (record { symbols = symbols; digits = digits; options = record { grouping_strategy = Some Auto } }) sign u

-- a plain format with this strategy, or none
abbrev pub plain_under : DecimalSymbols → List ℕ → Option GroupingStrategy → DecimalFormat
plain_under symbols digits strategy = record { symbols = symbols; digits = digits; options = record { grouping_strategy = strategy } }

-- a compact format with this strategy, or none
abbrev pub compact_under : DecimalSymbols → List ℕ → List Rule → List TableEntry → Option GroupingStrategy → CompactFormat
compact_under symbols digits rules table strategy =
    record { decimal = plain_under symbols digits strategy; rules = rules; table = table }

-- two compact formats write the same, by `format` and by `format_with_exponent`
pub record WriteAlike (one other : CompactFormat) : Type 0 where
  pub formatted : (sign : Sign) (d significand : Unsigned) (exponent : ℕ) (events : List Event) →
      IsCompactFormat one sign d significand exponent events ↔ IsCompactFormat other sign d significand exponent events
  pub given : (sign : Sign) (significand : Unsigned) (exponent : ℕ) →
      events_with_exponent one sign significand exponent ≡ events_with_exponent other sign significand exponent

-- compact formats with `Auto` and with `Always` write the same
abbrev pub CompactAutoAndAlwaysWriteAlike : Type 0
CompactAutoAndAlwaysWriteAlike = (symbols : DecimalSymbols) (digits : List ℕ) (rules : List Rule) (table : List TableEntry) →
    WriteAlike (compact_under symbols digits rules table (Some Auto)) (compact_under symbols digits rules table (Some Always))

-- and without a strategy they act as with `Auto`
abbrev pub CompactNoneActsAsAuto : Type 0
CompactNoneActsAsAuto = (symbols : DecimalSymbols) (digits : List ℕ) (rules : List Rule) (table : List TableEntry) →
    WriteAlike (compact_under symbols digits rules table None) (compact_under symbols digits rules table (Some Auto))
