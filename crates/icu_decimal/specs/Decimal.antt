-- What a plain formatter writes for a decimal, as one list of events (ICU4X `DecimalFormatter`; UTS 35, Number Formatting).
use Rattle.std.specs.Prelude.{ℕ, List, [], ◌∷◌, ◌++◌, codes, unwrap_or}
use Rattle.writeable.specs.Events.{Event, text_events, digit_events}
pub use Rattle.writeable.specs.Groups.{group_events}
use Rattle.icu_decimal_data.specs.declared.decimal_symbols.DecimalSymbols.{DecimalSymbols}
use Rattle.fixed_decimal.specs.declared.signs.Sign.{Sign}
use Rattle.fixed_decimal.specs.Unsigned.{Unsigned, integer, fraction}
use Rattle.icu_decimal_options.specs.declared.options.GroupingStrategy.{GroupingStrategy}
use Rattle.icu_decimal_options.specs.declared.options.GroupingStrategy.TheVariants.{Auto}
use Rattle.icu_decimal_options.specs.declared.options.DecimalFormatterOptions.{DecimalFormatterOptions}
use Rattle.icu_decimal_options.specs.Grouping.{digit_groups, joined}
use Rattle.icu_decimal.specs.Part.{in_decimal_part}
use Rattle.icu_decimal.specs.Signed.{affixes_for, affixed_events}

-- what determines the output of a plain formatter: the symbols of a locale, the character of each digit, and the options
pub record DecimalFormat : Type 0 where
  pub symbols : DecimalSymbols
  pub digits : List ℕ
  pub options : DecimalFormatterOptions

-- the strategy of the options; none acts as `Auto`
abbrev pub strategy_of : DecimalFormatterOptions → GroupingStrategy
strategy_of options = unwrap_or options.grouping_strategy Auto

-- the separator of groups, as a part of its own
abbrev pub separator_events : DecimalFormat → List Event
separator_events format = in_decimal_part (codes "group") (text_events format.symbols.strings.grouping_separator)

-- digits in groups, with a separator between two
abbrev pub grouped_events : DecimalFormat → List ℕ → List Event
grouped_events format ds =
    joined (separator_events format) (group_events format.digits (digit_groups ds format.symbols.grouping_sizes (strategy_of format.options)))

-- the digits at power 0 and above, as the integer part
abbrev pub integer_events : DecimalFormat → List ℕ → List Event
integer_events format ds = in_decimal_part (codes "integer") (grouped_events format ds)

-- the decimal separator and the digits below power 0, as parts; without such digits nothing
abbrev pub fraction_events : DecimalFormat → List ℕ → List Event
fraction_events format [] = []
fraction_events format (d ∷ ds) =
    in_decimal_part (codes "decimal") (text_events format.symbols.strings.decimal_separator)
    ++ in_decimal_part (codes "fraction") (digit_events format.digits (d ∷ ds))

-- a number without its sign: every written digit
abbrev pub unsigned_events : DecimalFormat → Unsigned → List Event
unsigned_events format u = integer_events format (integer u) ++ fraction_events format (fraction u)

-- the events of a value with a sign around them: both affixes of a plus or a minus stand in parts, empty ones too
abbrev pub signed_events : DecimalSymbols → Sign → List Event → List Event
signed_events symbols sign es = affixed_events (affixes_for symbols sign) es

-- a decimal: the number with its sign around it
abbrev pub decimal_events : DecimalFormat → Sign → Unsigned → List Event
decimal_events format sign u = signed_events format.symbols sign (unsigned_events format u)
