-- Groups that a form asks for and no strategy of numbers has: the symbols have other sizes then.
use Rattle.std.specs.Prelude.{◌==◌, Option, Some, None, Result, Ok, Err, if◌then◌else◌}
use Rattle.icu_provider.specs.Answer.{Refusal}
use Rattle.icu_decimal.specs.Loaded.{Provider}
use Rattle.icu_decimal.specs.declared.options.GroupingStrategy.{GroupingStrategy}
use Rattle.icu_decimal.specs.declared.options.GroupingStrategy.TheVariants.{Always}
use Rattle.icu_decimal_data.specs.declared.decimal_symbols.DecimalSymbols.{DecimalSymbols}
use Rattle.icu_decimal_data.specs.declared.grouping_sizes.GroupingSizes.{GroupingSizes}
use Rattle.number_formatters.specs.declared.settings.FormGrouping.{FormGrouping}
use Rattle.number_formatters.specs.declared.settings.FormGrouping.TheVariants.{Strategy, OnAligned, Thousands}

-- the strategy of a grouping; by other sizes separators are always written
abbrev pub strategy_of : Option FormGrouping → Option GroupingStrategy
strategy_of None = None
strategy_of (Some (Strategy strategy)) = Some strategy
strategy_of (Some OnAligned) = Some Always
strategy_of (Some Thousands) = Some Always

-- groups of three digits, where one digit before the last group suffices
abbrev pub thousands : GroupingSizes
thousands = record { primary = 3; secondary = 3; min_grouping = 1 }

-- the sizes themselves, or three where there are no groups; one digit before the last group suffices
abbrev pub aligned : GroupingSizes → GroupingSizes
aligned sizes = if sizes.primary == 0 then thousands else record sizes { min_grouping = 1 }

-- the sizes of a grouping, by those of the symbols
abbrev pub sizes_of : Option FormGrouping → GroupingSizes → GroupingSizes
sizes_of None sizes = sizes
sizes_of (Some (Strategy strategy)) sizes = sizes
sizes_of (Some OnAligned) sizes = aligned sizes
sizes_of (Some Thousands) sizes = thousands

-- an answer with the sizes of a grouping
abbrev pub with_sizes : Option FormGrouping → Result DecimalSymbols Refusal → Result DecimalSymbols Refusal
with_sizes grouping (Ok symbols) = Ok (record symbols { grouping_sizes = sizes_of grouping symbols.grouping_sizes })
with_sizes grouping (Err refusal) = Err refusal

-- symbols with the sizes of a grouping
abbrev pub grouped : Option FormGrouping → Provider DecimalSymbols → Provider DecimalSymbols
grouped grouping symbols id = with_sizes grouping (symbols id)
