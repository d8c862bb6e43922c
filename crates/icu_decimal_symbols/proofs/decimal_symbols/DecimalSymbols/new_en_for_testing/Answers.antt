-- Goals that a search finds; it is not tried longer where one is false.
use Rattle.std.proofs.Common.{rules}
use Rattle.icu_provider.specs.NumberingSystem.{is_numbering_system}
use Rattle.icu_decimal_symbols.proofs.decimal_symbols.DecimalSymbols.new_en_for_testing.Goals as goal

pub returns-in_err-build-clause-english : goal.returns-in_err-build-clause-english
returns-in_err-build-clause-english c = search rules

pub returns-clause-english : goal.returns-clause-english
returns-clause-english c = search rules

pub returns-clause-memory : goal.returns-clause-memory
returns-clause-memory c = search rules

pub returns-in_err-build-clause-memory : goal.returns-in_err-build-clause-memory
unfolding is_numbering_system
returns-in_err-build-clause-memory c = search rules
