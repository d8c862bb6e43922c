-- Goals that a search finds; it is not tried longer where one is false.
use Rattle.std.proofs.Common.{rules}
use Rattle.icu_tables.specs.Symbols.{symbols_of}
use Rattle.icu_tables.proofs.symbols.symbols_of.Goals as goal

pub returns-in-Err-BadNumberingSystem : goal.returns-in-Err-BadNumberingSystem
unfolding symbols_of
returns-in-Err-BadNumberingSystem c = search rules

pub returns-in-Err-OutOfMemory : goal.returns-in-Err-OutOfMemory
unfolding symbols_of
returns-in-Err-OutOfMemory c = search rules

pub returns-in-Err-TooLarge : goal.returns-in-Err-TooLarge
unfolding symbols_of
returns-in-Err-TooLarge c = search rules

pub returns-in-Ok : goal.returns-in-Ok
unfolding symbols_of
returns-in-Ok c = search rules
