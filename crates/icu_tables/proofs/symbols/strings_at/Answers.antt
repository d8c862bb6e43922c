-- Goals that a search finds; it is not tried longer where one is false.
use Rattle.std.proofs.Common.{rules}
use Rattle.icu_tables.specs.Symbols.{strings_at}
use Rattle.icu_tables.proofs.symbols.strings_at.Goals as goal

pub returns : goal.returns
unfolding strings_at
returns c = search rules

pub returns-in_err-minus_sign_prefix : goal.returns-in_err-minus_sign_prefix
unfolding strings_at
returns-in_err-minus_sign_prefix c = search rules

pub returns-in_err-plus_sign_prefix : goal.returns-in_err-plus_sign_prefix
unfolding strings_at
returns-in_err-plus_sign_prefix c = search rules

pub returns-in_err-text_at : goal.returns-in_err-text_at
unfolding strings_at
returns-in_err-text_at c = search rules

pub returns-in_err-text_at-2 : goal.returns-in_err-text_at-2
unfolding strings_at
returns-in_err-text_at-2 c = search rules

pub returns-in_err-text_at-3 : goal.returns-in_err-text_at-3
unfolding strings_at
returns-in_err-text_at-3 c = search rules
