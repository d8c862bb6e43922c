-- Goals that a search finds; it is not tried longer where one is false.
use Rattle.std.proofs.Common.{rules}
use Rattle.icu_table_entries.specs.Reading.{optional_at}
use Rattle.icu_table_entries.proofs.fields.optional_text_at.Goals as goal

pub returns-in-None : goal.returns-in-None
unfolding optional_at
returns-in-None c = search rules

pub returns-in_err-text_in-in-Some : goal.returns-in_err-text_in-in-Some
unfolding optional_at
returns-in_err-text_in-in-Some c = search rules

pub returns-in_ok-text_in-in-Some : goal.returns-in_ok-text_in-in-Some
unfolding optional_at
returns-in_ok-text_in-in-Some c = search rules
