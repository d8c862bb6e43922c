use Rattle.std.proofs.Common.{rules}
use Rattle.std.proofs.lemmas.Str.{chars_from_encodes}
use Rattle.icu_dimension_tables.proofs.money_pattern.characters.Goals as goal

pub returns : goal.returns
returns c = search (rules, chars_from_encodes)
