use Rattle.std.proofs.lemmas.List.Sums.{prefix_len-le-length}
use Rattle.icu_plurals_conditions.specs.Tokens.{is_read}
use Rattle.icu_plurals_conditions.proofs.lexer.part.Goals as goal

-- what is read is no longer than the text
pub split_at-requires : goal.split_at-requires
split_at-requires c = rw c.read_len.ensures (prefix_len-le-length is_read _)
