use Rattle.std.proofs.Common.{rules}
use Rattle.icu_dimension_data.specs.Comparing.{affix_characters}
use Rattle.icu_dimension_data.proofs.TokenCharacters.{none_left}
use Rattle.icu_dimension_data.proofs.comparing.AffixCharacters.new.Goals as goal

-- no text is open yet
pub returns : goal.returns
returns c = none_left c.chars-text.result.rest.now (affix_characters c.args.texts.now c.args.tokens.now) (search rules)
