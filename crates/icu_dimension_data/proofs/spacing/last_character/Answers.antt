use Rattle.std.proofs.Common.{None, chars, sym, ap, ◌∙◌}
use Rattle.std.specs.List.{last_or}
use Rattle.std.proofs.lemmas.Str.{Chars-Drains, encodes-chars}
use Rattle.icu_dimension_data.proofs.Characters.{last_or-none}
use Rattle.icu_dimension_data.proofs.spacing.last_character.Goals as goal

-- the characters that `last` goes over are those of the text
pub returns : goal.returns
returns c =
    let ran = c.last.ensures.ran in
    let all = Chars-Drains (chars c.args.text.now) ran.0 c.chars.result (encodes-chars c.args.text.now c.utf8.text ∙ sym c.chars.ensures.rest) ran.1 in
    ran.2 ∙ ap (last_or None) all ∙ last_or-none (chars c.args.text.now)
