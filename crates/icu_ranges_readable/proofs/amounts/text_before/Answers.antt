use Rattle.std.proofs.Common.{ap, ◌∙◌, chars}
use Rattle.icu_dimension.specs.MoneyReadable.{money_surroundings}
use Rattle.icu_ranges_readable.specs.Characters.{until}
use Rattle.icu_ranges_readable.proofs.AmountFronts.{none_of_one, until_found}
use Rattle.icu_ranges_readable.proofs.amounts.text_before.Goals as goal

pub returns-in-Ok : goal.returns-in-Ok
returns-in-Ok c =
    let around = money_surroundings c.args.patterns.now c.args.sign in
    c.in-Ok.ensures ∙ ap (until c.args.digit) (ap chars c.as_str.ensures.value ∙ c.in_ok-text.ensures)
    ∙ until_found c.args.digit around.before around.after (none_of_one c.args.digit around.before around.after (c.requires c.args.sign))
