use Rattle.std.proofs.Common.{refl}
use Rattle.icu_dimension_data.proofs.TokenCharacters.{free_at_end, free_on, not_listed}
use Rattle.icu_dimension_data.proofs.comparing.are_free_of.Goals as goal

pub loop-character-preserved : goal.loop-character-preserved
loop-character-preserved c =
    let all = c.loop-character.invariant in
    let on = free_on c.args.listed.now _ _ c.in-Some.character c.in-Some.ensures
    (not_listed c.args.listed.now c.in-Some.character c.if-contains.ensures.cases) in
    (λ h. all.0 (on.0 h), λ h. on.1 (all.1 h))

pub returns : goal.returns
returns c = (λ e. c.loop-character.invariant.0 (free_at_end c.args.listed.now _ c.in_default.ensures), λ h. refl)
