use Rattle.std.proofs.Common.{sym, subst}
use Rattle.icu_dimension_data.specs.Resolved.{Texts}
use Rattle.icu_dimension_data.specs.Surrounding.{token_events}
use Rattle.icu_dimension_data.specs.declared.affix_token.AffixToken.{AffixToken}
use Rattle.icu_dimension_data.specs.declared.affix_token.AffixToken.TheVariants.{PerMilleSign}
use Rattle.icu_dimension_data.proofs.affix_texts.KeptTexts.write_token.Goals as goal

pub returns-in-PerMilleSign : goal.returns-in-PerMilleSign
returns-in-PerMilleSign g c =
    let wrote : Texts → AffixToken → Type 0 = λ texts token.
    g.K.EventWriter.wrote c.args.out.now c.part-in-PerMilleSign.result (token_events texts token) c.part-in-PerMilleSign.new.self in
    subst (wrote c.args.self.now) (sym c.in-PerMilleSign.is) (subst (λ texts. wrote texts PerMilleSign) c.self.view_is
    (rw c.as_str-in-PerMilleSign.ensures.value at c.part-in-PerMilleSign.ensures))
