use Rattle.std.proofs.Common.{◌≡◌, inr, ap, ◌∙◌}
use Rattle.std.specs.Prelude.{IsUtf8}
use Rattle.locnum_options.specs.Locale.{locale_text}
use Rattle.locnum_options.proofs.LocaleTexts.{unnamed}
use Rattle.locnum_options.proofs.locale.locale_named.Goals as goal

pub returns-in_default : goal.returns-in_default
returns-in_default c =
    let same : c.deref.result.now ≡ locale_text c.args.text.now =
    c.deref.ensures.value ∙ c.in_ok-bytes.ensures ∙ ap locale_text c.as_bytes.ensures.value in
    let bad : ¬ IsUtf8 (locale_text c.args.text.now) = rw (← same) c.in_default.ensures.cases.0 in
    inr (unnamed c.args.text.now bad)
