use Rattle.std.proofs.Common.{subst, sym}
use Rattle.std.specs.Str.{chars}
use Rattle.std.proofs.lemmas.Str.{chars-nil}
use Rattle.icu_ranges_readable.specs.ReadableRange.{TellSigns}
use Rattle.icu_ranges_readable.proofs.readable.do_affixes_tell_signs.Goals as goal

pub returns : goal.returns
returns c =
    let minus = c.minus_sign_prefix.ensures in
    let plus = c.plus_sign_prefix.ensures in (
      λ e. subst (λ none. TellSigns none (chars c.args.symbols.now.strings.minus_sign_prefix) (chars c.args.symbols.now.strings.plus_sign_prefix))
          chars-nil (rw (sym minus, sym plus) (c.do_tell_signs.ensures.0 e)),
      λ h. c.do_tell_signs.ensures.1 (subst (λ none. TellSigns none (chars c.minus_sign_prefix.result.now) (chars c.plus_sign_prefix.result.now))
          (sym chars-nil) (rw (minus, plus) h)),
    )
