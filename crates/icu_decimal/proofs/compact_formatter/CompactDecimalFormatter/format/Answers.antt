use Rattle.std.proofs.Common.{ap, ◌∙◌}
use Rattle.icu_decimal.specs.CompactFormat.{CompactFormat}
use Rattle.icu_decimal.specs.Signed.{affixes_for}
use Rattle.icu_decimal.proofs.CompactShown.{signed_compact}
use Rattle.icu_decimal.proofs.compact_formatter.CompactDecimalFormatter.format.Goals as goal

pub returns-clause-nearest : goal.returns-clause-nearest
returns-clause-nearest c =
    signed_compact _ _ _ _ c.in_ok-number.number c.in_ok-number.ensures.nearest
    (c.format_sign.ensures ∙ ap (λ (f : CompactFormat). record
    { affixes = affixes_for f.decimal.symbols c.args.value.now.sign; value = c.in_ok-number.number }) c.self.view_is)
