-- The texts that are given for the tokens of a pattern.
use Rattle.icu_dimension_data.specs.declared.affix_texts.AffixTexts.{AffixTexts}
use Rattle.icu_dimension_data.specs.Resolved.{Texts}

-- the texts that are borrowed
abbrev pub lent_texts : AffixTexts → Texts
lent_texts t = record { minus_sign = t.minus_sign.now; plus_sign = t.plus_sign.now; percent_sign = t.percent_sign.now; currency = t.currency.now }
