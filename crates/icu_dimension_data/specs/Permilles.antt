-- Patterns of permilles: those of percents, with the per mille sign in the place of the percent sign.
use Rattle.std.specs.Prelude.{map, option_map}
use Rattle.icu_dimension_data.specs.Patterns.{Affixes, PatternText}
use Rattle.icu_dimension_data.specs.declared.affix_token.AffixToken.{AffixToken}
use Rattle.icu_dimension_data.specs.declared.affix_token.AffixToken.TheVariants.{PercentSign, PerMilleSign}

-- the per mille sign in the place of the percent sign
abbrev pub per_mille_for : AffixToken → AffixToken
per_mille_for PercentSign = PerMilleSign
per_mille_for t = t

-- with the per mille sign in place of each percent sign
abbrev pub with_per_mille : Affixes → Affixes
with_per_mille a = record { before = map per_mille_for a.before; after = map per_mille_for a.after }

-- both subpatterns with it
abbrev pub permilles_of : PatternText → PatternText
permilles_of p = record { first = with_per_mille p.first; second = option_map with_per_mille p.second }
