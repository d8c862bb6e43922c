-- A formatter of numbers, and texts among which the number's plural category selects.
use Rattle.std.specs.Prelude.{List}
use Rattle.icu_plurals.specs.Elements.{Elements}
use Rattle.icu_plurals.specs.Rules.{Rule}

-- a formatter of numbers, plural rules, and what stands around a number of each plural category
pub record PluralFormat (F T : Type 0) : Type 0 where
  pub formatter : F
  pub rules : List Rule
  pub elements : Elements T
