-- Patterns of numbers: what stands before and after the number of each subpattern.
use Rattle.std.specs.Prelude.{List, [], Option}
use Rattle.icu_dimension_data.specs.declared.affix_token.AffixToken.{AffixToken}

-- what stands before a number and after it
pub record Affixes : Type 0 where
  pub before : List AffixToken
  pub after : List AffixToken

-- a pattern: its first subpattern, and the second where it has one
pub record PatternText : Type 0 where
  pub first : Affixes
  pub second : Option Affixes

-- nothing stands around the number
abbrev pub no_affixes : Affixes
no_affixes = record { before = []; after = [] }
