-- A pattern with a value inserted at its placeholder.
use Rattle.icu_pattern.specs.Patterns.{PatternText}

-- the pattern, and the value that is inserted at its placeholder
pub record Filled (W : Type 0) : Type 0 where
  pub pattern : PatternText
  pub value : W
