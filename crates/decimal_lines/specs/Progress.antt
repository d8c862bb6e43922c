-- How far an input is answered in an output of limited size.
use Rattle.std.specs.Prelude.{◌≡◌, ℕ, ◌+◌, ◌<◌, ◌≤◌, ◌⊎◌, List, drop, length, take}
use Rattle.decimal_lines.specs.Filled.{IsFilled, IsFirstLine}
use Rattle.decimal_lines.specs.Lines.{line_output, output_of}
use Rattle.decimal_lines.specs.Written.{AreWholeLines}

-- the first bytes of the input are whole lines, or all of it, and the output is filled with the output of these
pub record WritesFirst (result : List ℕ → List ℕ) (input old new : List ℕ) (consumed n : ℕ) : Type 0 where
  pub within : consumed ≤ length input
  pub are_whole : AreWholeLines (take consumed input) ⊎ (consumed ≡ length input)
  pub filled : IsFilled old new (output_of result (take consumed input)) n

-- a line follows them whose output has this length, and doesn't fit
pub record NextNeeds (result : List ℕ → List ℕ) (input old : List ℕ) (consumed n needed : ℕ) : Type 0 where
  pub line : List ℕ
  pub rest : List ℕ
  pub is_some : consumed < length input
  pub next : IsFirstLine (drop consumed input) line rest
  pub needed_is : needed ≡ length (line_output result line)
  pub no_room : length old < n + needed
