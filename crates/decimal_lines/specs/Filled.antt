-- What an output of limited size holds once lines are written into it from its front.
use Rattle.std.specs.Prelude.{◌≡◌, ℕ, ◌+◌, ◌<◌, ◌≤◌, List, [], ◌∷◌, ◌++◌, ◌⊎◌, drop, length}
use Rattle.decimal_lines.specs.Lines.{IsPartLine, line_output, output_of}
use Rattle.decimal_lines.specs.Written.{AreWholeLines}

-- the first n bytes are this text, and those behind them are unchanged
pub record IsFilled (old new text : List ℕ) (n : ℕ) : Type 0 where
  pub bytes : new ≡ text ++ drop n old
  pub count : n ≡ length text
  pub within : n ≤ length old

-- the input begins with whole lines, and the output is filled with the output of these
pub record HoldsWholeLines (result : List ℕ → List ℕ) (input old new : List ℕ) (n : ℕ) : Type 0 where
  pub whole : List ℕ
  pub rest : List ℕ
  pub are_whole : AreWholeLines whole
  pub parts : input ≡ whole ++ rest
  pub filled : IsFilled old new (output_of result whole) n

-- so it is, some of the input is left, and there is room behind what is filled
pub record HasRoomLeft (result : List ℕ → List ℕ) (input old new : List ℕ) (n : ℕ) : Type 0 where
  pub holds : HoldsWholeLines result input old new n
  pub is_some : 0 < length holds.rest
  pub room : n < length old

-- a line, without its line feed, and what follows it: the rest behind the line feed, or nothing
pub record IsFirstLine (bytes line rest : List ℕ) : Type 0 where
  pub is_part : IsPartLine line
  pub parts : (bytes ≡ (line ++ 10 ∷ []) ++ rest) ⊎ ((bytes ≡ line) × (rest ≡ []))

-- the output is filled with that of whole lines, and the output of the next line doesn't fit
pub record HoldsAllThatFit (result : List ℕ → List ℕ) (input old new : List ℕ) (n : ℕ) : Type 0 where
  pub whole : List ℕ
  pub line : List ℕ
  pub left : List ℕ
  pub rest : List ℕ
  pub are_whole : AreWholeLines whole
  pub parts : input ≡ whole ++ left
  pub is_some : 0 < length left
  pub next : IsFirstLine left line rest
  pub filled : IsFilled old new (output_of result whole) n
  pub no_room : length old < n + length (line_output result line)
