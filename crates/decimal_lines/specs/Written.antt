-- What a reader has given and a writer has taken while lines are answered.
use Rattle.std.specs.Prelude.{◌≡◌, ℕ, List, [], ◌∷◌, ◌++◌, ◌<◌, ◌⊎◌, length, Option, Some}
use Rattle.std.specs.Io.KnownBytes.{Appends}
use Rattle.decimal_lines.specs.Lines.{output_of, IsPartLine}

-- known bytes grow by a beginning of the whole
abbrev pub AppendsBeginning : Option (List ℕ) → Option (List ℕ) → List ℕ → Type 0
AppendsBeginning old new whole = (front : List ℕ) × Appends old new front × ((rest : List ℕ) × (whole ≡ front ++ rest))

-- known bytes grow by a beginning of the whole, and not by all of it
abbrev pub AppendsProperBeginning : Option (List ℕ) → Option (List ℕ) → List ℕ → Type 0
AppendsProperBeginning old new whole = (front : List ℕ) × Appends old new front × ((rest : List ℕ) × (whole ≡ front ++ rest) × (0 < length rest))

-- nothing, or lines that each end in a line feed
abbrev pub AreWholeLines : List ℕ → Type 0
AreWholeLines bytes = (bytes ≡ []) ⊎ ((front : List ℕ) × (bytes ≡ front ++ 10 ∷ []))

-- the bytes that were held back, with the new ones behind them, are whole lines, whose output was written, and what is held back now
pub record Feeds (result : List ℕ → List ℕ) (written written' : Option (List ℕ)) (held chunk held' : List ℕ) : Type 0 where
  pub whole : List ℕ
  pub are_whole : AreWholeLines whole
  pub parts : held ++ chunk ≡ whole ++ held'
  pub is_part : IsPartLine held'
  pub appends : Appends written written' (output_of result whole)

-- the bytes begin with whole lines, and a beginning of their output was written, but not all of it
pub record Breaks (result : List ℕ → List ℕ) (written written' : Option (List ℕ)) (bytes : List ℕ) : Type 0 where
  pub whole : List ℕ
  pub after : List ℕ
  pub are_whole : AreWholeLines whole
  pub parts : bytes ≡ whole ++ after
  pub appends : AppendsProperBeginning written written' (output_of result whole)

-- the input is whole lines, part of a line and what is left to read, and the output of the whole lines was written
pub record StopsBetween (result : List ℕ → List ℕ) (written written' : Option (List ℕ)) (input : List ℕ) (left : Option (List ℕ)) : Type 0 where
  pub whole : List ℕ
  pub part : List ℕ
  pub rest : List ℕ
  pub are_whole : AreWholeLines whole
  pub is_part : IsPartLine part
  pub is_left : left ≡ Some rest
  pub parts : input ≡ whole ++ part ++ rest
  pub appends : Appends written written' (output_of result whole)
