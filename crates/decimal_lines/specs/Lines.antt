-- The lines of an input, and the output for them.
use Rattle.std.specs.Prelude.{◌≡◌, ℕ, List, [], ◌∷◌, ◌++◌, ◌==◌, ◌⊎◌, false, All, if◌then◌else◌}
use Rattle.std.specs.List.{flat_map}

-- no line feed in it
abbrev pub IsPartLine : List ℕ → Type 0
IsPartLine [] = Unit {0}
IsPartLine (b ∷ bs) = ((b == 10) ≡ false) × IsPartLine bs

-- lines, each followed by a line feed
abbrev pub ended : List (List ℕ) → List ℕ
ended lines = flat_map (λ line. line ++ 10 ∷ []) lines

-- the input is these lines, each followed by a line feed; or the last one, with some byte, ends without
pub record IsLines (input : List ℕ) (lines : List (List ℕ)) : Type 0 where
  pub whole : List (List ℕ)
  pub last : List (List ℕ)
  pub parts : lines ≡ whole ++ last
  pub spelled : input ≡ ended whole ++ flat_map (λ line. line) last
  pub at_most_one : (last ≡ []) ⊎ ((b : ℕ) × (bs : List ℕ) × (last ≡ (b ∷ bs) ∷ []))
  pub without_feed : All IsPartLine lines

-- one byte more in the first line
abbrev pub onto_first : ℕ → List (List ℕ) → List (List ℕ)
onto_first b [] = (b ∷ []) ∷ []
onto_first b (l ∷ ls) = (b ∷ l) ∷ ls

-- the lines of an input
unfoldable pub lines_of : List ℕ → List (List ℕ)
lines_of [] = []
lines_of (b ∷ bs) = if b == 10 then [] ∷ lines_of bs else onto_first b (lines_of bs)

-- a line without one carriage return at its end
unfoldable pub without_return : List ℕ → List ℕ
without_return [] = []
without_return (b ∷ []) = if b == 13 then [] else b ∷ []
without_return (b ∷ c ∷ bs) = b ∷ without_return (c ∷ bs)

-- what is written for a line, under the answer to each text
unfoldable pub line_output : (List ℕ → List ℕ) → List ℕ → List ℕ
line_output result line = result (without_return line) ++ 10 ∷ []

-- the output of an input: one line for each line
unfoldable pub output_of : (List ℕ → List ℕ) → List ℕ → List ℕ
output_of result input = flat_map (line_output result) (lines_of input)
