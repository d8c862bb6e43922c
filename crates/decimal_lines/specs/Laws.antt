-- What the computed definitions mean.
use Rattle.std.specs.Prelude.{◌≡◌, ℕ, All, List, [], ◌∷◌, ◌++◌}
use Rattle.std.specs.List.{flat_map}
use Rattle.decimal_lines.specs.declared.mode.Mode.{Mode}
use Rattle.decimal_lines.specs.LineResults.{HasTable, IsTextResult, text_result}
use Rattle.decimal_lines.specs.Lines.{IsLines, ended, lines_of, output_of, without_return}
use Rattle.decimal_lines.specs.Written.{AreWholeLines}

-- each text has an answer in a mode, and `text_result` is it; the entries of a compact mode have to be a compact table, as
-- those of every formatter are
abbrev pub ResultIsAResult : Type 0
ResultIsAResult = (mode : Mode) (text : List ℕ) → HasTable mode → IsTextResult mode text (text_result mode text)

-- and it has no other one, whatever the entries
abbrev pub ResultIsUnique : Type 0
ResultIsUnique = (mode : Mode) (text result : List ℕ) → IsTextResult mode text result → result ≡ text_result mode text

-- each input has one list of lines, and `lines_of` is it
abbrev pub InputHasLines : Type 0
InputHasLines = (input : List ℕ) → IsLines input (lines_of input)

-- and no other one
abbrev pub LinesAreUnique : Type 0
LinesAreUnique = (input : List ℕ) (lines : List (List ℕ)) → IsLines input lines → lines ≡ lines_of input

-- for each line one answer, in their order: to the line without one carriage return at its end
abbrev pub AreTextResults : Mode → List (List ℕ) → List (List ℕ) → Type 0
AreTextResults mode [] [] = Unit {0}
AreTextResults mode [] (result ∷ results) = ⊥
AreTextResults mode (line ∷ lines) [] = ⊥
AreTextResults mode (line ∷ lines) (result ∷ results) = IsTextResult mode (without_return line) result × AreTextResults mode lines results

-- the output has an answer for each line of the input, each followed by a line feed, and nothing else
pub record HasEachResult (mode : Mode) (input output : List ℕ) : Type 0 where
  pub lines : List (List ℕ)
  pub results : List (List ℕ)
  pub are_lines : IsLines input lines
  pub are_text_results : AreTextResults mode lines results
  pub spelled : output ≡ ended results

-- what `run` writes of an input in a mode is such an output
abbrev pub OutputHasEachResult : Mode → Type 0
OutputHasEachResult mode = (input : List ℕ) → HasEachResult mode input (output_of (text_result mode) input)

-- Where the first of two inputs is empty or ends in a line feed, the output of the one behind the other is the output of the
-- first and then that of the second.
abbrev pub TwoRunApart : Type 0
TwoRunApart = (mode : Mode) (first second : List ℕ) → AreWholeLines first →
    output_of (text_result mode) (first ++ second) ≡ output_of (text_result mode) first ++ output_of (text_result mode) second

-- So it is of any number of pieces that are each empty or end in a line feed, with whatever behind them.
abbrev pub PiecesRunApart : Type 0
PiecesRunApart = (mode : Mode) (pieces : List (List ℕ)) (last : List ℕ) → All AreWholeLines pieces →
    output_of (text_result mode) (flat_map (λ piece. piece) pieces ++ last) ≡ flat_map (output_of (text_result mode)) pieces
    ++ output_of (text_result mode) last
