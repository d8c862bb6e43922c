-- What is written of an input has one answer for each line.
use Rattle.std.proofs.Common.{◌≡◌, ℕ, refl, ap, List, [], ◌∷◌, ◌++◌, map}
use Rattle.std.specs.List.{flat_map}
use Rattle.decimal_lines.specs.declared.mode.Mode.{Mode}
use Rattle.decimal_lines.specs.LineResults.{HasTable, text_result}
use Rattle.decimal_lines.specs.Laws.{AreTextResults, OutputHasEachResult}
use Rattle.decimal_lines.specs.Lines.{ended, line_output, lines_of, output_of, without_return}
use Rattle.decimal_lines.proofs.Answering.{text_result-is}
use Rattle.decimal_lines.proofs.LineLaws.{lines_of-is}

-- the answers to lines
abbrev answers_to : Mode → List (List ℕ) → List (List ℕ)
answers_to mode lines = map (λ line. text_result mode (without_return line)) lines

-- each is an answer to its line
are_text_results : (mode : Mode) → HasTable mode → (lines : List (List ℕ)) → AreTextResults mode lines (answers_to mode lines)
are_text_results mode has [] = tt
are_text_results mode has (line ∷ lines) = (text_result-is mode (without_return line) has, are_text_results mode has lines)

-- the output is these answers, each followed by a line feed
written : (mode : Mode) (lines : List (List ℕ)) → flat_map (line_output (text_result mode)) lines ≡ ended (answers_to mode lines)
unfolding line_output
written mode [] = refl
written mode (line ∷ lines) = ap (λ rest. (text_result mode (without_return line) ++ 10 ∷ []) ++ rest) (written mode lines)

-- the output has one answer for each line, and nothing else
pub output_has_results : (mode : Mode) → HasTable mode → OutputHasEachResult mode
unfolding output_of
output_has_results mode has input = record {
  lines = lines_of input;
  results = answers_to mode (lines_of input);
  are_lines = lines_of-is input;
  are_text_results = are_text_results mode has (lines_of input);
  spelled = written mode (lines_of input);
}
