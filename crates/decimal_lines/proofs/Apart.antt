-- Pieces of whole lines are answered one after the other: by induction on them, a cut at a time.
use Rattle.std.proofs.Common.{◌≡◌, ℕ, List, [], ◌∷◌, ◌++◌, refl, ap, sym, ◌∙◌, append_assoc}
use Rattle.std.specs.Prelude.{All}
use Rattle.std.specs.List.{flat_map}
use Rattle.std.proofs.lemmas.List.Elements.{All-head, All-tail}
use Rattle.decimal_lines.specs.Lines.{output_of}
use Rattle.decimal_lines.specs.Written.{AreWholeLines}
use Rattle.decimal_lines.proofs.Parts.{output_of-append}

-- the output of pieces of whole lines with something behind them is that of each piece and then that of the rest
pub pieces_apart : (result : List ℕ → List ℕ) (pieces : List (List ℕ)) (last : List ℕ) → All AreWholeLines pieces →
    output_of result (flat_map (λ piece. piece) pieces ++ last) ≡ flat_map (output_of result) pieces ++ output_of result last
pieces_apart result [] last whole = refl
pieces_apart result (piece ∷ pieces) last whole =
    let rest : List ℕ = flat_map (λ (p : List ℕ). p) pieces ++ last in
    let first : output_of result (piece ++ rest) ≡ output_of result piece ++ output_of result rest =
    output_of-append result piece rest (All-head AreWholeLines piece pieces whole) in
    let others : output_of result rest ≡ flat_map (output_of result) pieces ++ output_of result last =
    pieces_apart result pieces last (All-tail AreWholeLines piece pieces whole) in
    ap (output_of result) (append_assoc piece (flat_map (λ (p : List ℕ). p) pieces) last)
    ∙ first
    ∙ ap (λ (o : List ℕ). output_of result piece ++ o) others
    ∙ sym (append_assoc (output_of result piece) (flat_map (output_of result) pieces) (output_of result last))
