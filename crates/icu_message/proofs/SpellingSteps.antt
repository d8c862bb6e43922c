-- The spelling of a piece is its bytes, whatever is behind it.
use Rattle.std.proofs.Common.{◌≡◌, ℕ, List, [], ◌∷◌, ◌++◌, refl, sym, ap, ◌∙◌, append_assoc}
use Rattle.std.specs.Prelude.{true, false, ◌==◌, if◌then◌else◌}
use Rattle.icu_message.specs.declared.piece.Piece.{Piece}
use Rattle.icu_message.specs.declared.spelling.Before.{Before}
use Rattle.icu_message.specs.Names.{kind_name, number_kind}
use Rattle.icu_message.specs.Stepping.{opening, closing, comma, apostrophe}
use Rattle.icu_message.specs.Spelling.{Said, byte, special, place, formatted, counted, choice, arm, end_arm, end_choice, said, said_all, lead, style}
use Rattle.icu_message.specs.Spelling.{spelled_before, before_next, spelling_from}

-- what is spelled before a rest
pub spelled_split : (rest : List ℕ) (m : Said) → spelled_before rest m ≡ spelled_before [] m ++ rest
spelled_split rest (byte b) = elim (b == apostrophe) as (λ c. (if c then apostrophe ∷ apostrophe ∷ rest else b ∷ rest)
    ≡ (if c then apostrophe ∷ apostrophe ∷ [] else b ∷ []) ++ rest) [ true ↦ refl | false ↦ refl ]
spelled_split rest (special b) = refl
spelled_split rest (place w) = ap (λ r. opening ∷ r) (sym (append_assoc w (closing ∷ []) rest))
spelled_split rest (formatted w k) =
    ap (λ r. opening ∷ (w ++ comma ∷ (number_kind ++ r))) (sym (append_assoc (style k) (closing ∷ []) rest))
    ∙ ap (λ r. opening ∷ r) (sym (append_assoc w (comma ∷ (number_kind ++ (style k ++ closing ∷ []))) rest))
spelled_split rest (counted w) = refl
spelled_split rest (choice k w) =
    ap (λ r. opening ∷ (w ++ comma ∷ r)) (sym (append_assoc (kind_name k) (comma ∷ []) rest))
    ∙ ap (λ r. opening ∷ r) (sym (append_assoc w (comma ∷ (kind_name k ++ comma ∷ [])) rest))
spelled_split rest (arm w) = sym (append_assoc w (opening ∷ []) rest)
spelled_split rest end_arm = refl
spelled_split rest end_choice = refl

-- a piece is spelled, and then the rest
pub spelled_step : (text : List ℕ) (rest : List Piece) (p : Piece) (b : Before) (out : List ℕ)
    → ((out ++ lead b (said text p)) ++ spelled_before [] (said text p)) ++ spelling_from (before_next b (said text p)) (said_all text rest)
    ≡ out ++ spelling_from b (said_all text (p ∷ rest))
spelled_step text rest p b out =
    append_assoc (out ++ lead b (said text p)) (spelled_before [] (said text p)) _
    ∙ append_assoc out (lead b (said text p)) _
    ∙ ap (λ r. out ++ (lead b (said text p) ++ r)) (sym (spelled_split _ (said text p)))
