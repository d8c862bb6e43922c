-- The parts of a text, part by part.
use Rattle.std.proofs.Common.{◌≡◌, ℕ, List, [], ◌∷◌, ◌++◌, map, refl, sym, append_assoc}
use Rattle.std.specs.Borrow.{Bor}
use Rattle.std.proofs.lemmas.List.{map-append}
use Rattle.locnum_options.specs.Texts.{parts_of}
use Rattle.locnum_options.proofs.Cuts.{Lacks, parts_of-here, parts_of-nowhere}

-- texts as lists of bytes
abbrev pub seen : List (Bor (List ℕ)) → List (List ℕ)
seen texts = map (λ t. t.now) texts

-- a text more
seen-more : (texts : List (Bor (List ℕ))) (text : Bor (List ℕ)) → seen (texts ++ text ∷ []) ≡ seen texts ++ text.now ∷ []
seen-more texts text = map-append {B = List ℕ} (λ t. t.now) texts (text ∷ [])

-- a part before a comma
pub part-here : (before : List (Bor (List ℕ))) (part : Bor (List ℕ)) (rest behind : List ℕ) →
    Lacks 44 part.now → rest ≡ part.now ++ 44 ∷ behind →
    seen before ++ parts_of 44 rest ≡ seen (before ++ part ∷ []) ++ parts_of 44 behind
part-here before part rest behind lacks e =
    rw (e, parts_of-here 44 part.now behind lacks, seen-more before part) (sym (append_assoc (seen before) (part.now ∷ []) (parts_of 44 behind)))

-- the last part
pub part-last : (before : List (Bor (List ℕ))) (part : Bor (List ℕ)) → Lacks 44 part.now →
    seen before ++ parts_of 44 part.now ≡ seen (before ++ part ∷ [])
part-last before part lacks = rw (parts_of-nowhere 44 part.now lacks, seen-more before part) refl
