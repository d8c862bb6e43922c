-- A line's end, by its length.
use Rattle.std.proofs.Common.{◌≡◌, ℕ, suc, ◌-◌, Bool, true, false, List, [], ◌∷◌, length, take, get_or, refl, ap, ◌∙◌, arith}
use Rattle.std.specs.Prelude.{◌==◌, if◌then◌else◌}
use Rattle.decimal_lines.specs.Lines.{without_return}

-- a line without its carriage return, by its last byte
pub without_return-value : (line : List ℕ) → without_return line ≡ (if get_or line (length line - 1) 0 == 13 then take (length line - 1) line else line)
unfolding without_return
without_return-value [] = refl
without_return-value (b ∷ []) = refl
without_return-value (b ∷ c ∷ bs) =
    let more : length (b ∷ c ∷ bs) - 1 ≡ suc (length (c ∷ bs) - 1) = omega arith in
    rw more (ap (λ (k : List ℕ). b ∷ k) (without_return-value (c ∷ bs)) ∙ onto (get_or (c ∷ bs) (length (c ∷ bs) - 1) 0 == 13))
  where
    onto : (t : Bool) → b ∷ (if t then take (length (c ∷ bs) - 1) (c ∷ bs) else c ∷ bs)
        ≡ (if t then b ∷ take (length (c ∷ bs) - 1) (c ∷ bs) else b ∷ c ∷ bs)
    onto true = refl
    onto false = refl

-- an empty line has no carriage return
pub without_return-empty : (line : List ℕ) → length line ≡ 0 → line ≡ without_return line
unfolding without_return
without_return-empty [] e = refl
without_return-empty (b ∷ bs) e = absurd (omega arith)

-- what the proof of `without_return` cites
pub ruleset returns_dropped = (without_return-value)
