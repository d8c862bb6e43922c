-- How much of an input is answered while lines are written.
use Rattle.std.proofs.Common.{
  ◌≡◌,
  ℕ,
  ◌+◌,
  ◌-◌,
  ◌<◌,
  ◌⊎◌,
  List,
  ◌++◌,
  drop,
  take,
  length,
  length-append,
  [],
  refl,
  ap,
  ◌∙◌,
  arith,
  inl,
  inr,
}
use Rattle.std.proofs.Math.Seq.{drop-append_seam, take-append_seam}
use Rattle.decimal_lines.specs.Filled.{IsFirstLine}
use Rattle.decimal_lines.specs.Lines.{line_output}
use Rattle.decimal_lines.specs.Progress.{WritesFirst, NextNeeds}
use Rattle.decimal_lines.specs.Written.{AreWholeLines}
use Rattle.decimal_lines.proofs.FilledLines.{Fills, Fills-length}

module _ (result : List ℕ → List ℕ) (input left old new : List ℕ) (n : ℕ) (f : Fills result input left old new n) where
  -- what is answered is what isn't left
  count : length input - length left ≡ length f.done
  count = omega (arith, ap (λ (k : List ℕ). length k) f.parts, length-append f.done left)

  consumed : take (length input - length left) input ≡ f.done
  consumed =
      ap (λ (k : List ℕ). take (length input - length left) k) f.parts ∙ ap (λ i. take i (f.done ++ left)) count ∙ take-append_seam f.done left

  behind : drop (length input - length left) input ≡ left
  behind =
      ap (λ (k : List ℕ). drop (length input - length left) k) f.parts ∙ ap (λ i. drop i (f.done ++ left)) count ∙ drop-append_seam f.done left

  -- the output is that of the bytes in front of what is left
  pub Fills-consumed : WritesFirst result input old new (length input - length left) n
  Fills-consumed = record {
    within = omega arith;
    are_whole = whole f.boundary;
    filled = rw consumed f.filled;
  }
    where
      whole : AreWholeLines f.done ⊎ (left ≡ []) → AreWholeLines (take (length input - length left) input)
          ⊎ (length input - length left ≡ length input)
      whole (inl h) = inl (rw consumed h)
      whole (inr none) = inr (omega (arith, ap (λ (k : List ℕ). length k) none))

  -- and the next line's finds no room
  pub Fills-needs : 0 < length left → (line rest : List ℕ) → IsFirstLine left line rest → length new < n + length (line_output result line) →
      NextNeeds result input old (length input - length left) n (length (line_output result line))
  Fills-needs some line rest first no_room = record {
    line = line;
    rest = rest;
    is_some = omega (arith, ap (λ (k : List ℕ). length k) f.parts, length-append f.done left);
    next = rw behind first;
    needed_is = refl;
    no_room = omega (arith, Fills-length result input left old new n f);
  }
