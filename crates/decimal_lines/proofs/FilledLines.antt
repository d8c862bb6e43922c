-- What an output holds after some lines were written into it.
-- The invariant of the loop is `Fills`: the lines done, and the output filled with the output of these. One line more is `Fills-then`; a line
-- without room ends in `Fills-full`, out of memory in `Fills-room`, an input without a rest in `Fills-all`. Each step splits on whether the
-- line ends in a line feed or is the last one without. The bytes done aren't always whole lines, as that last line may be among them, so
-- `boundary` says that they are or that nothing is left. Outputs are joined by `output_of-append` of Parts, which asks for whole lines.
use Rattle.std.proofs.Common.{
  ◌≡◌,
  ℕ,
  ◌+◌,
  ◌<◌,
  ◌≤◌,
  ◌⊎◌,
  List,
  [],
  ◌∷◌,
  ◌++◌,
  drop,
  take,
  length,
  length-append,
  length-drop,
  refl,
  sym,
  ap,
  ◌∙◌,
  append_assoc,
  arith,
  inl,
  inr,
}
use Rattle.std.proofs.Math.Seq.{take-append_seam}
use Rattle.std.proofs.lemmas.List.{append-nil}
use Rattle.std.proofs.lemmas.Slice.{drop-append-drop}
use Rattle.decimal_lines.specs.Filled.{HasRoomLeft, IsFilled, IsFirstLine, HoldsAllThatFit, HoldsWholeLines}
use Rattle.decimal_lines.specs.Lines.{IsPartLine, line_output, output_of, without_return}
use Rattle.decimal_lines.specs.Written.{AreWholeLines}
use Rattle.decimal_lines.proofs.Parts.{AreWholeLines-append, nothing_of, output_of-append, output_of-ended, output_of-last, output_of-nothing}

-- the output of a line has its line feed at least
pub line_some : (result : List ℕ → List ℕ) (line : List ℕ) → 0 < length (line_output result line)
unfolding line_output
line_some result line = omega (arith, length-append (result (without_return line)) (10 ∷ []))

-- more text behind what was filled
filled-then : (old new new' text more : List ℕ) (n : ℕ) → IsFilled old new text n
    → n + length more ≤ length old → new' ≡ take n new ++ more ++ drop (n + length more) new → IsFilled old new' (text ++ more) (n + length more)
filled-then old new new' text more n f fits e =
    let count : length text ≡ n = sym f.count in
    let front : take n new ≡ text = ap (λ (k : List ℕ). take n k) f.bytes ∙ ap (λ k. take k (text ++ drop n old)) f.count
    ∙ take-append_seam text (drop n old) in
    let back : drop (n + length more) new ≡ drop (n + length more) old =
    ap (λ (k : List ℕ). drop (n + length more) k) f.bytes ∙ drop-append-drop n old text (n + length more) (omega arith) count in
    record {
      bytes = e ∙ rw (front, back) refl;
      count = omega (arith, f.count, length-append text more);
      within = fits;
    }

-- what isn't longer than before
pub filled-length : (old new text : List ℕ) (n : ℕ) → IsFilled old new text n → length new ≡ length old
filled-length old new text n f = ap (λ (k : List ℕ). length k) f.bytes
    ∙ omega (arith, length-append text (drop n old), f.count, f.within, length-drop n old)

-- The lines up to a place of the input were written; the place is behind a line's end, or nothing is left.
pub record Fills (result : List ℕ → List ℕ) (input left old new : List ℕ) (n : ℕ) : Type 0 where
  pub done : List ℕ
  pub boundary : AreWholeLines done ⊎ (left ≡ [])
  pub parts : input ≡ done ++ left
  pub filled : IsFilled old new (output_of result done) n

module _ (result : List ℕ → List ℕ) where
  -- the output of what is left begins with that of its first line
  first_output : (left line rest : List ℕ) → 0 < length left → IsFirstLine left line rest →
      output_of result left ≡ line_output result line ++ output_of result rest
  first_output left line rest some first = go first.parts
    where
      last : (l : List ℕ) → 0 < length l → IsPartLine l → output_of result l ≡ line_output result l
      last [] some is = absurd (omega arith)
      last (b ∷ bs) some is = output_of-last result b bs is

      go : (left ≡ (line ++ 10 ∷ []) ++ rest) ⊎ ((left ≡ line) × (rest ≡ [])) →
          output_of result left ≡ line_output result line ++ output_of result rest
      go (inl e) =
          ap (output_of result) e ∙ output_of-append result (line ++ 10 ∷ []) rest (inr (line, refl))
          ∙ ap (λ (k : List ℕ). k ++ output_of result rest) (output_of-ended result line first.is_part)
      go (inr (e, none)) =
          let nothing : output_of result rest ≡ [] = ap (output_of result) none ∙ output_of-nothing result in
          let some_line : 0 < length line = omega (arith, ap (λ (k : List ℕ). length k) e) in
          ap (output_of result) e ∙ last line some_line first.is_part
          ∙ sym (ap (λ (k : List ℕ). line_output result line ++ k) nothing ∙ append-nil (line_output result line))

  -- before the first line nothing is filled
  pub Fills-nothing : (input old : List ℕ) → Fills result input input old old 0
  Fills-nothing input old = record {
    done = [];
    boundary = inl (inl refl);
    parts = refl;
    filled = rw (output_of-nothing result) (record { bytes = refl; count = refl; within = omega arith });
  }

  module _ (input left old new : List ℕ) (n : ℕ) (f : Fills result input left old new n) where
    -- the output is as long as before
    pub Fills-length : length new ≡ length old
    Fills-length = filled-length old new (output_of result f.done) n f.filled

    -- what is filled lies in it
    pub Fills-within : n ≤ length new
    Fills-within = omega (arith, Fills-length, f.filled.within)

    -- all is written where nothing is left
    pub Fills-all : length left ≡ 0 → IsFilled old new (output_of result input) n
    Fills-all none =
        let e : input ≡ f.done = f.parts ∙ ap (λ (k : List ℕ). f.done ++ k) (nothing_of left none) ∙ append-nil f.done in
        rw e f.filled

    module _ (some : 0 < length left) where
      -- what is done is whole lines, as something is left
      are_whole : AreWholeLines f.done
      are_whole = go f.boundary
        where
          go : AreWholeLines f.done ⊎ (left ≡ []) → AreWholeLines f.done
          go (inl h) = h
          go (inr e) = absurd (omega (arith, ap (λ (k : List ℕ). length k) e))

      -- what was written is the output of whole lines
      pub Fills-stops : HoldsWholeLines result input old new n
      Fills-stops = record { whole = f.done; rest = left; are_whole = are_whole; parts = f.parts; filled = f.filled }

      -- with room behind it
      pub Fills-room : n < length new → HasRoomLeft result input old new n
      unfolding Fills-stops
      Fills-room room = record { holds = Fills-stops; is_some = some; room = omega (arith, Fills-length) }

      module _ (line rest : List ℕ) (first : IsFirstLine left line rest) where
        -- the output of the input, at the next line
        outputs : output_of result input ≡ output_of result f.done ++ (line_output result line ++ output_of result rest)
        outputs = ap (output_of result) f.parts ∙ output_of-append result f.done left are_whole
            ∙ ap (λ (k : List ℕ). output_of result f.done ++ k) (first_output left line rest some first)

        -- and the next line's finds no room
        pub Fills-full : length new < n + length (line_output result line) → HoldsAllThatFit result input old new n
        Fills-full no_room = record {
          whole = f.done;
          line = line;
          left = left;
          rest = rest;
          are_whole = are_whole;
          parts = f.parts;
          is_some = some;
          next = first;
          filled = f.filled;
          no_room = omega (arith, Fills-length);
        }

        -- so the whole output is longer than there is room
        pub Fills-longer : length new < n + length (line_output result line) → length old < length (output_of result input)
        Fills-longer no_room =
            let all : length (output_of result input) ≡ length (output_of result f.done) +
            (length (line_output result line) + length (output_of result rest)) =
            ap (λ (k : List ℕ). length k) outputs ∙ length-append (output_of result f.done) (line_output result line ++ output_of result rest)
            ∙ ap (λ k. length (output_of result f.done) + k) (length-append (line_output result line) (output_of result rest)) in
            omega (arith, Fills-length, f.filled.count)

        -- one line more
        pub Fills-then : (new' : List ℕ) → n + length (line_output result line) ≤ length new
            → new' ≡ take n new ++ line_output result line ++ drop (n + length (line_output result line)) new
            → Fills result input rest old new' (n + length (line_output result line))
        Fills-then new' fits e = go first.parts
          where
            more : IsFilled old new' (output_of result f.done ++ line_output result line) (n + length (line_output result line))
            more = filled-then old new new' (output_of result f.done) (line_output result line) n f.filled (omega (arith, Fills-length)) e

            go : (left ≡ (line ++ 10 ∷ []) ++ rest) ⊎ ((left ≡ line) × (rest ≡ [])) →
                Fills result input rest old new' (n + length (line_output result line))
            go (inl parts) =
                let joined : output_of result (f.done ++ (line ++ 10 ∷ [])) ≡ output_of result f.done ++ line_output result line =
                output_of-append result f.done (line ++ 10 ∷ []) are_whole
                ∙ ap (λ (k : List ℕ). output_of result f.done ++ k) (output_of-ended result line first.is_part) in
                record {
                  done = f.done ++ (line ++ 10 ∷ []);
                  boundary = inl (AreWholeLines-append f.done (line ++ 10 ∷ []) are_whole (inr (line, refl)));
                  parts = f.parts ∙ ap (λ (k : List ℕ). f.done ++ k) parts ∙ sym (append_assoc f.done (line ++ 10 ∷ []) rest);
                  filled = rw joined more;
                }
            go (inr (same, none)) =
                let nothing : output_of result rest ≡ [] = ap (output_of result) none ∙ output_of-nothing result in
                let joined : output_of result input ≡ output_of result f.done ++ line_output result line =
                outputs ∙ ap (λ (k : List ℕ). output_of result f.done ++ (line_output result line ++ k)) nothing
                ∙ ap (λ (k : List ℕ). output_of result f.done ++ k) (append-nil (line_output result line)) in
                record {
                  done = input;
                  boundary = inr none;
                  parts = sym (append-nil input) ∙ ap (λ (k : List ℕ). input ++ k) (sym none);
                  filled = rw joined more;
                }
