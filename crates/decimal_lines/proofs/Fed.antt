-- What one line, many lines and a part of a line add.
use Rattle.std.proofs.Common.{ℕ, List, [], ◌∷◌, ◌++◌, Option, Some, refl, sym, ap, ◌∙◌, append_assoc, inl, inr}
use Rattle.std.proofs.lemmas.List.{append-nil}
use Rattle.std.specs.Io.KnownBytes.{Appends}
use Rattle.decimal_lines.specs.Lines.{line_output, output_of, IsPartLine}
use Rattle.decimal_lines.specs.Written.{AppendsProperBeginning, Feeds, Breaks}
use Rattle.decimal_lines.proofs.Parts.{output_of-append, output_of-ended, output_of-nothing, AreWholeLines-append, IsPartLine-append}
use Rattle.decimal_lines.proofs.Known.{Appends-then, Appends-nothing, AppendsProperBeginning-then}

module _ (result : List ℕ → List ℕ) where
  -- no bytes add nothing
  pub Feeds-nothing : (w : Option (List ℕ)) (held : List ℕ) → IsPartLine held → Feeds result w w held [] held
  Feeds-nothing w held h = record {
    whole = [];
    are_whole = inl refl;
    parts = append-nil held;
    is_part = h;
    appends = rw (output_of-nothing result) (Appends-nothing w);
  }

  -- more of a line, held back
  pub Feeds-part : (w : Option (List ℕ)) (held more : List ℕ) → IsPartLine held → IsPartLine more → Feeds result w w held more (held ++ more)
  Feeds-part w held more h k = record {
    whole = [];
    are_whole = inl refl;
    parts = refl;
    is_part = IsPartLine-append held more h k;
    appends = rw (output_of-nothing result) (Appends-nothing w);
  }

  -- the rest of a line and its end
  pub Feeds-line : (w w' : Option (List ℕ)) (held more : List ℕ) → IsPartLine held → IsPartLine more →
      Appends w w' (line_output result (held ++ more)) → Feeds result w w' held (more ++ 10 ∷ []) []
  Feeds-line w w' held more h k p = record {
    whole = (held ++ more) ++ 10 ∷ [];
    are_whole = inr (held ++ more, refl);
    parts = sym (append_assoc held more (10 ∷ [])) ∙ sym (append-nil ((held ++ more) ++ 10 ∷ []));
    is_part = tt;
    appends = rw (output_of-ended result (held ++ more) (IsPartLine-append held more h k)) p;
  }

  -- some bytes and then others add what both do
  pub Feeds-then : (w w1 w2 : Option (List ℕ)) (p a p1 b p2 : List ℕ) → Feeds result w w1 p a p1 → Feeds result w1 w2 p1 b p2 →
      Feeds result w w2 p (a ++ b) p2
  Feeds-then w w1 w2 p a p1 b p2 f s = record {
    whole = f.whole ++ s.whole;
    are_whole = AreWholeLines-append f.whole s.whole f.are_whole s.are_whole;
    parts = sym (append_assoc p a b) ∙ ap (λ (k : List ℕ). k ++ b) f.parts ∙ append_assoc f.whole p1 b ∙ ap (λ (k : List ℕ). f.whole ++ k) s.parts
        ∙ sym (append_assoc f.whole s.whole p2);
    is_part = s.is_part;
    appends = rw (output_of-append result f.whole s.whole f.are_whole)
        (Appends-then w w1 w2 (output_of result f.whole) (output_of result s.whole) f.appends s.appends);
  }

  -- some bytes and then a break are a break
  pub Feeds-breaks : (w w1 w2 : Option (List ℕ)) (p a p1 b : List ℕ) → Feeds result w w1 p a p1 → Breaks result w1 w2 (p1 ++ b) →
      Breaks result w w2 (p ++ (a ++ b))
  Feeds-breaks w w1 w2 p a p1 b f s = record {
    whole = f.whole ++ s.whole;
    after = s.after;
    are_whole = AreWholeLines-append f.whole s.whole f.are_whole s.are_whole;
    parts = sym (append_assoc p a b) ∙ ap (λ (k : List ℕ). k ++ b) f.parts ∙ append_assoc f.whole p1 b ∙ ap (λ (k : List ℕ). f.whole ++ k) s.parts
        ∙ sym (append_assoc f.whole s.whole s.after);
    appends = rw (output_of-append result f.whole s.whole f.are_whole)
        (AppendsProperBeginning-then w w1 w2 (output_of result f.whole) (output_of result s.whole) f.appends s.appends);
  }

  -- what was gathered is written
  pub Feeds-written : (w w' : Option (List ℕ)) (p a p' out : List ℕ) → Feeds result (Some []) (Some out) p a p' → Appends w w' out →
      Feeds result w w' p a p'
  Feeds-written w w' p a p' out f q = record {
    whole = f.whole;
    are_whole = f.are_whole;
    parts = f.parts;
    is_part = f.is_part;
    appends = rw f.appends at q;
  }

  -- or not all of it
  pub Feeds-unwritten : (w w' : Option (List ℕ)) (p a p' out : List ℕ) → Feeds result (Some []) (Some out) p a p' → AppendsProperBeginning w w' out →
      Breaks result w w' (p ++ a)
  Feeds-unwritten w w' p a p' out f q = record {
    whole = f.whole;
    after = p';
    are_whole = f.are_whole;
    parts = f.parts;
    appends = rw f.appends at q;
  }
