-- What was written when a run stops.
use Rattle.std.proofs.Common.{◌≡◌, ℕ, List, [], ◌++◌, Option, Some, None, refl, ap, ◌∙◌, append_assoc}
use Rattle.std.specs.Prelude.{IfSome}
use Rattle.std.proofs.lemmas.List.{append-nil}
use Rattle.std.specs.Io.KnownBytes.{Appends, Keeps, Consumes, IsAtEnd}
use Rattle.decimal_lines.specs.Lines.{output_of}
use Rattle.decimal_lines.specs.Written.{AppendsBeginning, AppendsProperBeginning, Feeds, Breaks, StopsBetween}
use Rattle.decimal_lines.proofs.Parts.{output_of-append}
use Rattle.decimal_lines.proofs.Known.{
  Appends-then,
  AppendsBeginning-then,
  AppendsBeginning-nothing,
  Appends-keeps,
  AppendsProperBeginning-then,
  AppendsProperBeginning-more,
  AppendsProperBeginning-is_beginning,
}

module _ (result : List ℕ → List ℕ) (w : Option (List ℕ)) where
  -- where reading fails, the output is that of the whole lines before
  pub stops : (r r' w' : Option (List ℕ)) (got held : List ℕ) → Consumes r r' got → Feeds result w w' [] got held →
      IfSome r (λ input. StopsBetween result w w' input r')
  stops None r' w' got held p f = tt
  stops (Some input) None w' got held p f = absurd p
  stops (Some input) (Some rest) w' got held p f = record {
    whole = f.whole;
    part = held;
    rest = rest;
    are_whole = f.are_whole;
    is_part = f.is_part;
    is_left = refl;
    parts = p ∙ ap (λ (k : List ℕ). k ++ rest) f.parts;
    appends = f.appends;
  }

  begun : (w' : Option (List ℕ)) (bytes : List ℕ) → Breaks result w w' bytes → AppendsProperBeginning w w' (output_of result bytes)
  begun w' bytes s =
      let e : output_of result bytes ≡ output_of result s.whole ++ output_of result s.after =
      ap (output_of result) s.parts ∙ output_of-append result s.whole s.after s.are_whole in
      rw e (AppendsProperBeginning-more w w' (output_of result s.whole) (output_of result s.after) s.appends)

  -- where writing fails, something of the output is left
  pub breaks : (r r' w' : Option (List ℕ)) (got : List ℕ) → Consumes r r' got → Breaks result w w' got →
      IfSome r (λ input. AppendsProperBeginning w w' (output_of result input))
  breaks None r' w' got p s = tt
  breaks (Some input) None w' got p s = absurd p
  breaks (Some input) (Some rest) w' got p s = begun w' input (record {
    whole = s.whole;
    after = s.after ++ rest;
    are_whole = s.are_whole;
    parts = p ∙ ap (λ (k : List ℕ). k ++ rest) s.parts ∙ append_assoc s.whole s.after rest;
    appends = s.appends;
  })

  -- a beginning with something left is a beginning
  pub proper : (r w' : Option (List ℕ)) → IfSome r (λ input. AppendsProperBeginning w w' (output_of result input)) →
      IfSome r (λ input. AppendsBeginning w w' (output_of result input))
  proper None w' p = tt
  proper (Some input) w' p = AppendsProperBeginning-is_beginning w w' (output_of result input) p

  -- what was written so far is a beginning
  pub pauses : (r r' w' : Option (List ℕ)) (got held : List ℕ) → Consumes r r' got → Feeds result w w' [] got held →
      IfSome r (λ input. AppendsBeginning w w' (output_of result input))
  pauses None r' w' got held p f = tt
  pauses (Some input) None w' got held p f = absurd p
  pauses (Some input) (Some rest) w' got held p f =
      let parts : input ≡ f.whole ++ (held ++ rest) = p ∙ ap (λ (k : List ℕ). k ++ rest) f.parts ∙ append_assoc f.whole held rest in
      let e : output_of result input ≡ output_of result f.whole ++ output_of result (held ++ rest) =
      ap (output_of result) parts ∙ output_of-append result f.whole (held ++ rest) f.are_whole in
      (output_of result f.whole, f.appends, (output_of result (held ++ rest), e))

  -- and still is after what keeps the bytes of the writer
  pub pauses_kept : (r r' w' w2 : Option (List ℕ)) (got held : List ℕ) → Consumes r r' got → Feeds result w w' [] got held → Keeps w' w2 →
      IfSome r (λ input. AppendsBeginning w w2 (output_of result input))
  pauses_kept r r' w' w2 got held p f k = pauses r r' w2 got held p (record {
    whole = f.whole;
    are_whole = f.are_whole;
    parts = f.parts;
    is_part = f.is_part;
    appends = Appends-keeps w w' w2 (output_of result f.whole) f.appends k;
  })

  module _ (w1 : Option (List ℕ)) (got held : List ℕ) (f : Feeds result w w1 [] got held) where
    whole_output : output_of result got ≡ output_of result f.whole ++ output_of result held
    whole_output = ap (output_of result) f.parts ∙ output_of-append result f.whole held f.are_whole

    -- at the end of the input the output of all is written
    pub ends : (r r' w2 : Option (List ℕ)) → Consumes r r' got → IsAtEnd r' → Appends w1 w2 (output_of result held) →
        IfSome r (λ input. Appends w w2 (output_of result input) × (r' ≡ Some []))
    ends None r' w2 p q a = tt
    ends (Some input) None w2 p q a = absurd p
    ends (Some input) (Some rest) w2 p q a =
        let e : input ≡ got = p ∙ ap (λ (k : List ℕ). got ++ k) q ∙ append-nil got in
        (rw (e, whole_output) (Appends-then w w1 w2 (output_of result f.whole) (output_of result held) f.appends a), ap Some q)

    -- or a proper beginning of it
    pub ends_early : (r r' w2 : Option (List ℕ)) → Consumes r r' got → IsAtEnd r' → AppendsProperBeginning w1 w2 (output_of result held) →
        IfSome r (λ input. AppendsProperBeginning w w2 (output_of result input))
    ends_early None r' w2 p q a = tt
    ends_early (Some input) None w2 p q a = absurd p
    ends_early (Some input) (Some rest) w2 p q a =
        let e : input ≡ got = p ∙ ap (λ (k : List ℕ). got ++ k) q ∙ append-nil got in
        rw (e, whole_output) (AppendsProperBeginning-then w w1 w2 (output_of result f.whole) (output_of result held) f.appends a)

    -- or a beginning
    pub ends_begun : (r r' w2 : Option (List ℕ)) → Consumes r r' got → IsAtEnd r' → AppendsBeginning w1 w2 (output_of result held) →
        IfSome r (λ input. AppendsBeginning w w2 (output_of result input))
    ends_begun None r' w2 p q a = tt
    ends_begun (Some input) None w2 p q a = absurd p
    ends_begun (Some input) (Some rest) w2 p q a =
        let e : input ≡ got = p ∙ ap (λ (k : List ℕ). got ++ k) q ∙ append-nil got in
        rw (e, whole_output) (AppendsBeginning-then w w1 w2 (output_of result f.whole) (output_of result held) f.appends a)

  -- nothing written is a beginning
  pub unread : (r : Option (List ℕ)) → IfSome r (λ input. AppendsBeginning w w (output_of result input))
  unread None = tt
  unread (Some input) = AppendsBeginning-nothing w (output_of result input)
