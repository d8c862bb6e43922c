-- The one list of lines of an input.
use Rattle.std.proofs.Common.{
  ◌≡◌,
  ℕ,
  Bool,
  true,
  false,
  List,
  [],
  ◌∷◌,
  ◌++◌,
  refl,
  sym,
  ap,
  ◌∙◌,
  All,
  append-nil,
  append_assoc,
  inl,
  inr,
}
use Rattle.std.specs.Prelude.{◌==◌, if◌then◌else◌, ◌⊎◌}
use Rattle.std.specs.List.{flat_map}
use Rattle.std.proofs.lemmas.Bool.{eqb-true}
use Rattle.std.proofs.lemmas.List.Elements.{All-head, All-tail, All-nil, All-cons}
use Rattle.decimal_lines.specs.Lines.{IsPartLine, IsLines, ended, onto_first, lines_of}
use Rattle.decimal_lines.proofs.Parts.{lines_of-ended, lines_of-last}

-- the lines of a spelled input
lines_of-spelled : (whole last : List (List ℕ)) → (last ≡ []) ⊎ ((b : ℕ) × (bs : List ℕ) × (last ≡ (b ∷ bs) ∷ [])) →
    All IsPartLine (whole ++ last) → lines_of (ended whole ++ flat_map (λ line. line) last) ≡ whole ++ last
unfolding lines_of
lines_of-spelled [] last (inl e) h = rw e refl
lines_of-spelled [] last (inr (b, bs, e)) h =
    let part : IsPartLine (b ∷ bs) = All-head IsPartLine (b ∷ bs) [] (rw e at h) in
    rw e (ap lines_of (append-nil (b ∷ bs)) ∙ lines_of-last b bs part)
lines_of-spelled (w ∷ ws) last one h =
    let part : IsPartLine w = All-head IsPartLine w (ws ++ last) h in
    let rest = ended ws ++ flat_map (λ line. line) last in
    let spelled : ((w ++ 10 ∷ []) ++ ended ws) ++ flat_map (λ line. line) last ≡ w ++ 10 ∷ rest =
    append_assoc (w ++ 10 ∷ []) (ended ws) (flat_map (λ line. line) last) ∙ append_assoc w (10 ∷ []) rest in
    ap lines_of spelled ∙ lines_of-ended w rest part ∙ ap (λ (l : List (List ℕ)). w ∷ l)
    (lines_of-spelled ws last one (All-tail IsPartLine w (ws ++ last) h))

-- an input has one list of lines at most
pub lines-unique : (input : List ℕ) (lines : List (List ℕ)) → IsLines input lines → lines ≡ lines_of input
lines-unique input lines is =
    is.parts ∙ sym (lines_of-spelled is.whole is.last is.at_most_one (rw is.parts at is.without_feed)) ∙ ap lines_of (sym is.spelled)

-- one byte more
fed : (bs : List ℕ) (lines : List (List ℕ)) → IsLines bs lines → IsLines (10 ∷ bs) ([] ∷ lines)
fed bs lines is = record {
  whole = [] ∷ is.whole;
  last = is.last;
  parts = ap (λ (l : List (List ℕ)). [] ∷ l) is.parts;
  spelled = ap (λ (l : List ℕ). 10 ∷ l) is.spelled;
  at_most_one = is.at_most_one;
  without_feed = All-cons IsPartLine [] lines tt is.without_feed;
}

longer : (b : ℕ) (bs : List ℕ) (lines : List (List ℕ)) → (b == 10) ≡ false → IsLines bs lines → IsLines (b ∷ bs) (onto_first b lines)
longer b bs lines other is = go is.whole is.last is.parts is.spelled is.at_most_one (rw is.parts at is.without_feed)
  where
    go : (whole last : List (List ℕ)) → lines ≡ whole ++ last → bs ≡ ended whole ++ flat_map (λ line. line) last →
        (last ≡ []) ⊎ ((c : ℕ) × (cs : List ℕ) × (last ≡ (c ∷ cs) ∷ [])) → All IsPartLine (whole ++ last) →
        IsLines (b ∷ bs) (onto_first b lines)
    go [] last e f (inl n) h = record {
      whole = [];
      last = (b ∷ []) ∷ [];
      parts = ap (onto_first b) (e ∙ n);
      spelled = ap (λ (l : List ℕ). b ∷ l) (f ∙ ap (flat_map (λ (line : List ℕ). line)) n);
      at_most_one = inr (b, [], refl);
      without_feed = rw (e, n) (All-cons IsPartLine (b ∷ []) [] (other, tt) (All-nil IsPartLine));
    }
    go [] last e f (inr (c, cs, n)) h = record {
      whole = [];
      last = (b ∷ c ∷ cs) ∷ [];
      parts = ap (onto_first b) (e ∙ n);
      spelled = ap (λ (l : List ℕ). b ∷ l) (f ∙ ap (flat_map (λ (line : List ℕ). line)) n);
      at_most_one = inr (b, c ∷ cs, refl);
      without_feed = rw (e, n) (All-cons IsPartLine (b ∷ c ∷ cs) [] (other, All-head IsPartLine (c ∷ cs) [] (rw n at h)) (All-nil IsPartLine));
    }
    go (w ∷ ws) last e f one h = record {
      whole = (b ∷ w) ∷ ws;
      last = last;
      parts = ap (onto_first b) e;
      spelled = ap (λ (l : List ℕ). b ∷ l) f;
      at_most_one = one;
      without_feed = rw e (All-cons IsPartLine (b ∷ w) (ws ++ last) (other, All-head IsPartLine w (ws ++ last) h) (All-tail IsPartLine w (ws ++ last) h));
    }

-- the list that is computed is the list of lines
pub lines_of-is : (input : List ℕ) → IsLines input (lines_of input)
unfolding lines_of
lines_of-is [] = record { whole = []; last = []; parts = refl; spelled = refl; at_most_one = inl refl; without_feed = All-nil IsPartLine }
lines_of-is (b ∷ bs) = go (b == 10) refl (lines_of-is bs)
  where
    go : (t : Bool) → (b == 10) ≡ t → IsLines bs (lines_of bs) → IsLines (b ∷ bs) (if t then [] ∷ lines_of bs else onto_first b (lines_of bs))
    go true e is = rw (eqb-true b 10 e) (fed bs (lines_of bs) is)
    go false e is = longer b bs (lines_of bs) e is
