-- The lines of bytes that are taken in parts.
-- Bytes are taken by `lines_of` from the front, and each is put onto the first line of the rest. So the lines of `w ++ x` are those of w and
-- those of x only where w is empty or ends in a line feed; without that, w's last line goes on into x. `ended-append` is the induction on
-- the bytes before that line feed; a byte is put onto a line, so there has to be one (`has_line`). Outputs follow by std's `flat_map-append`.
-- Lines are cut by `memchr`, whose clauses (`NoneBefore`, `Nowhere`) are turned into bytes without a line feed (`IsPartLine`).
use Rattle.std.proofs.Common.{
  ◌≡◌,
  ℕ,
  suc,
  ◌+◌,
  ◌<◌,
  Bool,
  get_or,
  take,
  drop,
  length-take,
  true,
  false,
  cond,
  eqb,
  arith,
  length,
  List,
  [],
  ◌∷◌,
  ◌++◌,
  refl,
  sym,
  ap,
  ◌∙◌,
  append_assoc,
  inl,
  inr,
}
use Rattle.std.proofs.lemmas.Bool.{eqb-true}
use Rattle.std.proofs.lemmas.List.{append-nil, get_or-take, drop_more, take-append-drop}
use Rattle.memchr.specs.Find.{NoneBefore, Nowhere, Passes, is_byte}
use Rattle.std.proofs.lemmas.List.Concat.{flat_map-append}
use Rattle.decimal_lines.specs.Lines.{onto_first, lines_of, line_output, output_of, IsPartLine}
use Rattle.decimal_lines.specs.Written.{AreWholeLines}

-- a part of a line that is ended now
pub lines_of-ended : (p rest : List ℕ) → IsPartLine p → lines_of (p ++ 10 ∷ rest) ≡ p ∷ lines_of rest
unfolding lines_of
lines_of-ended [] rest h = refl
lines_of-ended (b ∷ bs) rest h = rw (h.0, lines_of-ended bs rest h.1) refl

-- a last line that isn't ended
pub lines_of-last : (b : ℕ) (bs : List ℕ) → IsPartLine (b ∷ bs) → lines_of (b ∷ bs) ≡ (b ∷ bs) ∷ []
unfolding lines_of
lines_of-last b [] h = rw h.0 refl
lines_of-last b (c ∷ bs) h = rw h.0 (ap (onto_first b) (lines_of-last c bs h.1))

-- bytes that end in a line feed have a line
has_line : (bs : List ℕ) → (l : List ℕ) × (ls : List (List ℕ)) × (lines_of (bs ++ 10 ∷ []) ≡ l ∷ ls)
unfolding lines_of
has_line [] = ([], [], refl)
has_line (b ∷ bs) =
    let h = has_line bs in
    elim (eqb b 10) as (λ t. (l : List ℕ) × (ls : List (List ℕ))
    × (cond t ([] ∷ lines_of (bs ++ 10 ∷ [])) (onto_first b (lines_of (bs ++ 10 ∷ []))) ≡ l ∷ ls)) [
      | true ↦ ([], lines_of (bs ++ 10 ∷ []), refl)
      | false ↦ (b ∷ h.0, h.1, ap (onto_first b) h.2)
    ]

-- a byte put onto the first of some lines leaves those behind them
onto_first-append : (b : ℕ) (l : List ℕ) (ls ms ks : List (List ℕ)) → ks ≡ l ∷ ls → onto_first b (ks ++ ms) ≡ onto_first b ks ++ ms
onto_first-append b l ls ms ks e = rw e refl

-- what ends in a line feed, and what follows it
ended-append : (f x : List ℕ) → lines_of ((f ++ 10 ∷ []) ++ x) ≡ lines_of (f ++ 10 ∷ []) ++ lines_of x
unfolding lines_of
ended-append [] x = refl
ended-append (b ∷ bs) x =
    let h = has_line bs in
    elim (eqb b 10) as (λ t. cond t ([] ∷ lines_of ((bs ++ 10 ∷ []) ++ x)) (onto_first b (lines_of ((bs ++ 10 ∷ []) ++ x)))
    ≡ cond t ([] ∷ lines_of (bs ++ 10 ∷ [])) (onto_first b (lines_of (bs ++ 10 ∷ []))) ++ lines_of x) [
      | true ↦ ap (λ (k : List (List ℕ)). [] ∷ k) (ended-append bs x)
      | false ↦ ap (onto_first b) (ended-append bs x) ∙ onto_first-append b h.0 h.1 (lines_of x) (lines_of (bs ++ 10 ∷ [])) h.2
    ]

-- the lines of whole lines and of what follows them
pub lines_of-append : (w x : List ℕ) → AreWholeLines w → lines_of (w ++ x) ≡ lines_of w ++ lines_of x
unfolding lines_of
lines_of-append w x (inl e) = rw e refl
lines_of-append w x (inr (f, e)) = rw e (ended-append f x)

module _ (result : List ℕ → List ℕ) where
  -- the output of whole lines and what follows them
  pub output_of-append : (w x : List ℕ) → AreWholeLines w → output_of result (w ++ x) ≡ output_of result w ++ output_of result x
  unfolding output_of
  output_of-append w x h = rw (lines_of-append w x h) (flat_map-append (line_output result) (lines_of w) (lines_of x))

  -- the output of one line and its line feed
  pub output_of-ended : (p : List ℕ) → IsPartLine p → output_of result (p ++ 10 ∷ []) ≡ line_output result p
  unfolding output_of lines_of
  output_of-ended p h = rw (lines_of-ended p [] h) (append-nil (line_output result p))

  -- the output of a last line without one
  pub output_of-last : (b : ℕ) (bs : List ℕ) → IsPartLine (b ∷ bs) → output_of result (b ∷ bs) ≡ line_output result (b ∷ bs)
  unfolding output_of
  output_of-last b bs h = rw (lines_of-last b bs h) (append-nil (line_output result (b ∷ bs)))

  -- no line has no output
  pub output_of-nothing : output_of result [] ≡ []
  unfolding output_of lines_of
  output_of-nothing = refl

-- whole lines followed by whole lines are whole lines
pub AreWholeLines-append : (a b : List ℕ) → AreWholeLines a → AreWholeLines b → AreWholeLines (a ++ b)
AreWholeLines-append a b h (inl e) = rw (e, append-nil a) h
AreWholeLines-append a b h (inr (f, e)) = inr (a ++ f, rw e (sym (append_assoc a f (10 ∷ []))))

-- a byte more that is no line feed
pub IsPartLine-push : (p : List ℕ) (b : ℕ) → IsPartLine p → eqb b 10 ≡ false → IsPartLine (p ++ b ∷ [])
IsPartLine-push [] b h e = (e, tt)
IsPartLine-push (c ∷ p) b h e = (h.0, IsPartLine-push p b h.1 e)

-- part of a line, written or not
pub output_of-part : (result : List ℕ → List ℕ) (p : List ℕ) → IsPartLine p → (eqb (length p) 0 ≡ false) →
    output_of result p ≡ line_output result p
output_of-part result [] h e = absurd cc
output_of-part result (b ∷ bs) h e = output_of-last result b bs h

-- the output of nothing is empty
pub output_of-none : (result : List ℕ → List ℕ) (p : List ℕ) → (eqb (length p) 0 ≡ true) → output_of result p ≡ []
output_of-none result [] e = output_of-nothing result
output_of-none result (b ∷ bs) e = absurd (omega (arith, eqb-true (length (b ∷ bs)) 0 e))

-- two parts of a line are one part
pub IsPartLine-append : (p q : List ℕ) → IsPartLine p → IsPartLine q → IsPartLine (p ++ q)
IsPartLine-append [] q h k = k
IsPartLine-append (b ∷ p) q h k = (h.0, IsPartLine-append p q h.1 k)

-- bytes of which none is a line feed
pub IsPartLine-at : (p : List ℕ) → ((k : ℕ) → k < length p → ¬ (eqb (get_or p k 0) 10 ≡ true)) → IsPartLine p
IsPartLine-at [] h = tt
IsPartLine-at (b ∷ p) h = (is_false (eqb b 10) (h 0 (omega arith)), IsPartLine-at p (λ k l. h (suc k) (omega arith)))
  where
    is_false : (t : Bool) → ¬ (t ≡ true) → t ≡ false
    is_false true n = absurd (n refl)
    is_false false n = refl

-- up to the first line feed, and where there is none
pub IsPartLine-front : (hay : List ℕ) (n : ℕ) → NoneBefore (Passes (is_byte 10) hay) 0 (length hay) n → IsPartLine (take n hay)
IsPartLine-front hay n f = IsPartLine-at (take n hay) (λ k l.
    let inside : k < n = omega (arith, length-take n hay) in
    rw get_or-take (f.before k (omega arith) inside))

-- bytes without a line feed are a part of a line
pub IsPartLine-all : (hay : List ℕ) → Nowhere (Passes (is_byte 10) hay) 0 (length hay) → IsPartLine hay
IsPartLine-all hay f = IsPartLine-at hay (λ k l. f k (omega arith) l)

-- the line, its end and the rest
pub line_split : (hay : List ℕ) (n : ℕ) → NoneBefore (Passes (is_byte 10) hay) 0 (length hay) n → Passes (is_byte 10) hay n →
    hay ≡ (take n hay ++ 10 ∷ []) ++ drop 1 (drop n hay)
line_split hay n f p =
    let here : get_or hay n 0 ≡ 10 = eqb-true (get_or hay n 0) 10 p in
    let tail : drop n hay ≡ 10 ∷ drop (n + 1) hay = drop_more hay n 0 f.high ∙ ap (λ (x : ℕ). x ∷ drop (n + 1) hay) here in
    let whole : hay ≡ take n hay ++ drop n hay = sym (take-append-drop n hay) in
    whole ∙ ap (λ (l : List ℕ). take n hay ++ l) tail ∙ sym (append_assoc (take n hay) (10 ∷ []) (drop (n + 1) hay))
    ∙ ap (λ (l : List ℕ). (take n hay ++ 10 ∷ []) ++ l) (ap (drop 1) (sym tail))

-- a list of length 0 is empty
pub nothing_of : (l : List ℕ) → length l ≡ 0 → l ≡ []
nothing_of [] e = refl
nothing_of (x ∷ l) e = absurd (omega arith)
