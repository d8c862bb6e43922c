-- Tests that go over a text from its first character on.
use Rattle.std.proofs.Common.{◌≡◌, ◌≢◌, ◌==◌, ℕ, refl, sym, ap, ◌∙◌, List, [], ◌∷◌, ◌++◌, length, chars, Bool, true, false}
use Rattle.std.specs.Str.{IsUtf8}
use Rattle.std.specs.Char.{encode_utf8}
use Rattle.std.proofs.lemmas.Bool.{eqb-true}
use Rattle.std.proofs.lemmas.List.{nil_from_length}
use Rattle.std.proofs.lemmas.Str.{chars_past_char, chars-nil, IsUtf8-past_char}

-- different characters aren't found equal
pub differs : (x y : ℕ) → x ≢ y → (x == y) ≡ false
differs x y other = go (x == y) refl
  where
    go : (b : Bool) → (x == y) ≡ b → b ≡ false
    go true e = absurd (other (eqb-true x y e))
    go false e = refl

-- the rest of a text is text, and a test of it has the answer of the whole
pub record Goes (answer : List ℕ → Bool) (bytes rest : List ℕ) : Type 0 where
  pub utf8 : IsUtf8 rest
  pub same : answer (chars rest) ≡ answer (chars bytes)

module _ (answer : List ℕ → Bool) (bytes rest : List ℕ) where
  -- at the start the rest is the whole
  pub begins : IsUtf8 bytes → rest ≡ bytes → Goes answer bytes rest
  begins utf8 e = rw e (record { utf8 = utf8; same = refl })

  -- a character that doesn't matter
  pub goes_on : (next : List ℕ) (c : ℕ) → Goes answer bytes rest → rest ≡ encode_utf8 c ++ next →
      answer (c ∷ chars next) ≡ answer (chars next) → Goes answer bytes next
  goes_on next c g e other = record {
    utf8 = IsUtf8-past_char rest next c g.utf8 e;
    same = sym other ∙ ap answer (sym (chars_past_char rest next c g.utf8 e)) ∙ g.same;
  }

  -- a character that settles it
  pub found : (next : List ℕ) (c : ℕ) → Goes answer bytes rest → rest ≡ encode_utf8 c ++ next → answer (c ∷ chars next) ≡ true →
      true ≡ answer (chars bytes)
  found next c g e met = sym met ∙ ap answer (sym (chars_past_char rest next c g.utf8 e)) ∙ g.same

  -- the end
  pub ends : Goes answer bytes rest → length rest ≡ 0 → answer [] ≡ false → false ≡ answer (chars bytes)
  ends g e nothing = sym nothing ∙ ap answer (sym (ap chars (nil_from_length rest e) ∙ chars-nil)) ∙ g.same
