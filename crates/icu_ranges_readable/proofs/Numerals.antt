-- Texts of digits with separators in their gaps: what stands behind such a text determines where it ends.
-- Induction on the digits from the left. Where one text ends and the other goes on, what stands behind the first would be a separator with
-- a digit behind it.
use Rattle.std.proofs.Common.{◌≡◌, ◌≢◌, ◌⊎◌, inl, inr, ℕ, refl, sym, ap₂, ◌∙◌, subst, List, [], ◌∷◌, ◌++◌, append_assoc}
use Rattle.icu_decimal.proofs.Runs.{Every, Begins, every_after, split_run}

-- digits, in front of some of which a separator stands
pub data Tail : Type 0 where
  end : Tail
  digit : ℕ → Tail → Tail
  gap : List ℕ → ℕ → Tail → Tail

-- its characters
abbrev pub text : Tail → List ℕ
text end = []
text (digit x t) = x ∷ text t
text (gap g x t) = g ++ (x ∷ text t)

-- D: a digit; N: any other character; G: a separator
module _ (D N : ℕ → Type 0) (G : List ℕ → Type 0) where
  -- a separator of other characters
  pub record IsGap (g : List ℕ) : Type 0 where
    pub is : G g
    pub some : g ≢ []
    pub none : Every N g

  -- its digits are digits, and its separators are separators
  abbrev pub IsNumeral : Tail → Type 0
  IsNumeral end = Unit {0}
  IsNumeral (digit x t) = D x × IsNumeral t
  IsNumeral (gap g x t) = IsGap g × D x × IsNumeral t

  -- other characters that aren't a separator, with a digit behind them
  pub record IsMiddle (rest : List ℕ) : Type 0 where
    pub others : List ℕ
    pub first : ℕ
    pub more : List ℕ
    pub all : rest ≡ others ++ (first ∷ more)
    pub some : others ≢ []
    pub none : Every N others
    pub is_digit : D first
    pub no_gap : G others → ⊥

  -- what stands behind a number: no digit, or such a middle
  abbrev pub Closes : List ℕ → Type 0
  Closes rest = Every N rest ⊎ IsMiddle rest

-- no digit is another character
module _ (D N : ℕ → Type 0) (G : List ℕ → Type 0) (clash : (c : ℕ) → D c → N c → ⊥) where
  -- other characters, and then more, begin with one of them
  begins_other : (others more : List ℕ) → others ≢ [] → Every N others → Begins N (others ++ more)
  begins_other [] more some none = absurd (some refl)
  begins_other (c ∷ cs) more some none = none.0

  -- what stands behind a number doesn't begin with a digit
  no_digit : (rest : List ℕ) (x : ℕ) (more : List ℕ) → Closes D N G rest → D x → rest ≡ x ∷ more → ⊥
  no_digit rest x more (inl h) hx e = clash x hx (subst (Every N) e h).0
  no_digit rest x more (inr m) hx e =
      clash x hx (subst (Begins N) (sym m.all ∙ e) (begins_other m.others (m.first ∷ m.more) m.some m.none))

  -- nor with a separator and a digit behind it
  no_gap : (rest g : List ℕ) (x : ℕ) (more : List ℕ) → Closes D N G rest → IsGap D N G g → D x → rest ≡ g ++ (x ∷ more) → ⊥
  no_gap rest g x more (inl h) hg hx e = clash x hx (every_after N g (x ∷ more) (subst (Every N) e h)).0
  no_gap rest g x more (inr m) hg hx e =
      let same = split_run N D (λ c n d. clash c d n) m.others g (m.first ∷ m.more) (x ∷ more) m.none hg.none m.is_digit hx (sym m.all ∙ e) in
      m.no_gap (subst G (sym same.0) hg.is)

  -- a digit isn't the first of a separator
  no_digit_in_gap : (g : List ℕ) (x : ℕ) (more rest : List ℕ) → IsGap D N G g → D x → x ∷ more ≡ g ++ rest → ⊥
  no_digit_in_gap g x more rest hg hx e = clash x hx (subst (Begins N) (sym e) (begins_other g rest hg.some hg.none))

  -- the text of a number and what stands behind it are determined
  pub numeral_tells : (t u : Tail) (rest other : List ℕ) → IsNumeral D N G t → IsNumeral D N G u → Closes D N G rest → Closes D N G other
      → text t ++ rest ≡ text u ++ other → (text t ≡ text u) × (rest ≡ other)
  numeral_tells end end rest other ht hu hr ho e = (refl, e)
  numeral_tells end (digit y u) rest other ht hu hr ho e = absurd (no_digit rest y (text u ++ other) hr hu.0 e)
  numeral_tells end (gap g y u) rest other ht hu hr ho e =
      absurd (no_gap rest g y (text u ++ other) hr hu.0 hu.1 (e ∙ append_assoc g (y ∷ text u) other))
  numeral_tells (digit x t) end rest other ht hu hr ho e = absurd (no_digit other x (text t ++ rest) ho ht.0 (sym e))
  numeral_tells (gap g x t) end rest other ht hu hr ho e =
      absurd (no_gap other g x (text t ++ rest) ho ht.0 ht.1 (sym e ∙ append_assoc g (x ∷ text t) rest))
  numeral_tells (digit x t) (digit y u) rest other ht hu hr ho e =
      let heads : x ≡ y = cc in
      let tails : text t ++ rest ≡ text u ++ other = cc in
      let more = numeral_tells t u rest other ht.1 hu.1 hr ho tails in
      (ap₂ ◌∷◌ heads more.0, more.1)
  numeral_tells (digit x t) (gap g y u) rest other ht hu hr ho e =
      absurd (no_digit_in_gap g x (text t ++ rest) ((y ∷ text u) ++ other) hu.0 ht.0 (e ∙ append_assoc g (y ∷ text u) other))
  numeral_tells (gap g x t) (digit y u) rest other ht hu hr ho e =
      absurd (no_digit_in_gap g y (text u ++ other) ((x ∷ text t) ++ rest) ht.0 hu.0 (sym e ∙ append_assoc g (x ∷ text t) rest))
  numeral_tells (gap g x t) (gap k y u) rest other ht hu hr ho e =
      let opened = split_run N D (λ c n d. clash c d n) g k ((x ∷ text t) ++ rest) ((y ∷ text u) ++ other) ht.0.none hu.0.none ht.1 hu.1
      (sym (append_assoc g (x ∷ text t) rest) ∙ e ∙ append_assoc k (y ∷ text u) other) in
      let heads : x ≡ y = cc in
      let tails : text t ++ rest ≡ text u ++ other = cc in
      let more = numeral_tells t u rest other ht.2 hu.2 hr ho tails in
      (ap₂ ◌++◌ opened.0 (ap₂ ◌∷◌ heads more.0), more.1)
